use Rattle.std.proofs.Common.{sym, ◌∙◌}
use Rattle.std.proofs.lemmas.Result.{err_from_is_err_and}
use Rattle.verilog_grammar.specs.Expressions.{may_be_indexed, target_name_rule}
use Rattle.verilog_expressions.specs.Measured.{measured_view}
use Rattle.verilog_expressions.proofs.Selects.{name_alone, name_fails, once_alone, once_final, twice_selected, indexed_read, name_indexed, indexed_twice}
use Rattle.verilog_expressions.proofs.select.target_name.Goals as goal
use Rattle.verilog_expressions.proofs.select.target_name.Goals.{then-not-is_bit-via-then-not-is_bit, then-not-is_bit-via-else-not-is_bit+then-not-sees-2}

pub returns-then-not-sees : goal.returns-then-not-sees
unfolding target_name_rule
returns-then-not-sees c =
    name_alone c.args.depth may_be_indexed name_indexed indexed_twice c.args.cursor.now (measured_view c.in_ok-name.name) c.identifier.new.cursor
    c.in_ok-name.ensures (sym c.sees.ensures ∙ c.if-not-sees.true)

pub returns-in_err-part : goal.returns-in_err-part
unfolding target_name_rule
returns-in_err-part c =
    let p = err_from_is_err_and c.from_residual-in_err-part.result c.from_residual-in_err-part.ensures.1 in
    rw (p.1, p.2)
    (name_fails c.args.depth may_be_indexed name_indexed indexed_twice c.args.cursor.now (measured_view c.in_ok-name.name) c.identifier.new.cursor c.in_err-part.field-0.0
    c.in_ok-name.ensures (sym c.sees.ensures ∙ c.if-not-sees.false) c.in_err-part.ensures)

pub returns-then-not-is_bit : goal.returns-then-not-is_bit
unfolding target_name_rule
returns-then-not-is_bit c =
    let name = measured_view c.in_ok-name.name in
    let part = measured_view c.in_ok-part.part in
    let sees = sym c.sees.ensures ∙ c.if-not-sees.false in
    let indexed = indexed_read c.args.depth c.args.cursor.now c.identifier.new.cursor c.selected.new.cursor name part c.in_ok-name.ensures c.in_ok-part.ensures in
    elim c.then-not-is_bit.branch [
      | then-not-is_bit-via-then-not-is_bit w ↦
          once_final c.args.depth may_be_indexed name_indexed indexed_twice c.args.cursor.now name c.identifier.new.cursor part c.selected.new.cursor
          c.in_ok-name.ensures sees c.in_ok-part.ensures (indexed ∙ sym c.is_bit.ensures ∙ w.if-not-is_bit.true)
      | then-not-is_bit-via-else-not-is_bit+then-not-sees-2 w ↦
          once_alone c.args.depth may_be_indexed name_indexed indexed_twice c.args.cursor.now name c.identifier.new.cursor part c.selected.new.cursor
          c.in_ok-name.ensures sees c.in_ok-part.ensures (sym w.sees-else-not-is_bit.ensures ∙ w.if-not-sees-2.true)
    ]

pub returns : goal.returns
unfolding target_name_rule
returns c =
    let name = measured_view c.in_ok-name.name in
    let part = measured_view c.in_ok-part.part in
    let sees = sym c.sees.ensures ∙ c.if-not-sees.false in
    let again = sym c.sees-else-not-is_bit.ensures ∙ c.if-not-sees-2.false in
    let indexed = indexed_read c.args.depth c.args.cursor.now c.identifier.new.cursor c.selected.new.cursor name part c.in_ok-name.ensures c.in_ok-part.ensures in
    rw (twice_selected c.args.depth may_be_indexed name_indexed indexed_twice c.args.cursor.now name c.identifier.new.cursor part c.selected.new.cursor
    c.in_ok-name.ensures sees c.in_ok-part.ensures again (indexed ∙ sym c.is_bit.ensures ∙ c.if-not-is_bit.false)) c.selected-2.ensures
