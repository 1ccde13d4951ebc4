use Rattle.std.proofs.Common.{◌∙◌, sym, ap, subst}
use Rattle.std.specs.Option.{option_copied}
use Rattle.verilog_tree.specs.View.{expr_view}
use Rattle.verilog_tree.specs.declared.statement.For.{out-For}
use Rattle.verilog_tree.specs.Tree.{Header}
use Rattle.elab_const.specs.Calls.{Gives}
use Rattle.elab_const.specs.Scope.{look_up}
use Rattle.elab_const.specs.Loops.{turns_answer}
use Rattle.elab_const.proofs.LoopLemmas.{turns_are, turns_fail, header_view}
use Rattle.elab_const.proofs.calls.turns.Goals as goal

pub returns-in-Ok : goal.returns-in-Ok
returns-in-Ok c =
    let g = look_up c.args.scope.now in
    let h = out-For c.args.header.now in
    let header : Header = record { place = h.place; name = expr_view h.name; first = expr_view h.first; test = expr_view h.test; target = expr_view h.target; step = expr_view h.step } in
    let named = sym c.variable_of.ensures ∙ ap option_copied c.in-Some.is in
    let over = sym c.is_closed.ensures ∙ c.if-not-is_closed.false in
    let first = sym (rw c.of-2.ensures at c.integer_value.ensures) ∙ c.in-Ok.is in
    subst (λ a. Gives c.turns_from.result a) (sym (ap (turns_answer g) (header_view c.args.header.now) ∙ turns_are g header c.in-Some.variable.now c.in-Ok.first named over first)) c.turns_from.ensures

pub returns-in-Err : goal.returns-in-Err
returns-in-Err c =
    let g = look_up c.args.scope.now in
    let h = out-For c.args.header.now in
    let header : Header = record { place = h.place; name = expr_view h.name; first = expr_view h.first; test = expr_view h.test; target = expr_view h.target; step = expr_view h.step } in
    let named = sym c.variable_of.ensures ∙ ap option_copied c.in-Some.is in
    let over = sym c.is_closed.ensures ∙ c.if-not-is_closed.false in
    let first = sym (rw c.of-2.ensures at c.integer_value.ensures) ∙ c.in-Err.is in
    let fails = ap (turns_answer g) (header_view c.args.header.now) ∙ turns_fail g header c.in-Some.variable.now c.in-Err.fault named over first in
    rw c.of-in-Err.ensures fails
