use Rattle.std.proofs.Common.{refl, sym, ◌∙◌, arith, rules}
use Rattle.std.proofs.lemmas.Result.{err_from_is_err_and}
use Rattle.grammar_rules.specs.Rule.{nest}
use Rattle.grammar_rules.proofs.Language.{falls}
use Rattle.verilog_grammar.specs.declared.kind.Kind.TheVariants as k
use Rattle.verilog_grammar.specs.Language.{verilog, target as a_target}
use Rattle.verilog_grammar.specs.Verilog.{grammar}
use Rattle.verilog_grammar.specs.Parts.{after}
use Rattle.verilog_grammar.proofs.Verilog.{tables, passes}
use Rattle.verilog_expressions.specs.Measured.{measured_view}
use Rattle.verilog_expressions.specs.Others.{others_view}
use Rattle.verilog_expressions.proofs.Lowness.{read_low}
use Rattle.verilog_expressions.proofs.Others.{none_else, first_alone, one_else, one_behind, going_none, others_more, others_end, others_fail, item_read, no_token, no_phrase}
use Rattle.verilog_expressions.proofs.select.+left_side.Goals as goal

pub with_targets-more-init : goal.with_targets-more-init
with_targets-more-init t c =
    let alone = first_alone c.in_ok-all.all (measured_view c.args.first) c.args.start c.in_ok-all.ensures in
    record {
      others = rw (none_else c.in_ok-all.all (measured_view c.args.first) c.args.start c.in_ok-all.ensures) (going_none _);
      exprs = alone.exprs;
      start = alone.start;
    }

pub with_targets-more-preserved : goal.with_targets-more-preserved
with_targets-more-preserved t c =
    let next = measured_view c.in_ok-next.next in
    let behind = one_behind c.more.all c.push.new.self (measured_view c.args.first) next c.args.start c.more.invariant.exprs c.more.invariant.start c.in_ok-push.ensures in
    record {
      others =
          others_more c.args.depth (after k.Comma (nest a_target)) refl refl (others_view c.more.all) (others_view c.push.new.self) next c.more.cursor c.target.new.cursor _
          (one_else c.more.all c.push.new.self (measured_view c.args.first) next c.more.invariant.exprs c.in_ok-push.ensures) (sym c.sees.ensures ∙ c.more-test.true)
          (item_read c.args.depth k.Comma a_target c.more.cursor _ c.target.new.cursor _ _ c.in_ok-take.ensures c.in_ok-next.ensures) c.more.invariant.others;
      exprs = behind.exprs;
      start = behind.start;
    }

pub with_targets-more-smaller : goal.with_targets-more-smaller
with_targets-more-smaller t c =
    falls verilog grammar tables passes c.args.depth (after k.Comma (nest a_target)) refl c.more.cursor _ c.target.new.cursor
    (item_read c.args.depth k.Comma a_target c.more.cursor _ c.target.new.cursor _ _ c.in_ok-take.ensures c.in_ok-next.ensures)

pub with_targets-returns-clause-others : goal.with_targets-returns-clause-others
with_targets-returns-clause-others t c =
    others_end c.args.depth (after k.Comma (nest a_target)) refl refl (others_view c.more.all) c.more.cursor _ (sym c.sees.ensures ∙ c.more-test.false) c.more.invariant.others

pub with_targets-returns-in_err-take-clause-others : goal.with_targets-returns-in_err-take-clause-others
with_targets-returns-in_err-take-clause-others t c =
    let p = err_from_is_err_and c.from_residual-in_err-take.result c.from_residual-in_err-take.ensures.1 in
    rw (p.1, p.2)
    (others_fail c.args.depth (after k.Comma (nest a_target)) refl refl (others_view c.more.all) c.more.cursor _ c.in_err-take.field-0.0 (sym c.sees.ensures ∙ c.more-test.true)
    (no_token c.args.depth k.Comma a_target c.more.cursor c.in_err-take.field-0.0 c.in_err-take.ensures) c.more.invariant.others)

pub with_targets-returns-in_err-next-clause-others : goal.with_targets-returns-in_err-next-clause-others
with_targets-returns-in_err-next-clause-others t c =
    let p = err_from_is_err_and c.from_residual-in_err-next.result c.from_residual-in_err-next.ensures.1 in
    rw (p.1, p.2)
    (others_fail c.args.depth (after k.Comma (nest a_target)) refl refl (others_view c.more.all) c.more.cursor _ c.in_err-next.field-0.0 (sym c.sees.ensures ∙ c.more-test.true)
    (no_phrase c.args.depth k.Comma a_target c.more.cursor _ _ c.in_err-next.field-0.0 c.in_ok-take.ensures c.in_err-next.ensures) c.more.invariant.others)

pub targets-with_targets-requires : goal.targets-with_targets-requires
targets-with_targets-requires t c = (search rules, (omega (arith, c.none.ensures.height), read_low c.args.depth a_target _ _ _ (omega arith) c.in_ok-first.ensures))

pub with_targets-push-requires : goal.with_targets-push-requires
with_targets-push-requires t c = read_low c.args.depth a_target _ _ _ (omega arith) c.in_ok-next.ensures
