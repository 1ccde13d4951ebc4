use Rattle.std.proofs.Common.{◌++◌, refl, sym, ◌∙◌}
use Rattle.std.proofs.lemmas.Result.{err_from_is_err_and}
use Rattle.grammar_rules.proofs.Language.{falls}
use Rattle.verilog_grammar.specs.Language.{verilog}
use Rattle.verilog_grammar.specs.Verilog.{grammar}
use Rattle.verilog_grammar.specs.Parts.{name_rule}
use Rattle.verilog_grammar.proofs.Verilog.{tables, passes}
use Rattle.verilog_parser.specs.Processes.{next_rule}
use Rattle.verilog_parser.proofs.Repeated.{list_begun, plain_pushed, plain_ends, turn_fails}
use Rattle.verilog_parser.proofs.process.separated_names.Goals as goal

pub more-init : goal.more-init
more-init c = list_begun 0 name_rule (next_rule name_rule) _ _ _ _ _ c.new-all.ensures.items c.in_ok-push.ensures.items c.in_ok-first.ensures

pub more-preserved : goal.more-preserved
more-preserved c = plain_pushed 0 (next_rule name_rule) _ _ _ _ _ _ refl refl c.in_ok-push-2.ensures.items (sym c.sees_separator.ensures ∙ c.more-test.true) c.in_ok-next.ensures c.more.invariant

pub more-smaller : goal.more-smaller
more-smaller c = falls verilog grammar tables passes 0 (next_rule name_rule) refl _ _ _ c.in_ok-next.ensures

pub returns : goal.returns
returns c = plain_ends 0 (next_rule name_rule) _ _ _ refl refl (sym c.sees_separator.ensures ∙ c.more-test.false) c.more.invariant

pub returns-in_err-next : goal.returns-in_err-next
returns-in_err-next c =
    let p = err_from_is_err_and c.from_residual-in_err-next.result c.from_residual-in_err-next.ensures.1 in
    rw (p.1, p.2) (turn_fails ◌++◌ 0 (next_rule name_rule) refl refl c.more.all.items _ _ _ (sym c.sees_separator.ensures ∙ c.more-test.true) c.in_err-next.ensures c.more.invariant)
