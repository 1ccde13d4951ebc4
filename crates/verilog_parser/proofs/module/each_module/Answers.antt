use Rattle.std.proofs.Common.{refl, sym, ◌∙◌, ◌++◌}
use Rattle.std.proofs.lemmas.Result.{err_from_is_err_and}
use Rattle.verilog_tree.specs.View.{module_view}
use Rattle.grammar_rules.proofs.Language.{falls}
use Rattle.grammar_rules.proofs.Loops.{list_pushed, list_ends}
use Rattle.verilog_grammar.specs.Language.{verilog}
use Rattle.verilog_grammar.specs.Verilog.{grammar}
use Rattle.verilog_grammar.specs.Modules.{module_rule}
use Rattle.verilog_grammar.proofs.Verilog.{tables, passes}
use Rattle.verilog_items.proofs.Listed.{many_fails}
use Rattle.verilog_parser.proofs.module.each_module.Goals as goal

pub more-preserved : goal.more-preserved
unfolding module_rule
more-preserved c = list_pushed verilog grammar tables passes module_view _ module_rule _ _ _ _ _ _ refl refl c.in_ok-push.ensures.items (sym c.sees.ensures ∙ c.more-test.true) c.in_ok-next.ensures c.more.invariant

pub more-smaller : goal.more-smaller
unfolding module_rule
more-smaller c = falls verilog grammar tables passes _ module_rule refl _ _ _ c.in_ok-next.ensures

pub returns : goal.returns
unfolding module_rule
returns c = list_ends verilog grammar tables passes module_view _ module_rule _ _ _ refl refl (sym c.sees.ensures ∙ c.more-test.false) c.more.invariant

pub returns-in_err-next : goal.returns-in_err-next
unfolding module_rule
returns-in_err-next c =
    let p = err_from_is_err_and c.from_residual.result c.from_residual.ensures.1 in
    rw (p.1, p.2) (many_fails ◌++◌ _ module_rule refl refl _ _ _ _ (sym c.sees.ensures ∙ c.more-test.true) c.in_err-next.ensures c.more.invariant)
