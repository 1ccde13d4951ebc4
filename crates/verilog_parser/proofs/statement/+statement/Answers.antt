use Rattle.std.proofs.Common.{◌++◌, refl, sym, ◌∙◌}
use Rattle.std.proofs.lemmas.Result.{err_from_is_err_and}
use Rattle.grammar_rules.specs.Rule.{nest}
use Rattle.grammar_rules.proofs.Language.{falls}
use Rattle.grammar_rules.proofs.Loops.{list_pushed, list_ends}
use Rattle.verilog_tree.specs.View.{statement_view, statements_view, arm_view, arms_view}
use Rattle.verilog_grammar.specs.Language.{verilog, statement}
use Rattle.verilog_grammar.specs.Verilog.{grammar}
use Rattle.verilog_grammar.specs.Expressions.{exprs_rule}
use Rattle.verilog_grammar.specs.Statements.{label_arm_rule}
use Rattle.verilog_grammar.proofs.Verilog.{tables, passes}
use Rattle.verilog_parser.proofs.Repeated.{turn_fails}
use Rattle.verilog_parser.proofs.statement.+statement.Goals as goal

pub statements-more-preserved : goal.statements-more-preserved
statements-more-preserved t c =
    list_pushed verilog grammar tables passes statement_view _ (nest (statement c.args.body)) _ _ _ _ _ _ refl (passes.no_end (statement c.args.body)) c.in_ok-push.ensures.items (sym c.begins_statement.ensures ∙ c.more-test.true) c.in_ok-next.ensures c.more.invariant

pub statements-more-smaller : goal.statements-more-smaller
statements-more-smaller t c = falls verilog grammar tables passes _ (nest (statement c.args.body)) refl _ _ _ c.in_ok-next.ensures

pub statements-returns : goal.statements-returns
statements-returns t c = list_ends verilog grammar tables passes statement_view _ (nest (statement c.args.body)) _ _ _ refl (passes.no_end (statement c.args.body)) (sym c.begins_statement.ensures ∙ c.more-test.false) c.more.invariant

pub statements-returns-in_err-next : goal.statements-returns-in_err-next
statements-returns-in_err-next t c =
    let p = err_from_is_err_and c.from_residual.result c.from_residual.ensures.1 in
    rw (p.1, p.2) (turn_fails ◌++◌ _ (nest (statement c.args.body)) refl (passes.no_end (statement c.args.body)) (statements_view c.more.all.items) _ _ _ (sym c.begins_statement.ensures ∙ c.more-test.true) c.in_err-next.ensures c.more.invariant)

pub label_arms-more-preserved : goal.label_arms-more-preserved
unfolding label_arm_rule exprs_rule
label_arms-more-preserved t c =
    list_pushed verilog grammar tables passes arm_view _ (label_arm_rule c.args.body) _ _ _ _ _ _ refl refl c.in_ok-push.ensures.items (sym c.begins_expression.ensures ∙ c.more-test.true) c.in_ok-next.ensures c.more.invariant

pub label_arms-more-smaller : goal.label_arms-more-smaller
unfolding label_arm_rule exprs_rule
label_arms-more-smaller t c = falls verilog grammar tables passes _ (label_arm_rule c.args.body) refl _ _ _ c.in_ok-next.ensures

pub label_arms-returns : goal.label_arms-returns
unfolding label_arm_rule exprs_rule
label_arms-returns t c = list_ends verilog grammar tables passes arm_view _ (label_arm_rule c.args.body) _ _ _ refl refl (sym c.begins_expression.ensures ∙ c.more-test.false) c.more.invariant

pub label_arms-returns-in_err-next : goal.label_arms-returns-in_err-next
unfolding label_arm_rule exprs_rule
label_arms-returns-in_err-next t c =
    let p = err_from_is_err_and c.from_residual.result c.from_residual.ensures.1 in
    rw (p.1, p.2) (turn_fails ◌++◌ _ (label_arm_rule c.args.body) refl refl (arms_view c.more.all.items) _ _ _ (sym c.begins_expression.ensures ∙ c.more-test.true) c.in_err-next.ensures c.more.invariant)
