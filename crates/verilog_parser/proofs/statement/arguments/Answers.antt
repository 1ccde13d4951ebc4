use Rattle.std.proofs.Common.{refl, sym, ◌∙◌}
use Rattle.std.proofs.lemmas.Result.{err_from_is_err_and}
use Rattle.grammar_rules.proofs.Language.{falls}
use Rattle.grammar_rules.proofs.Loops.{one_more, no_more}
use Rattle.verilog_grammar.specs.declared.kind.Kind.TheVariants as k
use Rattle.verilog_grammar.specs.Language.{verilog}
use Rattle.verilog_grammar.specs.Verilog.{grammar}
use Rattle.verilog_grammar.specs.Parts.{after}
use Rattle.verilog_grammar.specs.Statements.{dropped, argument_rule, arguments_rule}
use Rattle.verilog_grammar.proofs.Verilog.{tables, passes}
use Rattle.verilog_parser.proofs.Repeated.{begun, turn_fails}
use Rattle.verilog_parser.proofs.Statements.{drop_all}
use Rattle.verilog_parser.proofs.statement.arguments.Goals as goal

pub more-init : goal.more-init
unfolding arguments_rule
more-init c = begun drop_all dropped _ argument_rule (after k.Comma argument_rule) tt tt _ _ (λ vs. refl) c.in_ok-argument.ensures

pub more-preserved : goal.more-preserved
more-preserved c =
    one_more verilog grammar tables passes drop_all _ (after k.Comma argument_rule) refl refl tt tt tt _ _ _ (λ vs. refl) (sym c.sees.ensures ∙ c.more-test.true) c.in_ok-next_argument.ensures c.more.invariant

pub more-smaller : goal.more-smaller
more-smaller c = falls verilog grammar tables passes _ (after k.Comma argument_rule) refl _ tt _ c.in_ok-next_argument.ensures

pub returns : goal.returns
returns c = no_more verilog grammar tables passes drop_all _ (after k.Comma argument_rule) refl refl tt _ _ (sym c.sees.ensures ∙ c.more-test.false) c.more.invariant

pub returns-in_err-next_argument : goal.returns-in_err-next_argument
returns-in_err-next_argument c =
    let p = err_from_is_err_and c.from_residual-in_err-next_argument.result c.from_residual-in_err-next_argument.ensures.1 in
    rw (p.1, p.2) (turn_fails drop_all _ (after k.Comma argument_rule) refl refl tt _ _ _ (sym c.sees.ensures ∙ c.more-test.true) c.in_err-next_argument.ensures c.more.invariant)
