-- Calls of one depth go down the list of functions; the others go one deeper.
use Rattle.std.proofs.Common.{◌≡◌, ◌+◌, ◌*◌, ◌++◌, length}
use Rattle.grammar_rules.specs.Rule.{going, many, nest}
use Rattle.grammar_rules.specs.Grammar.{reads}
use Rattle.verilog_tree.specs.View.{statements_view, arms_view}
use Rattle.verilog_grammar.specs.Language.{verilog, statement}
use Rattle.verilog_grammar.specs.Verilog.{grammar}
use Rattle.verilog_grammar.specs.Statements.{statements_rule, label_arm_rule, label_arms_rule}
use Rattle.verilog_parser.proofs.statement.+statement.Given as goal

abbrev pub decreases-statement : goal.decreases-statement
decreases-statement l = l.depth * 8

abbrev pub decreases-form : goal.decreases-form
decreases-form l = l.depth * 8 + 7

abbrev pub decreases-block : goal.decreases-block
decreases-block l = l.depth * 8 + 6

abbrev pub decreases-statements : goal.decreases-statements
decreases-statements l = l.depth * 8 + 5

abbrev pub decreases-choice : goal.decreases-choice
decreases-choice l = l.depth * 8 + 6

abbrev pub decreases-case : goal.decreases-case
decreases-case l = l.depth * 8 + 6

abbrev pub decreases-for_loop : goal.decreases-for_loop
decreases-for_loop l = l.depth * 8 + 6

abbrev pub decreases-arms : goal.decreases-arms
decreases-arms l = l.depth * 8 + 5

abbrev pub decreases-default_arms : goal.decreases-default_arms
decreases-default_arms l = l.depth * 8 + 4

abbrev pub decreases-label_arms : goal.decreases-label_arms
decreases-label_arms l = l.depth * 8 + 3

abbrev pub decreases-label_arm : goal.decreases-label_arm
decreases-label_arm l = l.depth * 8 + 2

abbrev pub decreases-default_arm : goal.decreases-default_arm
decreases-default_arm l = l.depth * 8 + 2

abbrev pub invariant-statements-more : goal.invariant-statements-more
invariant-statements-more l =
    going ◌++◌ (statements_view l.all.items) (reads verilog grammar l.depth (many (nest (statement l.body))) l.cursor) ≡ reads verilog grammar l.depth (statements_rule l.body) l.fn.cursor

abbrev pub decreases-statements-more : goal.decreases-statements-more
decreases-statements-more l = length l.cursor

abbrev pub invariant-label_arms-more : goal.invariant-label_arms-more
invariant-label_arms-more l =
    going ◌++◌ (arms_view l.all.items) (reads verilog grammar l.depth (many (label_arm_rule l.body)) l.cursor) ≡ reads verilog grammar l.depth (label_arms_rule l.body) l.fn.cursor

abbrev pub decreases-label_arms-more : goal.decreases-label_arms-more
decreases-label_arms-more l = length l.cursor
