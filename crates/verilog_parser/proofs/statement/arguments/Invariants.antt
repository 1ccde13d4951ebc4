use Rattle.std.proofs.Common.{◌≡◌, length}
use Rattle.grammar_rules.specs.Rule.{going, many}
use Rattle.grammar_rules.specs.Grammar.{reads}
use Rattle.verilog_grammar.specs.declared.kind.Kind.TheVariants as k
use Rattle.verilog_grammar.specs.Language.{verilog}
use Rattle.verilog_grammar.specs.Verilog.{grammar}
use Rattle.verilog_grammar.specs.Parts.{after}
use Rattle.verilog_grammar.specs.Statements.{argument_rule, arguments_rule}
use Rattle.verilog_parser.proofs.Statements.{drop_all}
use Rattle.verilog_parser.proofs.statement.arguments.Given as goal

abbrev pub invariant-more : goal.invariant-more
invariant-more l = going drop_all tt (reads verilog grammar l.depth (many (after k.Comma argument_rule)) l.cursor) ≡ reads verilog grammar l.depth arguments_rule l.fn.cursor

abbrev pub decreases-more : goal.decreases-more
decreases-more l = length l.cursor
