use Rattle.std.proofs.Common.{◌≡◌, ◌++◌, length}
use Rattle.grammar_rules.specs.Rule.{many, going}
use Rattle.grammar_rules.specs.Grammar.{reads}
use Rattle.verilog_grammar.specs.Language.{verilog}
use Rattle.verilog_grammar.specs.Verilog.{grammar}
use Rattle.verilog_tree.specs.View.{modules_view}
use Rattle.verilog_grammar.specs.Modules.{module_rule, source_rule}
use Rattle.verilog_parser.proofs.module.each_module.Given as goal

abbrev pub invariant-more : goal.invariant-more
invariant-more l = going ◌++◌ (modules_view l.all.items) (reads verilog grammar l.depth (many module_rule) l.cursor) ≡ reads verilog grammar l.depth source_rule l.fn.cursor

abbrev pub decreases-more : goal.decreases-more
decreases-more l = length l.cursor
