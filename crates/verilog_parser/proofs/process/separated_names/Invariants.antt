use Rattle.std.proofs.Common.{◌≡◌, ◌++◌, length}
use Rattle.grammar_rules.specs.Rule.{going, many}
use Rattle.grammar_rules.specs.Grammar.{reads}
use Rattle.verilog_grammar.specs.Language.{verilog}
use Rattle.verilog_grammar.specs.Verilog.{grammar}
use Rattle.verilog_grammar.specs.Parts.{name_rule}
use Rattle.verilog_grammar.specs.Modules.{separated}
use Rattle.verilog_parser.specs.Processes.{next_rule}
use Rattle.verilog_parser.proofs.process.separated_names.Given as goal

abbrev pub invariant-more : goal.invariant-more
invariant-more l = going ◌++◌ l.all.items (reads verilog grammar 0 (many (next_rule name_rule)) l.cursor) ≡ reads verilog grammar 0 (separated name_rule) l.fn.cursor

abbrev pub decreases-more : goal.decreases-more
decreases-more l = length l.cursor
