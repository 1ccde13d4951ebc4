use Rattle.std.proofs.Common.{◌≡◌, ◌++◌, length}
use Rattle.grammar_rules.specs.Rule.{going}
use Rattle.grammar_rules.specs.Grammar.{reads}
use Rattle.verilog_grammar.specs.Language.{verilog}
use Rattle.verilog_grammar.specs.Verilog.{grammar}
use Rattle.verilog_grammar.specs.Parts.{name_rule}
use Rattle.verilog_items.proofs.Listed.{behind}
use Rattle.verilog_items.proofs.declaration.names_behind.Given as goal

abbrev pub invariant-more : goal.invariant-more
invariant-more l = going ◌++◌ l.all.items (reads verilog grammar 0 (behind name_rule) l.cursor) ≡ reads verilog grammar 0 (behind name_rule) l.fn.cursor

abbrev pub decreases-more : goal.decreases-more
decreases-more l = length l.cursor
