use Rattle.std.proofs.Common.{◌≡◌, length}
use Rattle.grammar_rules.specs.Rule.{made, going}
use Rattle.grammar_rules.specs.Grammar.{reads}
use Rattle.verilog_grammar.specs.Language.{verilog}
use Rattle.verilog_grammar.specs.Verilog.{grammar}
use Rattle.verilog_grammar.specs.Modules.{entry_rule, entries_rule, declared_ports}
use Rattle.verilog_items.specs.Declarations.{with_entries}
use Rattle.verilog_items.proofs.Listed.{behind}
use Rattle.verilog_items.proofs.port.declared_ports.Given as goal

abbrev pub invariant-more : goal.invariant-more
invariant-more l = going with_entries l.ports (reads verilog grammar l.depth (behind entry_rule) l.cursor) ≡ reads verilog grammar l.depth (made declared_ports entries_rule) l.fn.cursor

abbrev pub decreases-more : goal.decreases-more
decreases-more l = length l.cursor
