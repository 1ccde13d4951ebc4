use Rattle.std.proofs.Common.{◌≡◌, ◌++◌, length}
use Rattle.grammar_rules.specs.Rule.{going}
use Rattle.grammar_rules.specs.Grammar.{reads}
use Rattle.verilog_tree.specs.View.{ones_view}
use Rattle.verilog_grammar.specs.Language.{verilog}
use Rattle.verilog_grammar.specs.Verilog.{grammar}
use Rattle.verilog_grammar.specs.Parts.{listed}
use Rattle.verilog_grammar.specs.Modules.{one_rule}
use Rattle.verilog_items.proofs.Listed.{behind}
use Rattle.verilog_items.proofs.instance.ones.Given as goal

abbrev pub invariant-more : goal.invariant-more
invariant-more l = going ◌++◌ (ones_view l.all.items) (reads verilog grammar l.depth (behind one_rule) l.cursor) ≡ reads verilog grammar l.depth (listed one_rule) l.fn.cursor

abbrev pub decreases-more : goal.decreases-more
decreases-more l = length l.cursor
