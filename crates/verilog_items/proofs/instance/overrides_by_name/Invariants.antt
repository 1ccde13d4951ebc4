use Rattle.std.proofs.Common.{◌≡◌, ◌++◌, length}
use Rattle.grammar_rules.specs.Rule.{going}
use Rattle.grammar_rules.specs.Grammar.{reads}
use Rattle.verilog_tree.specs.View.{givens_view}
use Rattle.verilog_grammar.specs.Language.{verilog}
use Rattle.verilog_grammar.specs.Verilog.{grammar}
use Rattle.verilog_grammar.specs.Parts.{listed}
use Rattle.verilog_items.specs.Instances.{override_by_name_rule}
use Rattle.verilog_items.proofs.Listed.{behind}
use Rattle.verilog_items.proofs.instance.overrides_by_name.Given as goal

abbrev pub invariant-more : goal.invariant-more
invariant-more l = going ◌++◌ (givens_view l.all.items) (reads verilog grammar l.depth (behind override_by_name_rule) l.cursor) ≡ reads verilog grammar l.depth (listed override_by_name_rule) l.fn.cursor

abbrev pub decreases-more : goal.decreases-more
decreases-more l = length l.cursor
