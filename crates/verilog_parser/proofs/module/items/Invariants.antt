use Rattle.std.proofs.Common.{◌≡◌, length}
use Rattle.grammar_rules.specs.Rule.{many, going}
use Rattle.grammar_rules.specs.Grammar.{reads}
use Rattle.verilog_grammar.specs.Language.{verilog}
use Rattle.verilog_grammar.specs.Verilog.{grammar}
use Rattle.verilog_tree.specs.View.{items_view}
use Rattle.verilog_grammar.specs.Modules.{item_rule, items_rule}
use Rattle.verilog_parser.proofs.Items.{with_items}
use Rattle.verilog_parser.proofs.module.items.Given as goal

abbrev pub invariant-more : goal.invariant-more
invariant-more l = going with_items (items_view l.all.items) (reads verilog grammar l.depth (many item_rule) l.cursor) ≡ reads verilog grammar l.depth items_rule l.fn.cursor

abbrev pub decreases-more : goal.decreases-more
decreases-more l = length l.cursor
