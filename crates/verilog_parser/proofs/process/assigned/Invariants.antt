use Rattle.std.proofs.Common.{◌≡◌, map, length}
use Rattle.grammar_rules.specs.Rule.{going, many, made}
use Rattle.grammar_rules.specs.Grammar.{reads}
use Rattle.verilog_tree.specs.View.{items_view}
use Rattle.verilog_grammar.specs.declared.kind.Kind.TheVariants as k
use Rattle.verilog_grammar.specs.Language.{verilog}
use Rattle.verilog_grammar.specs.Verilog.{grammar}
use Rattle.verilog_grammar.specs.Parts.{after, listed}
use Rattle.verilog_grammar.specs.Statements.{set_rule}
use Rattle.verilog_grammar.specs.Modules.{continuous_item_of}
use Rattle.verilog_parser.proofs.Processes.{push_made}
use Rattle.verilog_parser.proofs.process.assigned.Given as goal

abbrev pub invariant-more : goal.invariant-more
invariant-more l =
    going (push_made (continuous_item_of l.place)) (items_view l.items.items) (reads verilog grammar l.depth (many (after k.Comma set_rule)) l.cursor)
    ≡ reads verilog grammar l.depth (made (map (continuous_item_of l.place)) (listed set_rule)) l.fn.cursor

abbrev pub decreases-more : goal.decreases-more
decreases-more l = length l.cursor
