use Rattle.std.proofs.Common.{◌≡◌, ◌++◌, map, length}
use Rattle.grammar_rules.specs.Rule.{going}
use Rattle.grammar_rules.specs.Grammar.{reads}
use Rattle.verilog_grammar.specs.Language.{verilog}
use Rattle.verilog_grammar.specs.Verilog.{grammar}
use Rattle.verilog_tree.specs.View.{givens_view}
use Rattle.verilog_grammar.specs.Parts.{an_expression, listed, optional}
use Rattle.verilog_grammar.specs.Modules.{connected_by_place}
use Rattle.verilog_items.specs.Instances.{given_values}
use Rattle.verilog_items.proofs.Listed.{behind}
use Rattle.verilog_items.proofs.instance.places.Given as goal

abbrev pub invariant-more : goal.invariant-more
invariant-more l = record {
  read : going ◌++◌ (given_values l.all.items) (reads verilog grammar l.depth (behind (optional an_expression)) l.cursor) ≡ reads verilog grammar l.depth (listed (optional an_expression)) l.fn.cursor;
  unnamed : givens_view l.all.items ≡ map connected_by_place (given_values l.all.items);
}

abbrev pub decreases-more : goal.decreases-more
decreases-more l = length l.cursor
