-- Calls of one depth go down the list of functions; the others go one deeper.
use Rattle.std.proofs.Common.{◌≡◌, ◌+◌, ◌*◌, ◌++◌, ◌∷◌, length}
use Rattle.verilog_tree.specs.View.{exprs_view}
use Rattle.grammar_rules.specs.Rule.{going, many, nest}
use Rattle.grammar_rules.specs.Grammar.{reads}
use Rattle.verilog_grammar.specs.declared.kind.Kind.TheVariants as k
use Rattle.verilog_grammar.specs.Language.{verilog, target as a_target}
use Rattle.verilog_grammar.specs.Verilog.{grammar}
use Rattle.verilog_grammar.specs.Parts.{after}
use Rattle.verilog_expressions.specs.Measured.{measured_view}
use Rattle.verilog_expressions.specs.Others.{others_view}
use Rattle.verilog_expressions.proofs.select.+left_side.Given as goal

abbrev pub decreases-target : goal.decreases-target
decreases-target l = l.depth * 3

abbrev pub decreases-targets : goal.decreases-targets
decreases-targets l = l.depth * 3 + 2

abbrev pub decreases-with_targets : goal.decreases-with_targets
decreases-with_targets l = l.depth * 3 + 1

-- the others so far with those that are still read are those that are read in all
abbrev pub invariant-with_targets-more : goal.invariant-with_targets-more
invariant-with_targets-more l = record {
  others :
      going ◌++◌ (others_view l.all) (reads verilog grammar l.depth (many (after k.Comma (nest a_target))) l.cursor)
      ≡ reads verilog grammar l.depth (many (after k.Comma (nest a_target))) l.fn.cursor;
  exprs : exprs_view l.all.exprs.items ≡ measured_view l.fn.first ∷ others_view l.all;
  start : l.all.start ≡ l.fn.start;
}

abbrev pub decreases-with_targets-more : goal.decreases-with_targets-more
decreases-with_targets-more l = length l.cursor
