-- Calls of one depth go down the list of functions; the others go one deeper.
use Rattle.std.proofs.Common.{◌≡◌, ◌≤◌, ◌+◌, ◌*◌, ◌-◌, ◌++◌, ◌∷◌, length, Ok}
use Rattle.verilog_tree.specs.View.{exprs_view}
use Rattle.grammar_rules.specs.Rule.{going, many, nest}
use Rattle.grammar_rules.specs.Grammar.{reads}
use Rattle.verilog_grammar.specs.declared.kind.Kind.TheVariants as k
use Rattle.verilog_grammar.specs.Language.{verilog, rank, expression as an_expression}
use Rattle.verilog_grammar.specs.Verilog.{grammar}
use Rattle.verilog_grammar.specs.Parts.{after}
use Rattle.verilog_grammar.specs.Expressions.{level_rule}
use Rattle.verilog_expressions.specs.Grows.{by_operators}
use Rattle.verilog_expressions.specs.Measured.{measured_view}
use Rattle.verilog_expressions.specs.Others.{others_view}
use Rattle.verilog_expressions.proofs.+expr.Given as goal

abbrev pub decreases-expr::expression : goal.decreases-expr::expression
decreases-expr::expression l = l.depth * 10 + 1

abbrev pub decreases-expr::choice : goal.decreases-expr::choice
decreases-expr::choice l = l.depth * 10 + 8

abbrev pub decreases-expr::operand : goal.decreases-expr::operand
decreases-expr::operand l = l.depth * 10

abbrev pub decreases-expr::grown : goal.decreases-expr::grown
decreases-expr::grown l = l.depth * 10 + 8

abbrev pub decreases-expr::operation : goal.decreases-expr::operation
decreases-expr::operation l = l.depth * 10 + 7

abbrev pub decreases-expr::unary : goal.decreases-expr::unary
decreases-expr::unary l = l.depth * 10 + 9

abbrev pub decreases-expr::prim : goal.decreases-expr::prim
decreases-expr::prim l = l.depth * 10 + 8

abbrev pub decreases-expr::cast : goal.decreases-expr::cast
decreases-expr::cast l = l.depth * 10 + 7

abbrev pub decreases-expr::in_parentheses : goal.decreases-expr::in_parentheses
decreases-expr::in_parentheses l = l.depth * 10 + 6

abbrev pub decreases-expr::braced : goal.decreases-expr::braced
decreases-expr::braced l = l.depth * 10 + 7

abbrev pub decreases-expr::with_others : goal.decreases-expr::with_others
decreases-expr::with_others l = l.depth * 10 + 6

abbrev pub decreases-select::selects : goal.decreases-select::selects
decreases-select::selects l = l.depth * 10 + 7

abbrev pub decreases-select::selected : goal.decreases-select::selected
decreases-select::selected l = l.depth * 10 + 6

abbrev pub decreases-select::bound : goal.decreases-select::bound
decreases-select::bound l = l.depth * 10 + 5

-- what was read so far is what the level spells that was reached
abbrev pub invariant-expr::operand-levels : goal.invariant-expr::operand-levels
invariant-expr::operand-levels l = record {
  read : reads verilog grammar (l.depth - 1) (level_rule l.at) l.fn.cursor ≡ Ok (measured_view l.left, l.cursor);
  tight : rank l.at ≤ rank l.level;
}

abbrev pub decreases-expr::operand-levels : goal.decreases-expr::operand-levels
decreases-expr::operand-levels l = rank l.level - rank l.at

abbrev pub invariant-expr::grown-more : goal.invariant-expr::grown-more
invariant-expr::grown-more l = by_operators l.depth l.level (measured_view l.left) l.cursor ≡ by_operators l.depth l.level (measured_view l.fn.left) l.fn.cursor

abbrev pub decreases-expr::grown-more : goal.decreases-expr::grown-more
decreases-expr::grown-more l = length l.cursor

-- the others so far with those that are still read are those that are read in all
abbrev pub invariant-expr::with_others-more : goal.invariant-expr::with_others-more
invariant-expr::with_others-more l = record {
  others :
      going ◌++◌ (others_view l.all) (reads verilog grammar l.depth (many (after k.Comma (nest an_expression))) l.cursor)
      ≡ reads verilog grammar l.depth (many (after k.Comma (nest an_expression))) l.fn.cursor;
  exprs : exprs_view l.all.exprs.items ≡ measured_view l.fn.first ∷ others_view l.all;
  start : l.all.start ≡ l.fn.start;
}

abbrev pub decreases-expr::with_others-more : goal.decreases-expr::with_others-more
decreases-expr::with_others-more l = length l.cursor
