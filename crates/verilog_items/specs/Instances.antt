-- The parts of instances, and what they represent.
use Rattle.std.specs.Prelude.{Bool, true, false, List, [], ◌∷◌, map, Option, None}
use Rattle.grammar_rules.specs.Rule.{both, made}
use Rattle.verilog_tree.specs.Tree as t
use Rattle.verilog_tree.specs.View.{expr_option_view}
use Rattle.verilog_tree.specs.declared.item.Given.{Given}
use Rattle.verilog_grammar.specs.declared.kind.Kind.TheVariants as k
use Rattle.verilog_grammar.specs.Parts.{Phrased, after, in_parentheses, optional, an_expression, name_rule}
use Rattle.verilog_grammar.specs.Modules.{override_by_name, override_by_place, connected_by_name}

-- "." name "(" expr ")"
abbrev pub override_by_name_rule : Phrased t.Given
override_by_name_rule = made override_by_name (both (after k.Dot name_rule) (in_parentheses an_expression))

abbrev pub override_by_place_rule : Phrased t.Given
override_by_place_rule = made override_by_place an_expression

-- "." name "(" [ expr ] ")"
abbrev pub connection_by_name_rule : Phrased t.Given
connection_by_name_rule = made connected_by_name (both (after k.Dot name_rule) (in_parentheses (optional an_expression)))

-- what is connected, without the names
abbrev pub given_values : List Given → List (Option t.Expr)
given_values gs = map (λ g. expr_option_view g.value) gs

-- one connection without value
abbrev pub is_lone_empty : List (Option t.Expr) → Bool
is_lone_empty (None ∷ []) = true
is_lone_empty es = false
