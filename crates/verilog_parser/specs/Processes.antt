-- What blocks wait for.
use Rattle.std.specs.Prelude.{ℕ, List, [], ◌∷◌}
use Rattle.verilog_tree.specs.Tree as t
use Rattle.verilog_tree.specs.View.{statement_view}
use Rattle.verilog_tree.specs.declared.item.When.{When}
use Rattle.verilog_tree.specs.declared.statement.Statement.{Statement}
use Rattle.grammar_rules.specs.Rule.{both, either, made, nest}
use Rattle.verilog_grammar.specs.Kind.{code}
use Rattle.verilog_grammar.specs.declared.kind.Kind.TheVariants as k
use Rattle.verilog_grammar.specs.declared.body.Body.{Body}
use Rattle.verilog_grammar.specs.declared.body.Body.TheVariants.{Combinational, Clocked}
use Rattle.verilog_grammar.specs.Language.{statement}
use Rattle.verilog_grammar.specs.Parts.{Phrased, any_of, second_of_two, after, name_rule}
use Rattle.verilog_grammar.specs.Modules.{Timed, under_star, under_names, under_edges, separated, edge_rule}

-- what separates names or edges
abbrev pub separators : List ℕ
separators = code k.OrWord ∷ code k.Comma ∷ []

-- what follows a separator
abbrev pub next_rule : {A : Type 0} → Phrased A → Phrased A
next_rule g = made second_of_two (both (any_of k.OrWord (k.Comma ∷ [])) g)

-- a body after a parenthesis
abbrev pub closed_rule : Body → Phrased t.Statement
closed_rule b = after k.CloseParen (nest (statement b))

-- what follows the opening parenthesis, and the body
abbrev pub timed_inside_rule : Phrased Timed
timed_inside_rule =
    either (made under_star (after k.Star (closed_rule Combinational)))
    (either (made under_names (both (separated name_rule) (closed_rule Combinational)))
    (made under_edges (both (separated edge_rule) (closed_rule Clocked))))

-- what a block waits for, and its body
abbrev pub timed_view : When × Statement → Timed
timed_view p = (p.0, statement_view p.1)
