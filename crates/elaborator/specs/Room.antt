-- How many line points and counted nodes can be numbered in an instance.
use Rattle.std.specs.Prelude.{◌≤◌, ◌<◌, ℕ, ◌+◌, ◌^◌, List, [], ◌∷◌}
use Rattle.verilog_tree.specs.Tree.{Item, ItemForm}
use Rattle.flat_design.specs.Connections.{JoinedPort}
use Rattle.flat_design.specs.Numbering.{form_nodes, nodes}
use Rattle.flat_design.specs.Scope.{Scope}
use Rattle.tree_places.specs.Counted.{joined_nodes}
use Rattle.elaborator.specs.declared.walk.Numbers.{Numbers}

-- this number of line points and of counted nodes can be numbered from these numbers on
abbrev pub HaveRoom : Numbers → ℕ → ℕ → Type 0
HaveRoom numbers line_count node_count = (numbers.line + line_count < 2 ^ 32) × (numbers.node + node_count < 2 ^ 32)

-- no more than this number of line points and of counted nodes were numbered
abbrev pub TakesFew : Numbers → Numbers → ℕ → ℕ → Type 0
TakesFew numbers others line_count node_count = (others.line ≤ numbers.line + line_count) × (others.node ≤ numbers.node + node_count)

-- the counted nodes of an item with those of its connections
abbrev pub form_room : Scope → ItemForm → ℕ
form_room g f = form_nodes g f + joined_nodes g f

-- those of items
abbrev pub items_room : Scope → List Item → ℕ
items_room g [] = 0
items_room g (x ∷ xs) = form_room g x.form + items_room g xs

-- each of the ports is joined to an expression of fewer than n counted nodes
abbrev pub HaveFewer : ℕ → Scope → List JoinedPort → Type 0
HaveFewer n g [] = Unit {0}
HaveFewer n g (j ∷ js) = (nodes g j.value < n) × HaveFewer n g js
