-- How many line points and counted nodes a module has.
use Rattle.std.specs.Prelude.{ℕ, ◌+◌, ◌<◌, ◌^◌, List, [], ◌∷◌, Option, None, Some, sum_by}
use Rattle.design_model.specs.Design.{In}
use Rattle.flat_design.specs.Numbering.{form_lines, form_nodes, nodes}
use Rattle.flat_design.specs.Scope.{Scope}
use Rattle.verilog_tree.specs.Tree.{Expr, Given, One, ItemForm, instance_item, Module}

-- the line points of a module
abbrev pub module_lines : Module → ℕ
module_lines m = sum_by (λ x. form_lines x.form) m.items

-- the counted nodes of a module, where its names mean this
abbrev pub module_nodes : Scope → Module → ℕ
module_nodes g m = sum_by (λ x. form_nodes g x.form) m.items

-- the nodes that would be counted in what a port is joined to, if it is
abbrev pub option_nodes : Scope → Option Expr → ℕ
option_nodes g None = 0
option_nodes g (Some e) = nodes g e

-- those of connections
abbrev pub connections_nodes : Scope → List Given → ℕ
connections_nodes g [] = 0
connections_nodes g (c ∷ cs) = option_nodes g c.value + connections_nodes g cs

-- those of the connections of instances
abbrev pub ones_nodes : Scope → List One → ℕ
ones_nodes g [] = 0
ones_nodes g (o ∷ os) = connections_nodes g o.given + ones_nodes g os

-- those of the connections of an item
abbrev pub joined_nodes : Scope → ItemForm → ℕ
joined_nodes g (instance_item i) = ones_nodes g i.ones
joined_nodes g _ = 0

-- those of the connections of a module
abbrev pub module_joined : Scope → Module → ℕ
module_joined g m = sum_by (λ x. joined_nodes g x.form) m.items

-- the line points of the module, and its counted nodes with those of its connections, can be numbered from 1 in 32 bits
pub record IsCountable (m : Module) : Type 0 where
  pub few_lines : 1 + module_lines m < 2 ^ 32
  pub few_nodes : (g : Scope) → 1 + (module_nodes g m + module_joined g m) < 2 ^ 32

-- the same of each module
abbrev pub AreCountable : List Module → Type 0
AreCountable ms = (m : Module) → In m ms → IsCountable m
