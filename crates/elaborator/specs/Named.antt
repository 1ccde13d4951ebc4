-- Which instances an item names.
use Rattle.std.specs.Prelude.{◌≡◌, ℕ, false, true, List, bytes_eq, Some}
use Rattle.std.specs.List.{list_any}
use Rattle.cov_host.specs.declared.place.Place.{Place}
use Rattle.verilog_tree.specs.declared.item.Named.{Named}
use Rattle.verilog_tree.specs.Tree.{Given, Module, One, InstanceItem}
use Rattle.flat_design.specs.Bodies.{met_faults}
use Rattle.flat_design.specs.Connections.{are_sound_overrides, overrides as overrides_of}
use Rattle.flat_design.specs.Declarations.{Override}
use Rattle.flat_design.specs.Fault.{Fault}
use Rattle.flat_design.specs.Flat.{instances_of, module_of}
use Rattle.flat_design.specs.Instances.{Context, Instantiation, Sofar, meet}
use Rattle.flat_design.specs.Scope.{Scope}

-- the item with its instances
abbrev pub item_of : Named → List Given → List One → InstanceItem
item_of x cs os = record { of_module = x; overrides = cs; ones = os }

-- the instances of a module by this name are of module m, which is not around them, with these overrides
pub record AreOf (ms : List Module) (around : List (List ℕ)) (g : Scope) (x : Named) (cs : List Given) (m : Module) (os : List Override) : Type 0 where
  pub found : module_of ms x.name ≡ Some m
  pub apart : list_any (bytes_eq m.name.name) around ≡ false
  pub sound : are_sound_overrides g x m cs ≡ true
  pub overrides : os ≡ overrides_of g x m cs

-- the instances of a module by this name have no items, and these faults are reported of them
pub record HaveNone (ms : List Module) (around : List (List ℕ)) (g : Scope) (x : Named) (cs : List Given) (fs : List Fault) : Type 0 where
  pub told : (child : Instantiation → Sofar → Sofar) (base : ℕ) (c : Context) (p : Place) (ones : List One) (st : Sofar) → c.given.around ≡ around
      → c.scope ≡ g → instances_of child base c p (item_of x cs ones) (module_of ms x.name) st ≡ meet (met_faults fs) st
