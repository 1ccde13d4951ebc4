-- The overrides, the parameters and the other names of a module, as the definitions take those of the code.
use Rattle.std.specs.Prelude.{◌≡◌, ℕ, Bool, true, false, if◌then◌else◌, List, [], ◌∷◌, bytes_eq, map, Option, Some, None}
use Rattle.std.specs.Prelude as std
use Rattle.std.specs.Option.{option_map}
use Rattle.four_state.specs.Vector.{Vector}
use Rattle.verilog_tree.specs.Tree.{Module}
use Rattle.verilog_tree.specs.declared.item.Named.{Named}
use Rattle.flat_design.specs.Declarations as spec
use Rattle.flat_design.specs.Identifiers.{is_among}
use Rattle.flat_design.specs.Instances.{other_names}
use Rattle.flat_design.specs.Scope.{Scope, Bindings, with_bindings}
use Rattle.flat_design.specs.declared.entry.Entry.{Entry}
use Rattle.flat_design.specs.declared.entry.Entry.TheVariants.{Constant, NoConstant, Faulty}
use Rattle.elab_declarations.specs.declared.constants.BoundParam.{BoundParam}
use Rattle.elab_declarations.specs.declared.constants.Override.{Override}

-- the override
abbrev pub override_view : Override → spec.Override
override_view o = record { name = o.name; value = o.value }

-- overrides in order
abbrev pub overrides_view : List Override → List spec.Override
overrides_view os = map override_view os

-- the value that the first override of a name gives
abbrev pub given_value : List spec.Override → List ℕ → Option Vector
given_value os x = option_map (λ o. o.value) (std.find (λ o. bytes_eq o.name x) os)

-- the name of the parameter, with what it means
abbrev pub bound_view : BoundParam → List ℕ × Entry
bound_view p = (p.name, p.entry)

-- parameters in order
abbrev pub bindings_view : List BoundParam → Bindings
bindings_view ps = map bound_view ps

-- the scope in which these names have meanings that are no constants
abbrev pub with_others : List Named → Scope → Scope
with_others xs g = λ x. if is_among xs x then Some NoConstant else g x

-- what a parameter can mean
abbrev pub is_param_entry : Option Entry → Bool
is_param_entry (Some (Constant v)) = true
is_param_entry (Some Faulty) = true
is_param_entry _ = false

-- names with meanings that parameters can have
abbrev pub AreParams : Bindings → Type 0
AreParams [] = Unit {0}
AreParams (b ∷ bs) = (is_param_entry (Some b.1) ≡ true) × AreParams bs

-- the parameters found so far, and the scope that sees them and the other names of the module
abbrev pub AreSeen : Module → Bindings → Scope → Type 0
AreSeen m bs g = (g ≡ with_bindings bs (other_names m)) × AreParams bs
