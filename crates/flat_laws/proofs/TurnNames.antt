-- The names of a scope in one turn of a loop.
use Rattle.std.proofs.Common.{◌≡◌, refl, ℕ, Bool, true, false, if◌then◌else◌, List, Option, Some}
use Rattle.std.specs.Prelude.{bytes_eq}
use Rattle.four_state.specs.Vector.{Vector}
use Rattle.elab_const.specs.Scope as constants
use Rattle.elab_const.specs.declared.entry.Entry.TheVariants.{Turn}
use Rattle.flat_design.specs.Scope.{Scope, look_up, names, value_entry, with_turn}
use Rattle.flat_design.specs.declared.entry.Entry.{Entry}
use Rattle.flat_design.specs.declared.entry.Entry.TheVariants.{Turn as a_turn}

either : (b : Bool) (v : Vector) (x : Option Entry) → value_entry (if b then Some (a_turn v) else x) ≡ (if b then Some (Turn v) else value_entry x)
either true v x = refl
either false v x = refl

pub turn_names : (g : Scope) (x y : List ℕ) (v : Vector) → names (with_turn x v g) y ≡ constants.with_turn x v (names g) y
turn_names g x y v = either (bytes_eq y x) v (look_up g y)
