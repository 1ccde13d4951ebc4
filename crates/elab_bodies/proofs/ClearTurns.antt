-- Scopes of the turns of loops, where no name means something that has a fault.
use Rattle.std.proofs.Common.{◌≡◌, ℕ, Bool, true, false, List, refl, if◌then◌else◌, Option, Some}
use Rattle.std.specs.Prelude.{bytes_eq}
use Rattle.four_state.specs.Vector.{Vector}
use Rattle.flat_design.specs.Scope.{Scope, look_up, is_faulty_entry, with_turn}
use Rattle.flat_design.specs.declared.entry.Entry.{Entry}
use Rattle.flat_design.specs.declared.entry.Entry.TheVariants.{Turn}
use Rattle.elab_build.specs.Sound.{IsClear}

clear_if : (b : Bool) (v : Vector) (o : Option Entry) → is_faulty_entry o ≡ false → is_faulty_entry (if b then Some (Turn v) else o) ≡ false
clear_if true v o clear = refl
clear_if false v o clear = clear

-- a value of a loop's variable has no fault
pub clear_turn : (x : List ℕ) (v : Vector) (g : Scope) → IsClear g → IsClear (with_turn x v g)
clear_turn x v g clear y = clear_if (bytes_eq y x) v (look_up g y) (clear y)
