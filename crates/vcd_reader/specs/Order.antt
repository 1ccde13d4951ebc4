-- The order in which a body says that the dump goes off and on.
use Rattle.std.specs.Prelude.{◌≡◌, Bool, true, false, List, [], ◌∷◌, None}
use Rattle.vcd_reader.specs.Dump.{HasFewStretches}
use Rattle.vcd_reader.specs.Times.{Rises}
use Rattle.vcd_reader.specs.declared.entry.Entry.{Entry}
use Rattle.vcd_reader.specs.declared.entry.Entry.TheVariants.{Time, Value, Off, On}

-- whether the dump is on after these entries, where it was or was not before them
abbrev pub is_on_after : Bool → List Entry → Bool
is_on_after on [] = on
is_on_after on (Time time ∷ entries) = is_on_after on entries
is_on_after on (Value code value ∷ entries) = is_on_after on entries
is_on_after on (Off ∷ entries) = is_on_after false entries
is_on_after on (On time ∷ entries) = is_on_after true entries

-- whether it is after a body that begins so
abbrev pub is_on : List Entry → Bool
is_on entries = is_on_after true entries

-- a time, a change, or that the dump goes off is said only where it is on, and that it goes on only where it is off
abbrev pub AreInTurn : Bool → List Entry → Type 0
AreInTurn on [] = Unit {0}
AreInTurn on (Time time ∷ entries) = (on ≡ true) × AreInTurn on entries
AreInTurn on (Value code value ∷ entries) = (on ≡ true) × AreInTurn on entries
AreInTurn on (Off ∷ entries) = (on ≡ true) × AreInTurn false entries
AreInTurn on (On time ∷ entries) = (on ≡ false) × AreInTurn true entries

-- what a body can say: times that rise, stretches in turn, and not too many of them
pub record AreOrdered (entries : List Entry) : Type 0 where
  pub rises : Rises None entries
  pub in_turn : AreInTurn true entries
  pub few : HasFewStretches entries
