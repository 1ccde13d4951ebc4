-- What the entries of a body say.
use Rattle.std.specs.Prelude.{◌≡◌, ◌++◌, ℕ, Bool, true, false, if◌then◌else◌, List, [], ◌∷◌, filter, map, Option}
use Rattle.four_state.specs.Vector.{Vector}
use Rattle.design_model.specs.Shows.{last_time}
use Rattle.vcd_reader.specs.Dump.{Change, last_value, later_stretches}
use Rattle.vcd_reader.specs.Order.{is_on}
use Rattle.vcd_reader.specs.declared.entry.Entry.{Entry}
use Rattle.vcd_reader.specs.declared.entry.Entry.TheVariants.{Off, On, Time, Value}

-- the last of these lists of entries
abbrev pub last_of : List Entry → List (List Entry) → List Entry
last_of entries [] = entries
last_of entries (later ∷ others) = last_of later others

-- what was said of the stretch that is on; nothing where the dump is off
abbrev pub open_stretch : List Entry → List Entry
open_stretch entries = if is_on entries then last_of entries (later_stretches entries) else []

-- whether the stretch with which these entries begin ends in them
abbrev pub has_ended : List Entry → Bool
has_ended [] = false
has_ended (Time time ∷ entries) = has_ended entries
has_ended (Value code value ∷ entries) = has_ended entries
has_ended (Off ∷ entries) = true
has_ended (On time ∷ entries) = true

-- the stretches that have ended, each with all that is said after it
abbrev pub ended_stretches : List Entry → List (List Entry)
ended_stretches entries = filter has_ended (entries ∷ later_stretches entries)

-- the times of the stretch with which these entries begin, in order
abbrev pub times_in : List Entry → List ℕ
times_in [] = []
times_in (Time time ∷ entries) = time ∷ times_in entries
times_in (Value code value ∷ entries) = times_in entries
times_in (Off ∷ entries) = []
times_in (On time ∷ entries) = []

-- its changes, in order
abbrev pub changes_in : List Entry → List Change
changes_in [] = []
changes_in (Time time ∷ entries) = changes_in entries
changes_in (Value code value ∷ entries) = record { code = code; value = value } ∷ changes_in entries
changes_in (Off ∷ entries) = []
changes_in (On time ∷ entries) = []

-- the value of the last change of a code in it, if there is one
abbrev pub value_after : List Entry → ℕ → Option Vector
value_after entries code = last_value code (changes_in entries)

-- the last of these times, and the one before it
pub record EndsIn (times : List ℕ) (before last : ℕ) : Type 0 where
  pub earlier : List ℕ
  pub are : times ≡ earlier ++ before ∷ last ∷ []

-- the last of these times if there are two, and else this one
abbrev pub end_of : ℕ → List ℕ → ℕ
end_of end [] = end
end_of end (t ∷ []) = end
end_of end (t ∷ u ∷ us) = last_time u us

-- the last time of the last of these stretches that has two times, and this where none has
abbrev pub end_from : ℕ → List (List ℕ) → ℕ
end_from end [] = end
end_from end (times ∷ later) = end_from (end_of end times) later

-- the last time of the last stretch that has ended and has two times; zero where there is no such stretch
abbrev pub ended_at : List Entry → ℕ
ended_at entries = end_from 0 (map times_in (ended_stretches entries))
