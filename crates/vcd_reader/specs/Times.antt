-- The times of a dump: within a stretch they rise, and none is below one before it.
use Rattle.std.specs.Prelude.{◌<◌, ◌≤◌, ℕ, List, [], ◌∷◌, Option, None, Some}
use Rattle.vcd_reader.specs.declared.entry.Entry.{Entry}
use Rattle.vcd_reader.specs.declared.entry.Entry.TheVariants.{Time, Value, Off, On}

-- the time is greater than the last one, if there was one
abbrev pub IsLater : Option ℕ → ℕ → Type 0
IsLater None time = Unit {0}
IsLater (Some last) time = last < time

-- the time is not below the last one, if there was one
abbrev pub IsNotBefore : Option ℕ → ℕ → Type 0
IsNotBefore None time = Unit {0}
IsNotBefore (Some last) time = last ≤ time

-- from the last time on, if there was one, each time is greater than the one before, and a stretch begins at a time that is not below it
abbrev pub Rises : Option ℕ → List Entry → Type 0
Rises last [] = Unit {0}
Rises last (Time time ∷ entries) = IsLater last time × Rises (Some time) entries
Rises last (Value code value ∷ entries) = Rises last entries
Rises last (Off ∷ entries) = Rises last entries
Rises last (On None ∷ entries) = Rises last entries
Rises last (On (Some time) ∷ entries) = IsNotBefore last time × Rises (Some time) entries

-- the last time after entries, where this one was before them
abbrev pub last_time : Option ℕ → List Entry → Option ℕ
last_time last [] = last
last_time last (Time time ∷ entries) = last_time (Some time) entries
last_time last (Value code value ∷ entries) = last_time last entries
last_time last (Off ∷ entries) = last_time last entries
last_time last (On None ∷ entries) = last_time last entries
last_time last (On (Some time) ∷ entries) = last_time (Some time) entries
