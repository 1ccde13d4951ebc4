-- What is early for a clean block, and for the blocks that share it.
use Rattle.std.specs.Prelude.{◌≡◌, ◌↔◌, ℕ, List}
use Rattle.std.specs.List.{Contains}
use Rattle.early_sets.specs.Early.{HasNoBlocking, IsEarlyBy}
use Rattle.early_sets.specs.WakeState.{WakeState}
use Rattle.early_sets.specs.declared.habit.Habit.{Habit}

-- the list has exactly what is early for a block with this trigger
abbrev pub IsEarlyList : WakeState → Habit → ℕ → ℕ → List ℕ → Type 0
IsEarlyList w h p trigger early = (x : ℕ) → Contains early x ↔ IsEarlyBy w h p trigger x

-- what was found last is early for each block with this trigger that writes nothing by blocking assignments
abbrev pub IsShared : WakeState → Habit → ℕ → Type 0
IsShared w h trigger = (p : ℕ) → HasNoBlocking w.tables p → IsEarlyList w h p trigger w.early

-- the states are the same, except what was found to be early
abbrev pub IsSameButEarly : WakeState → WakeState → Type 0
IsSameButEarly w v = v ≡ record w { early = v.early }
