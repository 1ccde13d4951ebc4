-- What is early for a clean block, by tables.
use Rattle.std.specs.Prelude.{◌≡◌, ◌⊎◌, ◌<◌, ◌==◌, ◌||◌, if◌then◌else◌, ℕ, Bool, true, false, not, List, [], ◌∷◌, Some, slice_index}
use Rattle.std.specs.List.{Contains}
use Rattle.index_sets.specs.Rows.{row_at}
use Rattle.wake_tables.specs.declared.tables.WakeTables.{WakeTables}
use Rattle.early_sets.specs.declared.habit.Habit.{Habit}
use Rattle.early_sets.specs.declared.habit.Habit.TheVariants.{Free, Late}
use Rattle.early_sets.specs.declared.rule.Rule.{Rule}
use Rattle.early_sets.specs.Reached.{IsItem, IsRowItem, MayWakeBy, Reached, is_apart}
use Rattle.early_sets.specs.WakeState.{WakeState, edges_at, is_told}

-- the list has an item
abbrev pub has_items : List ℕ → Bool
has_items [] = false
has_items (x ∷ xs) = true

-- an event list names the signal
abbrev pub is_event_signal : WakeTables → ℕ → Bool
is_event_signal t x = has_items (row_at t.rising x) || has_items (row_at t.falling x)

-- by the habit an input may move at any point
abbrev pub is_free : WakeTables → Habit → ℕ → Bool
is_free t Free x = true
is_free t Late x = is_event_signal t x

-- a free one of the first n inputs of the list that is not the trigger
abbrev pub IsEarlyInput : WakeTables → Habit → List ℕ → ℕ → ℕ → ℕ → Type 0
IsEarlyInput t h inputs n trigger x = (k : ℕ) × (k < n) × (is_free t h (slice_index inputs k) ≡ true) × IsItem (slice_index inputs k) (Some trigger) x

-- a blocking target, not the trigger, of one of the first n processes of the list that is not the block
abbrev pub IsTriggerTarget : WakeTables → List ℕ → ℕ → ℕ → ℕ → ℕ → Type 0
IsTriggerTarget t processes n block trigger y = (k : ℕ) × (k < n) × IsRowItem (not (slice_index processes k == block)) (row_at t.blocking (slice_index processes k)) (Some trigger) y

-- the habit counts for a trigger that is an input; before another trigger rises or falls any input may move
abbrev pub habit_for : WakeState → Habit → ℕ → Habit
habit_for w h trigger = if is_told w trigger then h else Free

-- an input that changes and is free
abbrev pub IsFreeInput : WakeState → Habit → ℕ → Type 0
IsFreeInput w h x = Contains w.noted x × (is_free w.tables h x ≡ true)

-- a blocking target of a process, not the block, that the trigger may wake
abbrev pub IsOtherTarget : WakeState → ℕ → ℕ → ℕ → Type 0
IsOtherTarget w block trigger x = (p : ℕ) × MayWakeBy w.tables (edges_at w) trigger p × (is_apart (Some block) p ≡ true) × Contains (row_at w.tables.blocking p) x

-- the process writes nothing by blocking assignments
abbrev pub HasNoBlocking : WakeTables → ℕ → Type 0
HasNoBlocking t p = row_at t.blocking p ≡ []

-- what is early at first: an input that changes and is free, and a blocking target of another process that the trigger may wake; not the trigger
abbrev pub IsEarlySeed : WakeState → Habit → ℕ → ℕ → ℕ → Type 0
IsEarlySeed w h block trigger x = (IsFreeInput w (habit_for w h trigger) x ⊎ IsOtherTarget w block trigger x) × (is_apart (Some trigger) x ≡ true)

-- what the trigger and the members leave out
abbrev pub early_rule : ℕ → ℕ → Rule
early_rule block trigger = record { trigger = Some trigger; block = Some block }

-- the least set with these and with what a process may write that a member may wake
abbrev pub IsEarlyBy : WakeState → Habit → ℕ → ℕ → ℕ → Type 0
IsEarlyBy w h block trigger = Reached w.tables (edges_at w) (early_rule block trigger) (IsEarlySeed w h block trigger)
