-- What some things reach through the processes that they may wake, by tables.
use Rattle.std.specs.Prelude.{◌≡◌, ◌⊎◌, ◌<◌, ◌≤◌, ◌==◌, ℕ, Bool, true, not, List, Option, Some, None, slice_index}
use Rattle.std.specs.List.{Contains}
use Rattle.index_sets.specs.Rows.{row_at}
use Rattle.wake_tables.specs.declared.tables.WakeTables.{WakeTables}
use Rattle.early_sets.specs.declared.edges.Edges.{Edges}
use Rattle.early_sets.specs.declared.rule.Rule.{Rule}

-- the number is not that one
abbrev pub is_apart : Option ℕ → ℕ → Bool
is_apart None x = true
is_apart (Some y) x = not (x == y)

-- the number, unless it is left out
abbrev pub IsItem : ℕ → Option ℕ → ℕ → Type 0
IsItem n except x = (n ≡ x) × (is_apart except x ≡ true)

-- the same, where the condition holds
abbrev pub IsItemWhere : Bool → ℕ → Option ℕ → ℕ → Type 0
IsItemWhere condition n except x = (condition ≡ true) × IsItem n except x

-- an item of the row that is not left out, where the condition holds
abbrev pub IsRowItem : Bool → List ℕ → Option ℕ → ℕ → Type 0
IsRowItem condition row except x = (condition ≡ true) × (Contains row x × (is_apart except x ≡ true))

-- a change of thing x may wake process p, where a change of each thing may be these edges
abbrev pub MayWakeBy : WakeTables → (ℕ → Edges) → ℕ → ℕ → Type 0
MayWakeBy t edges x p =
    Contains (row_at t.level x) p ⊎ ((((edges x).rise ≡ true) × Contains (row_at t.rising x) p) ⊎ (((edges x).fall ≡ true) × Contains (row_at t.falling x) p))

-- process p may write thing y, which is not the trigger, and not by a blocking assignment if it is the block
abbrev pub IsTargetBy : WakeTables → Rule → ℕ → ℕ → Type 0
IsTargetBy t r p y = (Contains (row_at t.nonblocking p) y ⊎ ((is_apart r.block p ≡ true) × Contains (row_at t.blocking p) y)) × (is_apart r.trigger y ≡ true)

-- one of the processes at these places of the list may write thing y
abbrev pub IsTargetFrom : WakeTables → Rule → List ℕ → ℕ → ℕ → ℕ → Type 0
IsTargetFrom t r processes from end y = (k : ℕ) × (from ≤ k) × (k < end) × IsTargetBy t r (slice_index processes k) y

-- the least set with the seeds and with what a process may write that a member may wake
pub data Reached (t : WakeTables) (edges : ℕ → Edges) (r : Rule) (seeds : ℕ → Type 0) : ℕ → Type 0 where
  of_seed : (x : ℕ) → seeds x → Reached t edges r seeds x
  of_target : (x p y : ℕ) → Reached t edges r seeds x → MayWakeBy t edges x p → IsTargetBy t r p y → Reached t edges r seeds y

-- a member may wake process p
abbrev pub IsWoken : WakeTables → (ℕ → Edges) → Rule → (ℕ → Type 0) → ℕ → Type 0
IsWoken t edges r seeds p = (x : ℕ) × Reached t edges r seeds x × MayWakeBy t edges x p
