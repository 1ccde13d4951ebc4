-- Nodes that are put into an order one after the other.
use Rattle.std.specs.Prelude.{◌≡◌, ◌<◌, ◌≤◌, ◌⊎◌, ℕ, List, length, slice_index_or, take}
use Rattle.std.specs.List.{Contains}
use Rattle.index_sets.specs.Rows.{row_at}
use Rattle.rank_order.specs.Order.{ComesBefore, IsOnce, lists_of}
use Rattle.rank_order.specs.declared.sorting.Sorting.{Sorting}

-- the nodes that wait for one
abbrev pub waiting_for : Sorting → ℕ → List ℕ
waiting_for s w = row_at (lists_of s.waiting.items) w

-- the order so far is right, and of what each node needs so many are in it
pub record IsSorting (needs : List (List ℕ)) (s : Sorting) : Type 0 where
  pub size : s.order.size ≡ length needs
  pub met_size : length s.met.items ≡ length needs
  pub waiting_size : length s.waiting.items ≡ length needs
  pub once : IsOnce s.order.items
  pub below : (v : ℕ) → Contains s.order.items v → v < length needs
  pub waiting_below : (w v : ℕ) → Contains (waiting_for s w) v → v < length needs
  pub met_within : (v : ℕ) → slice_index_or s.met.items v 0 ≤ length (row_at needs v)
  pub met_there : (v j : ℕ) → j < slice_index_or s.met.items v 0 → Contains s.order.items (slice_index_or (row_at needs v) j 0)
  pub after : (v w : ℕ) → Contains s.order.items v → Contains (row_at needs v) w → ComesBefore w s.order.items v

-- the node waits for one that it needs, which is not among these
abbrev pub Waits : List (List ℕ) → List ℕ → Sorting → ℕ → Type 0
Waits needs base s v = (w : ℕ) × Contains (row_at needs v) w × (w < length needs) × Contains (waiting_for s w) v × (Contains base w → ⊥)

-- each node is in the order, or waits for one that is not among these
abbrev pub AllPlaced : List (List ℕ) → List ℕ → Sorting → Type 0
AllPlaced needs base s = (v : ℕ) → v < length needs → Contains s.order.items v ⊎ Waits needs base s v

-- the nodes are put into the order or wait, and all else stays
pub record Places (needs : List (List ℕ)) (nodes : List ℕ) (s t : Sorting) : Type 0 where
  pub longer : length s.order.items ≤ length t.order.items
  pub front : take (length s.order.items) t.order.items ≡ s.order.items
  pub keeps : (w v : ℕ) → Contains (waiting_for s w) v → Contains (waiting_for t w) v
  pub placed : (v : ℕ) → Contains nodes v → Contains t.order.items v ⊎ Waits needs s.order.items t v
