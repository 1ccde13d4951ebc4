-- Processes by their place in an order.
use Rattle.std.specs.Prelude.{◌≡◌, ◌<◌, ◌+◌, ◌≤◌, if◌then◌else◌, ℕ, Bool, List, [], ◌∷◌, length, slice_index_or, Option, Some, None}
use Rattle.wake_list.specs.Members.{IsOnce}

-- the places are those of the processes in the order, of which there are at most so many
pub record AreRanksOf (order : List ℕ) (count : ℕ) (ranks : List (Option ℕ)) : Type 0 where
  pub once : IsOnce order
  pub size : length ranks ≡ count
  pub few : length order ≤ count
  pub ranked : (k : ℕ) → k < length order → slice_index_or ranks (slice_index_or order k 0) None ≡ Some k
  pub others : (p k : ℕ) → slice_index_or ranks p None ≡ Some k → (k < length order) × (slice_index_or order k 0 ≡ p)

-- those of the order that pass a test, each with its place, where the first has this place
abbrev pub chosen : (ℕ → Bool) → ℕ → List ℕ → List (ℕ × ℕ)
chosen test rank [] = []
chosen test rank (p ∷ ps) = if test p then (p, rank) ∷ chosen test (rank + 1) ps else chosen test (rank + 1) ps
