-- A binary tree in a list, in which each node holds the lesser of what its two children hold.
use Rattle.std.specs.Prelude.{◌≡◌, ◌<◌, ◌+◌, ◌*◌, if◌then◌else◌, ℕ, Bool, false, true, List, drop, length, map, min, nat_lt, slice_index_or}

-- each node from place 1 on that has two children holds the lesser of what they hold
abbrev pub IsTree : List ℕ → Type 0
IsTree tree = (i : ℕ) → 0 < i → 2 * i + 1 < length tree → slice_index_or tree i 0 ≡ min (slice_index_or tree (2 * i) 0) (slice_index_or tree (2 * i + 1) 0)

-- the leaves are the second half, and the leaf of a number holds the number or the count
pub record IsTournament (count : ℕ) (tree : List ℕ) : Type 0 where
  pub size : length tree ≡ 2 * count
  pub nodes : IsTree tree
  pub leaf : (k : ℕ) → k < count → slice_index_or tree (count + k) 0 ≡ (if nat_lt (slice_index_or tree (count + k) 0) count then k else count)

-- for each number whether it is a member
abbrev pub members : ℕ → List ℕ → List Bool
members count tree = map (λ held. nat_lt held count) (drop count tree)

-- no number is a member
abbrev pub NoneIsMember : List Bool → Type 0
NoneIsMember bs = (k : ℕ) → slice_index_or bs k false ≡ false

-- the number is the least member
pub record IsLeast (number : ℕ) (bs : List Bool) : Type 0 where
  pub below : number < length bs
  pub member : slice_index_or bs number false ≡ true
  pub least : (k : ℕ) → k < number → slice_index_or bs k false ≡ false
