-- Lists of numbers, turned round.
use Rattle.std.specs.Prelude.{◌≡◌, ◌⊎◌, ◌<◌, ◌↔◌, ℕ, List, length}
use Rattle.std.specs.List.{Contains}
use Rattle.index_sets.specs.Rows.{row_at}

-- exactly the pairs with P are put in: to the row of the first, the second
pub record AddsPairs (P : ℕ → ℕ → Type 0) (before after : List (List ℕ)) : Type 0 where
  pub count : length after ≡ length before
  pub has : (x p : ℕ) → x < length before → Contains (row_at after x) p ↔ (Contains (row_at before x) p ⊎ P x p)

-- for each number below the count, the numbers of the lists that contain it
pub record IsTranspose (lists : List (List ℕ)) (count : ℕ) (rows : List (List ℕ)) : Type 0 where
  pub count_is : length rows ≡ count
  pub has : (x p : ℕ) → x < count → Contains (row_at rows x) p ↔ Contains (row_at lists p) x
