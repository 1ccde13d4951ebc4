-- The members of a set of numbers below a size.
use Rattle.std.specs.Prelude.{◌≡◌, ◌<◌, ◌≤◌, ℕ, List, length, slice_index}

-- a size, and numbers below it in the order in which they were put in
pub record Members : Type 0 where
  pub size : ℕ
  pub items : List ℕ

-- the number at each place is the place
pub record IsIdentity (xs : List ℕ) (n : ℕ) : Type 0 where
  pub count : length xs ≡ n
  pub each : (k : ℕ) → k < n → slice_index xs k ≡ k

-- the order has each number below its length once, the places are those of the numbers in it, and this number of them is used
pub record ArePlaces (order places : List ℕ) (used : ℕ) : Type 0 where
  pub count : length places ≡ length order
  pub within : used ≤ length order
  pub number_in : (k : ℕ) → k < length order → slice_index order k < length order
  pub place_of : (k : ℕ) → k < length order → slice_index places (slice_index order k) ≡ k
  pub place_in : (x : ℕ) → x < length order → slice_index places x < length order
  pub number_of : (x : ℕ) → x < length order → slice_index order (slice_index places x) ≡ x
