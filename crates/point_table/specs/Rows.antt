-- The instances of a design in a table: in the order of their paths.
use Rattle.std.specs.Prelude.{◌≡◌, ◌<◌, ℕ, List, length, slice_index_or}
use Rattle.std.specs.List.{range_with_len}
use Rattle.std.specs.List.Sorted.{IsPermutation, IsSorted}
use Rattle.std.specs.declared.cmp.Ordering.{Ordering}
use Rattle.coverage_db.specs.Order.{bytes_cmp}
use Rattle.coverage_db.specs.declared.db.DbInstance.{DbInstance}
use Rattle.design_model.specs.Design.{no_instance}
use Rattle.design_model.specs.declared.design.Instance.{Instance}

-- the instance with this number
abbrev pub instance_at : List Instance → ℕ → Instance
instance_at is i = slice_index_or is i no_instance

-- an instance as a table has it
abbrev pub row_at : List Instance → ℕ → DbInstance
row_at is i = record { path = (instance_at is i).path; «module» = (instance_at is i).«module» }

-- the order of instances: by the bytes of their paths
abbrev pub path_cmp : List Instance → ℕ → ℕ → Ordering
path_cmp is i j = bytes_cmp (instance_at is i).path (instance_at is j).path

-- the place that is kept for an instance
abbrev pub place_at : List ℕ → ℕ → ℕ
place_at places i = slice_index_or places i 0

-- the numbers of all instances, in the order of their paths
pub record IsPathOrder (is : List Instance) (order : List ℕ) : Type 0 where
  pub permutation : IsPermutation (range_with_len 0 (length is)) order
  pub sorted : IsSorted (path_cmp is) order

-- for each number its place in the order
abbrev pub ArePlaces : List ℕ → List ℕ → Type 0
ArePlaces order places = (i : ℕ) → i < length order → (place_at places i < length order) × (slice_index_or order (place_at places i) 0 ≡ i)
