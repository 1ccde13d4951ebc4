-- Tables of numbers by number.
use Rattle.std.specs.Prelude.{◌≡◌, ◌<◌, ℕ, List, length}
use Rattle.std.specs.List.{Contains}
use Rattle.four_state.specs.declared.edge.Edge.{Edge}
use Rattle.index_sets.specs.Rows.{row_at}

-- this number of rows of numbers below the bound
pub record IsTable (rows : List (List ℕ)) (count bound : ℕ) : Type 0 where
  pub count_is : length rows ≡ count
  pub below : (k x : ℕ) → Contains (row_at rows k) x → x < bound

-- this number of lists of edges of signals below the bound
pub record IsEventTable (rows : List (List (Edge × ℕ))) (count bound : ℕ) : Type 0 where
  pub count_is : length rows ≡ count
  pub below : (k : ℕ) (e : Edge × ℕ) → Contains (row_at rows k) e → e.1 < bound
