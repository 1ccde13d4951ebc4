-- The order in which tables are worth using, by the sets of the points that they have hit.
use Rattle.std.specs.Prelude.{◌≡◌, ◌==◌, ◌≤◌, ◌<◌, ℕ, zero, suc, Bool, false, not, List, [], ◌∷◌, ◌++◌, length, slice_index_or}
use Rattle.std.specs.List.{filter, fold, list_any}
use Rattle.test_ranking.specs.PointSet.{no_points, size, union, without}
use Rattle.test_ranking.specs.declared.ranking.Ranking.{Ranking}
use Rattle.test_ranking.specs.declared.ranking.Use.{Use}

-- the set of the table at a place
abbrev pub set_at : List (List Bool) → ℕ → List Bool
set_at tables place = slice_index_or tables place []

-- how many points the table at a place adds to those that are hit
abbrev pub gain : List (List Bool) → List Bool → ℕ → ℕ
gain tables hit place = size (without (set_at tables place) hit)

-- no table adds a point to those that are hit
abbrev pub NoneAdds : List (List Bool) → List Bool → Type 0
NoneAdds tables hit = (place : ℕ) → place < length tables → gain tables hit place ≡ 0

-- The next table: it adds the most points to those that are hit, one at least, and is the first that adds as many.
-- It was not used before, since a used table adds none.
pub record IsNext (tables : List (List Bool)) (hit : List Bool) (next : Use) : Type 0 where
  pub listed : next.table < length tables
  pub added : next.added ≡ gain tables hit next.table
  pub some : 1 ≤ next.added
  pub most : (other : ℕ) → other < length tables → gain tables hit other ≤ next.added
  pub first : (other : ℕ) → other < next.table → gain tables hit other < next.added
  pub total : next.total ≡ size (union hit (set_at tables next.table))

-- the tables that are used from here on, where these points are hit: it ends where no table adds a point
abbrev pub AreUsed : List (List Bool) → List Bool → List Use → Type 0
AreUsed tables hit [] = NoneAdds tables hit
AreUsed tables hit (next ∷ uses) = IsNext tables hit next × AreUsed tables (union hit (set_at tables next.table)) uses

-- the points that are hit after these uses
abbrev pub hit_after : List (List Bool) → List Bool → List Use → List Bool
hit_after tables hit uses = fold (λ set used. union set (set_at tables used.table)) hit uses

-- the table is one of those used
abbrev pub is_used : List Use → ℕ → Bool
is_used uses table = list_any (λ used. used.table == table) uses

-- the numbers below this one, rising
abbrev pub places : ℕ → List ℕ
places zero = []
places (suc count) = places count ++ count ∷ []

-- the tables that are not used, of this number of tables, in their order
abbrev pub skipped_of : ℕ → List Use → List ℕ
skipped_of count uses = filter (λ table. not (is_used uses table)) (places count)

-- a mark for each of this number of tables, set where it is used
pub record AreMarked (count : ℕ) (uses : List Use) (marks : List Bool) : Type 0 where
  pub long : length marks ≡ count
  pub marked : (table : ℕ) → table < count → slice_index_or marks table false ≡ is_used uses table

-- the ranking of tables of this number of points
pub record IsRanking (points : ℕ) (tables : List (List Bool)) (ranking : Ranking) : Type 0 where
  pub used : AreUsed tables (no_points points) ranking.used
  pub skipped : ranking.skipped ≡ skipped_of (length tables) ranking.used
  pub hit : ranking.hit ≡ size (hit_after tables (no_points points) ranking.used)
  pub points_are : ranking.points ≡ points
