-- The better of two tables.
use Rattle.std.specs.Prelude.{◌≡◌, ◌==◌, ◌≤◌, ◌<◌, ℕ, nat_lt, Bool, ◌&&◌, ◌||◌, if◌then◌else◌, List, length, slice_index}
use Rattle.test_ranking.specs.Ranking.{gain}
use Rattle.test_ranking.specs.declared.candidate.Candidate.{Candidate}

-- a table with this gain goes before the candidate: it adds more, or as many and is earlier
abbrev pub goes_before : ℕ → ℕ → Candidate → Bool
goes_before table added best = nat_lt best.added added || (added == best.added && nat_lt table best.table)

-- the one of the two that goes before the other
abbrev pub better : Candidate → ℕ → ℕ → Candidate
better best table added = if goes_before table added best then record { table = table; added = added } else best

-- the candidate is one of the tables, and none of the first ones, in this number, goes before it
pub record IsBest (tables : List (List Bool)) (hit : List Bool) (count : ℕ) (best : Candidate) : Type 0 where
  pub listed : best.table < length tables
  pub added : best.added ≡ gain tables hit best.table
  pub most : (other : ℕ) → other < count → gain tables hit other ≤ best.added
  pub first : (other : ℕ) → other < count → other < best.table → gain tables hit other < best.added

-- no table adds more than its last count
abbrev pub AreBounds : List (List Bool) → List Bool → List ℕ → Type 0
AreBounds tables hit counts = (table : ℕ) → table < length tables → gain tables hit table ≤ slice_index counts table
