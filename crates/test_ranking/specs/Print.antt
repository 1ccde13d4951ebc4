-- The text of a ranking.
use Rattle.std.specs.Prelude.{ℕ, List, [], ◌∷◌, ◌++◌, map, codes, decimal, slice_index_or}
use Rattle.coverage_db.specs.Text.{text_of_lines}
use Rattle.test_ranking.specs.declared.ranking.Ranking.{Ranking}
use Rattle.test_ranking.specs.declared.ranking.Use.{Use}

-- the file of a table
abbrev pub file_at : List (List ℕ) → ℕ → List ℕ
file_at files table = slice_index_or files table []

-- the points that the table adds, all that are hit with it, and its file
abbrev pub use_line : List (List ℕ) → Use → List ℕ
use_line files used = codes "use " ++ decimal used.added ++ 32 ∷ decimal used.total ++ 32 ∷ file_at files used.table

abbrev pub skip_line : List (List ℕ) → ℕ → List ℕ
skip_line files table = codes "skip " ++ file_at files table

-- the points that are hit, of all
abbrev pub hit_line : Ranking → List ℕ
hit_line ranking = codes "hit " ++ decimal ranking.hit ++ codes " of " ++ decimal ranking.points

abbrev pub ranking_lines : List (List ℕ) → Ranking → List (List ℕ)
ranking_lines files ranking = codes "covered rank 1" ∷ map (use_line files) ranking.used ++ map (skip_line files) ranking.skipped ++ hit_line ranking ∷ []

-- the text of a ranking of the tables of these files
abbrev pub ranking_text : List (List ℕ) → Ranking → List ℕ
ranking_text files ranking = text_of_lines (ranking_lines files ranking)
