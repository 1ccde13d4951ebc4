-- What a selfrun prints.
-- Bytes are written as numbers: 10 line feed, 32 space.
use Rattle.std.specs.Prelude.{ℕ, Bool, true, false, List, [], ◌∷◌, ◌++◌, codes, count_by, decimal, length}
use Rattle.coverage_db.specs.declared.db.Db.{Db}
use Rattle.coverage_db.specs.declared.db.DbPoint.{DbPoint}
use Rattle.coverage_db.specs.declared.verdict.DbVerdict.{DbVerdict}
use Rattle.coverage_db.specs.declared.verdict.DbVerdict.TheVariants.{Hit, Missed, Undetermined}

abbrev pub is_hit : DbVerdict → Bool
is_hit Hit = true
is_hit Missed = false
is_hit (Undetermined time path) = false

abbrev pub is_missed : DbVerdict → Bool
is_missed Hit = false
is_missed Missed = true
is_missed (Undetermined time path) = false

abbrev pub is_undetermined : DbVerdict → Bool
is_undetermined Hit = false
is_undetermined Missed = false
is_undetermined (Undetermined time path) = true

-- how many points came out in this way
abbrev pub count_in : (DbVerdict → Bool) → List DbPoint → ℕ
count_in came_out points = count_by (λ point. came_out point.verdict) points

-- the line of a number
abbrev pub number_line : List ℕ → ℕ → List ℕ
number_line name number = name ++ 32 ∷ decimal number ++ 10 ∷ []

-- the six lines
abbrev pub print_text : ℕ → Db → List ℕ
print_text times table =
    codes "covered selfrun 1\n"
    ++ number_line (codes "times") times
    ++ number_line (codes "points") (length table.points)
    ++ number_line (codes "hit") (count_in is_hit table.points)
    ++ number_line (codes "missed") (count_in is_missed table.points)
    ++ number_line (codes "undetermined") (count_in is_undetermined table.points)
