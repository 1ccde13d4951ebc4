-- The points of a table that are hit.
use Rattle.std.specs.Prelude.{Bool, true, false, List, map}
use Rattle.coverage_db.specs.declared.db.Db.{Db}
use Rattle.coverage_db.specs.declared.db.DbPoint.{DbPoint}
use Rattle.coverage_db.specs.declared.verdict.DbVerdict.{DbVerdict}
use Rattle.coverage_db.specs.declared.verdict.DbVerdict.TheVariants.{Hit, Missed, Undetermined}

-- an undetermined point counts as not hit
abbrev pub is_hit : DbVerdict → Bool
is_hit Hit = true
is_hit Missed = false
is_hit (Undetermined time path) = false

-- which of the points are hit
abbrev pub hits_among : List DbPoint → List Bool
hits_among points = map (λ point. is_hit point.verdict) points

-- the points of a table that are hit
abbrev pub hits_of : Db → List Bool
hits_of db = hits_among db.points
