-- The faults of points in messages.
use Rattle.std.specs.Prelude.{ℕ, List, ◌++◌, codes}
use Rattle.cover_points.specs.declared.fault.PointFault.{PointFault}
use Rattle.cover_points.specs.declared.fault.PointFault.TheVariants.{NoMemory, NoState, SameState, TooManyPoints, TooManyStates}

-- the stage, the number and the name of a fault, and what it is about
abbrev pub point_text : PointFault → List ℕ
point_text NoMemory = codes "memory"
point_text (NoState name) = codes "points 1 NoState " ++ name
point_text (SameState name) = codes "points 2 SameState " ++ name
point_text TooManyPoints = codes "points 3 TooManyPoints"
point_text (TooManyStates name) = codes "points 4 TooManyStates " ++ name
