-- The line that is warned where no points of a design are listed.
use Rattle.std.specs.Prelude.{ℕ, List, ◌++◌, codes}
use Rattle.design_points.specs.cover_points.FaultText.{point_text}
use Rattle.design_points.specs.cover_points.declared.fault.PointFault.{PointFault}
use Rattle.design_points.specs.cover_points.declared.fault.PointFault.TheVariants.{NoMemory}

-- the line that is warned
abbrev pub points_line : PointFault → List ℕ
points_line NoMemory = codes "covered: memory\n"
points_line other = codes "covered: source: " ++ point_text other ++ codes "\n"

-- the line that is warned where a name of a machine that is to be drawn is at fault
abbrev pub machine_line : List ℕ → List ℕ
machine_line name = codes "covered: source: points 5 NoMachine " ++ name ++ codes "\n"
