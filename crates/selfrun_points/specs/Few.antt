-- That the points of the design of a selfrun are few.
use Rattle.std.specs.Global.{Global}
use Rattle.design_model.specs.Lawful.{IsLawfulDesign}
use Rattle.design_points.specs.Counted.{HasFewPoints}
use Rattle.selfrun_design.specs.Selfrun.{selfrun}
use Rattle.state_machines.specs.Machines.{no_machines}

-- Points law: with an allocator there is a list of the points of the design, which is lawful, and it is not longer than the limit.
abbrev pub SelfrunPointsLaw : Type 0
SelfrunPointsLaw = Global → IsLawfulDesign selfrun → HasFewPoints selfrun no_machines
