-- The flat design of the modules.
use Rattle.std.proofs.Common.{◌≡◌, Ok, refl, codes}
use Rattle.flat_design.specs.Faults.{answer}
use Rattle.selfrun_design.specs.Selfrun.{selfrun}
use Rattle.selfrun_design.proofs.Modules.{modules}

pub flat : answer modules (codes "selfrun") ≡ Ok selfrun
flat = refl
