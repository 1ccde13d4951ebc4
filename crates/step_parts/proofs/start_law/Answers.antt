use Rattle.step_parts.proofs.Parts.{starts}
use Rattle.step_parts.proofs.start_law.Goals as goal

pub returns : goal.returns
returns c st ps x v sets flags m runs clocked moving dump moves acted points marks values =
    starts st ps x v sets flags m runs clocked moving dump moves acted points marks values
