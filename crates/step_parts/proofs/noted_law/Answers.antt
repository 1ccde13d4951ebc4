use Rattle.step_parts.proofs.Noted.{noted}
use Rattle.step_parts.proofs.noted_law.Goals as goal

pub returns : goal.returns
returns c st = noted st
