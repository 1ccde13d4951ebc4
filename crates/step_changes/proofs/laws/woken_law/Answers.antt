use Rattle.step_changes.proofs.Woken.{woken_are}
use Rattle.step_changes.proofs.laws.woken_law.Goals as goal

pub returns : goal.returns
returns c d h dump t tables w early of tabled sets found = woken_are d h dump t tables w early of tabled sets found
