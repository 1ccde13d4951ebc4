use Rattle.still_check.proofs.Still.{moved}
use Rattle.still_check.proofs.laws.moved_law.Goals as goal

pub returns : goal.returns
returns c st changed overwritten found is inputs over bound m = moved st changed overwritten found is inputs over bound m
