use Rattle.std.proofs.Common.{◌∙◌, ap, sym}
use Rattle.step_changes.specs.Changes.{lowest}
use Rattle.step_changes.proofs.Found.{first_bit}
use Rattle.step_changes.proofs.changes.lowest.Goals as goal

pub returns-in-Some : goal.returns-in-Some
returns-in-Some c = first_bit c.in-Some.value.bits c.bit.result c.bit.ensures ∙ ap lowest (sym c.in-Some.is)
