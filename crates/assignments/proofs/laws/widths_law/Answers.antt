use Rattle.assignments.proofs.Lawful.{lawful_widths}
use Rattle.assignments.proofs.laws.widths_law.Goals as goal

pub returns : goal.returns
returns c = lawful_widths
