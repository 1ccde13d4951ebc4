use Rattle.process_targets.proofs.PartLaw as parts
use Rattle.process_targets.proofs.laws.part_law.Goals as goal

pub returns : goal.returns
returns c = parts.part_law
