use Rattle.mark_laws.proofs.Verdicts.{visit_of_key}
use Rattle.mark_laws.proofs.key_law.Goals as goal

pub returns : goal.returns
returns c d x p spot h = visit_of_key d x p spot h
