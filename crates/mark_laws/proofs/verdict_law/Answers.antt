use Rattle.mark_laws.proofs.Verdicts.{verdict_is}
use Rattle.mark_laws.proofs.verdict_law.Goals as goal

pub returns : goal.returns
returns c d ps ns ms k v apart once h l is = verdict_is d ps apart once k l ns ms h v is
