use Rattle.mark_laws.proofs.Marked.{doubt_set}
use Rattle.mark_laws.proofs.doubt_law.Goals as goal

pub returns : goal.returns
returns c d ps ns n vs k y apart once h l key is = doubt_set d ps ns n vs k y apart once h l key is
