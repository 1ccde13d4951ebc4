use Rattle.mark_laws.proofs.Marked.{hit_set}
use Rattle.mark_laws.proofs.hit_law.Goals as goal

pub returns : goal.returns
returns c d ps ns n vs k apart once h l key none = hit_set d ps ns n vs k apart once h l key none
