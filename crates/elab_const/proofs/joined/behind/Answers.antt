use Rattle.std.proofs.Common.{sym, append-nil}
use Rattle.elab_const.proofs.joined.behind.Goals as goal

pub returns-in-None : goal.returns-in-None
returns-in-None c = rw c.in-None.is (sym (append-nil c.args.part.now.bits))
