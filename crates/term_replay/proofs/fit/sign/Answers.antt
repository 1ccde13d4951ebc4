use Rattle.term_replay.proofs.Standing.{sign_stands}
use Rattle.term_replay.proofs.fit.sign.Goals as goal

pub returns : goal.returns
returns c = λ v first x s sa. sign_stands v first c.args.head x s c.args.operand.now c.fitted.result sa c.fitted.ensures
