use Rattle.term_replay.proofs.Standing.{signal_stands}
use Rattle.term_replay.proofs.fit.signal.Goals as goal

pub returns : goal.returns
returns c = λ v first s is. signal_stands v first c.args.head s c.args.read.now c.fitted.result is c.fitted.ensures
