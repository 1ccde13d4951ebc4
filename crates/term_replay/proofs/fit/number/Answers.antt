use Rattle.term_replay.proofs.Standing.{number_stands}
use Rattle.term_replay.proofs.fit.number.Goals as goal

pub returns : goal.returns
returns c = λ v first. number_stands v first c.args.head c.args.value.now c.whole.result c.fitted.result c.whole.ensures c.fitted.ensures
