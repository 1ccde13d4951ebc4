use Rattle.replay_follows.proofs.Steps.{one_time, other_value}
use Rattle.replay_follows.proofs.refused_examples.Goals as goal

pub returns-clause-value : goal.returns-clause-value
returns-clause-value c f t a x s code v coded is other follows = other_value f t a x s code v coded is other follows

pub returns-clause-single : goal.returns-clause-single
returns-clause-single c f t u a x single follows = one_time f t u a x single follows
