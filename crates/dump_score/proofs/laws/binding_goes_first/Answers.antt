use Rattle.dump_score.proofs.BindingFirst.{no_fault, no_replay}
use Rattle.dump_score.proofs.laws.binding_goes_first.Goals as goal

pub returns-clause-fault : goal.returns-clause-fault
returns-clause-fault c habit design instance text f kind byte named is = no_fault habit design instance text f named is kind byte

pub returns-clause-replay : goal.returns-clause-replay
returns-clause-replay c habit design instance text f r named is = no_replay habit design instance text f named is r
