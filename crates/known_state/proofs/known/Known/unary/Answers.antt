use Rattle.known_state.proofs.UnarySound.{unary_allows, unary_tight, unary_exact}
use Rattle.known_state.proofs.known.Known.unary.Goals as goal

pub returns-clause-sound : goal.returns-clause-sound
returns-clause-sound c = rw c.agreed.ensures (unary_allows c.args.op c.args.a.now)

pub returns-clause-tight : goal.returns-clause-tight
returns-clause-tight c = rw c.agreed.ensures (unary_tight c.args.op c.args.a.now)

pub returns-clause-exact : goal.returns-clause-exact
returns-clause-exact c = rw c.agreed.ensures (unary_exact c.args.op c.args.a.now)
