use Rattle.known_state.proofs.Moved.{append_allows, append_tight, append_exact}
use Rattle.known_state.proofs.known.Known.append.Goals as goal

pub returns-clause-sound : goal.returns-clause-sound
returns-clause-sound c =
    rw (c.narrowed.ensures, c.whole.ensures, c.append-zeros.ensures, c.append-ones.ensures, c.filled.ensures, c.filled-2.ensures, c.filled-3.ensures, c.filled-4.ensures) (append_allows c.args.high.now c.args.low.now c.first_blame.result)

pub returns-clause-tight : goal.returns-clause-tight
returns-clause-tight c =
    rw (c.narrowed.ensures, c.whole.ensures, c.append-zeros.ensures, c.append-ones.ensures, c.filled.ensures, c.filled-2.ensures, c.filled-3.ensures, c.filled-4.ensures) (append_tight c.args.high.now c.args.low.now)

pub returns-clause-exact : goal.returns-clause-exact
returns-clause-exact c =
    rw (c.narrowed.ensures, c.whole.ensures, c.append-zeros.ensures, c.append-ones.ensures, c.filled.ensures, c.filled-2.ensures, c.filled-3.ensures, c.filled-4.ensures) (append_exact c.args.high.now c.args.low.now c.first_blame.result)
