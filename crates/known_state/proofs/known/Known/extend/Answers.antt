use Rattle.known_state.proofs.Moved.{extend_allows, extend_tight, extend_exact, extend_widths}
use Rattle.known_state.proofs.known.Known.extend.Goals as goal

pub narrowed-requires : goal.narrowed-requires
narrowed-requires c =
    rw (c.whole.ensures, c.extend-zeros.ensures, c.extend-ones.ensures, c.filled.ensures, c.filled-2.ensures) (extend_widths c.args.self.now c.args.width)

pub returns-clause-sound : goal.returns-clause-sound
returns-clause-sound c =
    rw (c.narrowed.ensures, c.whole.ensures, c.extend-zeros.ensures, c.extend-ones.ensures, c.filled.ensures, c.filled-2.ensures) (extend_allows c.args.self.now c.args.width c.args.signed c.blame.result)

pub returns-clause-tight : goal.returns-clause-tight
returns-clause-tight c =
    rw (c.narrowed.ensures, c.whole.ensures, c.extend-zeros.ensures, c.extend-ones.ensures, c.filled.ensures, c.filled-2.ensures) (extend_tight c.args.self.now c.args.width)

pub returns-clause-exact : goal.returns-clause-exact
returns-clause-exact c =
    rw (c.narrowed.ensures, c.whole.ensures, c.extend-zeros.ensures, c.extend-ones.ensures, c.filled.ensures, c.filled-2.ensures) (extend_exact c.args.self.now c.args.width c.args.signed c.blame.result)
