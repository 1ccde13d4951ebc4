use Rattle.std.proofs.lemmas.Int.{to_z-of_z}
use Rattle.known_state.proofs.Moved.{select_allows, select_tight, select_exact, select_widths}
use Rattle.known_state.proofs.known.Known.select.Goals as goal

pub narrowed-requires : goal.narrowed-requires
narrowed-requires c =
    let fits = c.ranges.low in
    rw (c.whole.ensures, c.select-zeros.ensures, c.select-ones.ensures, c.filled.ensures, c.filled-2.ensures, to_z-of_z) (select_widths c.args.self.now c.args.width c.args.low)

pub returns-clause-sound : goal.returns-clause-sound
returns-clause-sound c =
    let fits = c.ranges.low in
    rw (c.narrowed.ensures, c.whole.ensures, c.select-zeros.ensures, c.select-ones.ensures, c.filled.ensures, c.filled-2.ensures, to_z-of_z) (select_allows c.args.self.now c.args.width c.args.low c.blame.result)

pub returns-clause-tight : goal.returns-clause-tight
returns-clause-tight c =
    let fits = c.ranges.low in
    rw (c.narrowed.ensures, c.whole.ensures, c.select-zeros.ensures, c.select-ones.ensures, c.filled.ensures, c.filled-2.ensures, to_z-of_z) (select_tight c.args.self.now c.args.width c.args.low)

pub returns-clause-exact : goal.returns-clause-exact
returns-clause-exact c =
    let fits = c.ranges.low in
    rw (c.narrowed.ensures, c.whole.ensures, c.select-zeros.ensures, c.select-ones.ensures, c.filled.ensures, c.filled-2.ensures, to_z-of_z) (select_exact c.args.self.now c.args.width c.args.low c.blame.result)
