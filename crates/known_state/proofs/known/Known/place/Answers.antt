use Rattle.std.proofs.Common.{neg_ℤ}
use Rattle.std.proofs.lemmas.Int.{to_z-of_z}
use Rattle.known_state.proofs.Moved.{place_allows, place_tight, place_exact, place_widths}
use Rattle.known_state.proofs.known.Known.place.Goals as goal

pub narrowed-requires : goal.narrowed-requires
narrowed-requires c =
    let fits = c.ranges.low in
    rw (c.whole.ensures, c.place-zeros.ensures, c.place-ones.ensures, c.filled.ensures, c.filled-2.ensures, c.filled-3.ensures, c.filled-4.ensures, to_z-of_z) (place_widths c.args.self.now c.args.part.now (neg_ℤ c.args.low))

pub returns-clause-sound : goal.returns-clause-sound
returns-clause-sound c =
    let fits = c.ranges.low in
    rw (c.narrowed.ensures, c.whole.ensures, c.place-zeros.ensures, c.place-ones.ensures, c.filled.ensures, c.filled-2.ensures, c.filled-3.ensures, c.filled-4.ensures, to_z-of_z) (place_allows c.args.self.now c.args.part.now (neg_ℤ c.args.low) c.first_blame.result)

pub returns-clause-tight : goal.returns-clause-tight
returns-clause-tight c =
    let fits = c.ranges.low in
    rw (c.narrowed.ensures, c.whole.ensures, c.place-zeros.ensures, c.place-ones.ensures, c.filled.ensures, c.filled-2.ensures, c.filled-3.ensures, c.filled-4.ensures, to_z-of_z) (place_tight c.args.self.now c.args.part.now (neg_ℤ c.args.low))

pub returns-clause-exact : goal.returns-clause-exact
returns-clause-exact c =
    let fits = c.ranges.low in
    rw (c.narrowed.ensures, c.whole.ensures, c.place-zeros.ensures, c.place-ones.ensures, c.filled.ensures, c.filled-2.ensures, c.filled-3.ensures, c.filled-4.ensures, to_z-of_z) (place_exact c.args.self.now c.args.part.now (neg_ℤ c.args.low) c.first_blame.result)
