use Rattle.known_state.proofs.ChoiceLaws.{merge_widths}
use Rattle.known_state.proofs.choose.merged.Goals as goal

pub narrowed-requires : goal.narrowed-requires
narrowed-requires c = rw (c.whole.ensures, c.choose-zeros.ensures, c.choose-ones.ensures, c.filled.ensures, c.filled-2.ensures, c.filled-3.ensures, c.filled-4.ensures) (merge_widths c.args.a.now c.args.b.now c.requires)
