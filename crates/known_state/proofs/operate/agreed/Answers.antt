use Rattle.std.proofs.Common.{sym, ◌∙◌}
use Rattle.four_state.specs.declared.bit.Bit.TheVariants.{Zero, One}
use Rattle.known_state.proofs.UnarySound.{unary_whole, unary_widths, unary_widths_moved, length-whole}
use Rattle.known_state.proofs.operate.agreed.Goals as goal

pub returns-then-is_whole : goal.returns-then-is_whole
returns-then-is_whole c =
    rw (c.whole.ensures, c.unary.ensures, c.value.ensures.value) (unary_whole c.args.op c.args.a.now (sym c.is_whole.ensures ∙ c.if-is_whole.true))

pub narrowed-requires : goal.narrowed-requires
narrowed-requires c =
    rw (c.whole-2.ensures, c.unary-2.ensures, c.filled.ensures, c.unary-3.ensures, c.filled-2.ensures) (length-whole _ ∙ unary_widths c.args.op c.args.a.now Zero One)

pub narrowed-requires-2 : goal.narrowed-requires-2
narrowed-requires-2 c =
    rw (c.narrowed.ensures, c.whole-2.ensures, c.unary-2.ensures, c.filled.ensures, c.unary-3.ensures, c.filled-2.ensures, c.unary-4.ensures, c.filled-3.ensures) (unary_widths_moved c.args.op c.args.a.now)
