use Rattle.std.proofs.Common.{sym, ◌∙◌}
use Rattle.four_state.specs.declared.bit.Bit.TheVariants.{Zero, One, X}
use Rattle.known_state.specs.Partly.{filled}
use Rattle.known_state.proofs.Bits.{length-filled_from}
use Rattle.known_state.proofs.UnarySound.{length-whole}
use Rattle.known_state.proofs.BinaryLaws.{binary_whole, binary_widths, binary_crossed_width, binary_moved_width, binary_mixed_width, binary_strange_width, filled_shape}
use Rattle.known_state.proofs.operate.both_agreed.Goals as goal

pub returns-then-is_whole-2 : goal.returns-then-is_whole-2
returns-then-is_whole-2 c =
    rw (c.whole.ensures, c.binary.ensures, c.value.ensures.value, c.value-then-is_whole-2.ensures.value) (binary_whole c.args.op c.args.a.now c.args.b.now c.requires _ (sym c.is_whole.ensures ∙ c.if-is_whole.true) (sym c.is_whole-then-is_whole.ensures ∙ c.if-is_whole-2.true))

pub narrowed-requires : goal.narrowed-requires
narrowed-requires c =
    rw (c.whole-2.ensures, c.binary-2.ensures, c.filled-low.ensures, c.filled-zeros.ensures, c.binary-3.ensures, c.filled.ensures, c.filled-ones.ensures) (length-whole _ ∙ binary_widths c.args.op c.args.a.now c.args.b.now c.requires Zero Zero ∙ sym (binary_widths c.args.op c.args.a.now c.args.b.now c.requires One One))

pub narrowed-requires-2 : goal.narrowed-requires-2
narrowed-requires-2 c =
    rw (c.narrowed.ensures, c.whole-2.ensures, c.binary-2.ensures, c.binary-3.ensures, c.binary-4.ensures, c.filled-low.ensures, c.filled-zeros.ensures, c.filled.ensures, c.filled-ones.ensures) (binary_moved_width c.args.op c.args.a.now c.args.b.now c.requires ∙ sym (binary_widths c.args.op c.args.a.now c.args.b.now c.requires Zero One))

pub narrowed-requires-3 : goal.narrowed-requires-3
narrowed-requires-3 c =
    rw (c.narrowed-2.ensures, c.narrowed.ensures, c.whole-2.ensures, c.binary-2.ensures, c.binary-3.ensures, c.binary-4.ensures, c.binary-5.ensures, c.filled-low.ensures, c.filled-zeros.ensures, c.filled-ones.ensures, c.filled.ensures, c.filled-2.ensures, c.filled-3.ensures) (binary_mixed_width c.args.op c.args.a.now c.args.b.now c.requires ∙ sym (binary_widths c.args.op c.args.a.now c.args.b.now c.requires X X))

pub binary-requires-6 : goal.binary-requires-6
binary-requires-6 c =
    rw (c.filled_from.ensures, c.filled_from-2.ensures, c.filled-zeros.ensures, c.filled-low.ensures) (filled_shape c.args.op c.args.a.now c.args.b.now c.requires _ _ (length-filled_from c.args.a.now.bits (filled Zero c.args.b.now.bits)) (length-filled_from c.args.b.now.bits (filled Zero c.args.a.now.bits)))

pub narrowed-requires-4 : goal.narrowed-requires-4
narrowed-requires-4 c =
    rw (c.narrowed-3.ensures, c.narrowed-2.ensures, c.narrowed.ensures, c.whole-2.ensures, c.binary-2.ensures, c.binary-3.ensures, c.binary-4.ensures, c.binary-5.ensures, c.binary-6.ensures, c.filled_from.ensures, c.filled_from-2.ensures, c.filled-low.ensures, c.filled-zeros.ensures, c.filled-ones.ensures, c.filled.ensures, c.filled-2.ensures, c.filled-3.ensures) (binary_strange_width c.args.op c.args.a.now c.args.b.now c.requires ∙ sym (binary_crossed_width c.args.op c.args.a.now c.args.b.now c.requires))
