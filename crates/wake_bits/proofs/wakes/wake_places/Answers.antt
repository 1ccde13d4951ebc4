use Rattle.std.proofs.Common.{◌∙◌, ◌≤◌, length, not, sym, arith}
use Rattle.four_state.proofs.Places.{is_set-zero}
use Rattle.design_model.specs.Design.{cell, signal_at}
use Rattle.design_model.specs.View.{design_view}
use Rattle.process_targets.specs.Targets.{row_has}
use Rattle.process_targets.proofs.Offsets.{signal_narrow}
use Rattle.wake_bits.proofs.Cells.{left_places}
use Rattle.wake_bits.proofs.WakeRows.{no_width}
use Rattle.wake_bits.proofs.wakes.wake_places.Goals as goal

pub returns-then-thing-len : goal.returns-then-thing-len
returns-then-thing-len c k =
    let past : length c.args.design.now.signals ≤ c.args.thing = omega (arith, c.if-thing-len.true, c.len.ensures) in
    is_set-zero k ∙ sym (no_width (design_view c.args.design.now) c.args.thing k (not (row_has c.args.row.now (cell c.args.thing k))) past)

pub returns : goal.returns
returns c k =
    left_places c.all_places.result c.mask_of.result (signal_at (design_view c.args.design.now) c.args.thing).width k (row_has c.args.row.now (cell c.args.thing k)) (signal_narrow (design_view c.args.design.now) c.args.thing c.requires.lawful) c.mask_of.type_inv (c.all_places.ensures k) (c.mask_of.ensures k)
