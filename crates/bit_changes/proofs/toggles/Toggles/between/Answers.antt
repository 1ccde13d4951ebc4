use Rattle.std.proofs.Common.{◌<◌, None, get_or, length}
use Rattle.four_state.proofs.Places.{is_set-and, is_set-or}
use Rattle.bit_changes.proofs.Bits.{falls_if, may_fall_if, may_rise_if, rises_if, sure_at}
use Rattle.bit_changes.proofs.toggles.Toggles.between.Goals as goal

pub returns-clause-rises : goal.returns-clause-rises
returns-clause-rises c =
    λ i l. let m : i < length c.args.new.now.bits = rw (← c.requires) l in
    rw (is_set-and, is_set-and, c.sure.ensures, sure_at c.args.old.now.bits i l, c.zeros.ensures i l, c.ones.ensures i m) (rises_if (get_or c.args.old.now.bits i None) (get_or c.args.new.now.bits i None))

pub returns-clause-falls : goal.returns-clause-falls
returns-clause-falls c =
    λ i l. let m : i < length c.args.new.now.bits = rw (← c.requires) l in
    rw (is_set-and, is_set-and, c.sure-2.ensures, sure_at c.args.new.now.bits i m, c.ones-2.ensures i l, c.zeros-2.ensures i m) (falls_if (get_or c.args.old.now.bits i None) (get_or c.args.new.now.bits i None))

pub returns-clause-may_rise : goal.returns-clause-may_rise
returns-clause-may_rise c =
    λ i l. let m : i < length c.args.new.now.bits = rw (← c.requires) l in
    rw (is_set-and, is_set-or, c.zeros-3.ensures i l, c.ones-3.ensures i m, c.unsure.ensures i m) (may_rise_if (get_or c.args.old.now.bits i None) (get_or c.args.new.now.bits i None))

pub returns-clause-may_fall : goal.returns-clause-may_fall
returns-clause-may_fall c =
    λ i l. let m : i < length c.args.new.now.bits = rw (← c.requires) l in
    rw (is_set-and, is_set-or, c.ones-4.ensures i l, c.unsure-2.ensures i l, c.zeros-4.ensures i m) (may_fall_if (get_or c.args.old.now.bits i None) (get_or c.args.new.now.bits i None))
