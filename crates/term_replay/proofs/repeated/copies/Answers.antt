use Rattle.std.proofs.Common.{◌∙◌, ap, arith, length}
use Rattle.term_replay.proofs.Joining.{length-copies, room_for_copy}
use Rattle.term_replay.proofs.repeated.copies.Goals as goal

pub appended-all-requires : goal.appended-all-requires
appended-all-requires c =
    room_for_copy c.loop-made.made c.args.count (length c.args.value.now.bits) (length c.loop-made.all.bits) (ap length c.loop-made.invariant.bits ∙ length-copies c.loop-made.made c.args.value.now.bits) (omega arith) c.requires.room
