use Rattle.std.proofs.Common.{List, sym, subst, take}
use Rattle.std.specs.List.{All}
use Rattle.std.proofs.lemmas.List.{take_all, take_more}
use Rattle.number_tables.specs.Tables.{HasRoom, no_slot}
use Rattle.number_tables.specs.declared.slot.Slot.{Slot}
use Rattle.number_tables.proofs.ranges.make_room.Goals as goal

pub loop-slot-preserved : goal.loop-slot-preserved
loop-slot-preserved c =
    let slots = c.args.slots.now in
    let i = c.loop-slot.slot-index in
    subst (λ (xs : List Slot). All (HasRoom c.add_slot.new.ranges) xs) (sym (take_more slots i no_slot c.loop-slot-test.true)) (c.add_slot.ensures (take i slots) c.loop-slot.invariant)

pub returns : goal.returns
returns c = rw (take_all c.loop-slot.slot-index c.args.slots.now c.loop-slot-test.false) at c.loop-slot.invariant
