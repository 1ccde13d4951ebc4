use Rattle.std.proofs.Common.{◌≡◌, ◌∙◌, ap, subst, sym}
use Rattle.number_tables.specs.Tables.{IsNumberOf}
use Rattle.number_tables.specs.declared.slot.Slot.{Slot}
use Rattle.cover_marks.specs.Slots.{machine_slot}
use Rattle.cover_marks.proofs.index.PointIndex.machine_number.Goals as goal

pub returns : goal.returns
returns c = λ points k h at.
    let x = c.args.self.now in
    let slot : c.machine_slot.result ≡ machine_slot x.counts.items c.args.point = c.machine_slot.ensures ∙ ap (λ counts. machine_slot counts c.args.point) c.as_slice.ensures.value in
    c.number.ensures k (subst (λ (s : Slot). IsNumberOf x.states s k) (sym slot) (h.states k c.args.point at))
