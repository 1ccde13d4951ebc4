use Rattle.std.proofs.Common.{◌≡◌, ◌∙◌, ap, sym, subst, refl, List}
use Rattle.number_tables.specs.Tables.{AreApart}
use Rattle.number_tables.specs.declared.slot.Slot.{Slot}
use Rattle.cover_marks.specs.Index.{FindsLines}
use Rattle.cover_marks.specs.Slots.{line_slots}
use Rattle.cover_marks.proofs.Numbers.{Numbers, line_slots_apart, lines_found, ok_weaker, renumbered}
use Rattle.cover_marks.proofs.tables.line_table.Goals as goal

pub new-requires-clause-apart : goal.new-requires-clause-apart
new-requires-clause-apart c =
    let ps = c.args.points.now in
    let slots : c.as_slice-2.result.now ≡ line_slots ps.lines.items = c.as_slice-2.ensures.value ∙ c.in_ok-slots.ensures ∙ ap line_slots c.as_slice.ensures.value in
    subst (λ (xs : List Slot). AreApart xs) (sym slots) (line_slots_apart ps c.requires.apart)

pub returns : goal.returns
returns c =
    let ps = c.args.points.now in
    let slots : c.as_slice-2.result.now ≡ line_slots ps.lines.items = c.as_slice-2.ensures.value ∙ c.in_ok-slots.ensures ∙ ap line_slots c.as_slice.ensures.value in
    ok_weaker (λ t. Numbers t c.as_slice-2.result.now 0) (FindsLines ps) (λ t h. lines_found ps c.requires.apart t (renumbered t c.as_slice-2.result.now (line_slots ps.lines.items) 0 0 slots refl h)) c.new.result c.new.ensures
