use Rattle.std.proofs.Common.{◌≡◌, ◌∙◌, ap, sym, subst, arith, List}
use Rattle.number_tables.specs.Tables.{AreApart}
use Rattle.number_tables.specs.declared.slot.Slot.{Slot}
use Rattle.cover_marks.specs.Index.{FindsNodes}
use Rattle.cover_marks.specs.Slots.{node_slots}
use Rattle.cover_points.proofs.Places.{lines_end}
use Rattle.cover_marks.proofs.Numbers.{Numbers, node_slots_apart, nodes_found, ok_weaker, renumbered}
use Rattle.cover_marks.proofs.tables.node_table.Goals as goal

pub new-requires-clause-apart : goal.new-requires-clause-apart
new-requires-clause-apart c =
    let ps = c.args.points.now in
    let slots : c.as_slice-2.result.now ≡ node_slots ps.nodes.items = c.as_slice-2.ensures.value ∙ c.in_ok-slots.ensures ∙ ap node_slots c.as_slice.ensures.value in
    subst (λ (xs : List Slot). AreApart xs) (sym slots) (node_slots_apart ps c.requires.apart)

pub returns : goal.returns
returns c =
    let ps = c.args.points.now in
    let slots : c.as_slice-2.result.now ≡ node_slots ps.nodes.items = c.as_slice-2.ensures.value ∙ c.in_ok-slots.ensures ∙ ap node_slots c.as_slice.ensures.value in
    let first : c.len-first.result ≡ lines_end ps = omega (arith, c.len-first.ensures) in
    ok_weaker (λ t. Numbers t c.as_slice-2.result.now (c.len-first.result)) (FindsNodes ps) (λ t h. nodes_found ps c.requires.apart t (renumbered t c.as_slice-2.result.now (node_slots ps.nodes.items) (c.len-first.result) (lines_end ps) slots first h)) c.new.result c.new.ensures
