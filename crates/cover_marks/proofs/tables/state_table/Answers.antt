use Rattle.std.proofs.Common.{◌≡◌, ◌∙◌, ap, sym, subst, ◌+◌, arith, List}
use Rattle.number_tables.specs.Tables.{AreApart}
use Rattle.number_tables.specs.declared.slot.Slot.{Slot}
use Rattle.cover_marks.specs.Index.{FindsStates}
use Rattle.cover_marks.specs.Slots.{machine_slots, state_counts}
use Rattle.cover_points.proofs.Places.{toggles_end}
use Rattle.cover_marks.proofs.Numbers.{Numbers, ok_weaker, renumbered}
use Rattle.cover_marks.proofs.States.{state_slots_apart, states_found}
use Rattle.cover_marks.proofs.tables.state_table.Goals as goal

pub new-requires-clause-apart : goal.new-requires-clause-apart
new-requires-clause-apart c =
    let ps = c.args.points.now in
    let slots : c.as_slice-2.result.now ≡ machine_slots (state_counts ps.machines.items) ps.states.items =
    c.as_slice-2.ensures.value ∙ c.in_ok-slots.ensures ∙ ap (machine_slots c.args.counts.now) c.as_slice.ensures.value ∙ ap (λ (counts : List _). machine_slots counts ps.states.items) c.requires.counts in
    subst (λ (xs : List Slot). AreApart xs) (sym slots) (state_slots_apart ps c.requires.once c.requires.placed)

pub returns : goal.returns
returns c =
    let ps = c.args.points.now in
    let slots : c.as_slice-2.result.now ≡ machine_slots (state_counts ps.machines.items) ps.states.items =
    c.as_slice-2.ensures.value ∙ c.in_ok-slots.ensures ∙ ap (machine_slots c.args.counts.now) c.as_slice.ensures.value ∙ ap (λ (counts : List _). machine_slots counts ps.states.items) c.requires.counts in
    let first : c.len.result + c.len-2.result + c.len-3.result ≡ toggles_end ps = omega (arith, c.len.ensures, c.len-2.ensures, c.len-3.ensures) in
    ok_weaker (λ t. Numbers t c.as_slice-2.result.now (c.len.result + c.len-2.result + c.len-3.result)) (FindsStates ps c.args.counts.now) (λ t h. rw c.requires.counts (states_found ps c.requires.once c.requires.placed t (renumbered t c.as_slice-2.result.now (machine_slots (state_counts ps.machines.items) ps.states.items) (c.len.result + c.len-2.result + c.len-3.result) (toggles_end ps) slots first h))) c.new.result c.new.ensures
