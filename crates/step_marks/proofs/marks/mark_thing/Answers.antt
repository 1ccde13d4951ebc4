use Rattle.std.proofs.Common.{◌≤◌, ◌∙◌, length, refl, sym, ap, subst}
use Rattle.design_model.specs.Design.{Design, no_signal}
use Rattle.design_model.specs.View.{design_view}
use Rattle.step_parts.proofs.step_values.Before.{before_length}
use Rattle.step_parts.specs.step_values.Vectors.{vector_at}
use Rattle.step_marks.proofs.Found.{indexed, lists, marks_of, new_width, old_width, past_end, signal_is, turn_of}
use Rattle.step_marks.proofs.Turns.{passed}
use Rattle.step_marks.proofs.marks.mark_thing.Goals as goal

pub returns-in_default-clause-toggles : goal.returns-in_default-clause-toggles
returns-in_default-clause-toggles c = λ st ps over.
    let past = past_end c.args.design.now.signals c.args.thing no_signal c.in_default.ensures.value in
    passed st ps c.args.thing c.args.marks.now.verdicts (subst (λ (e : Design). length e.signals ≤ c.args.thing) (sym c.requires.same ∙ over.values.knows.design) past)

pub before_step-before-requires-clause-width : goal.before_step-before-requires-clause-width
before_step-before-requires-clause-width c =
    let known = c.requires.known in
    old_width (design_view c.args.design.now) c.args.thing c.in-Some.shape.now c.requires.lawful c.in-Some.ensures.value c.args.values.now (vector_at c.args.values.now.before c.args.thing) c.requires.fits refl
    ∙ sym (new_width (design_view c.args.design.now) c.args.thing c.in-Some.shape.now c.requires.lawful c.in-Some.ensures.value c.args.store.now known.0 known.1 c.known_signal-after.result c.requires.same known.2 c.known_signal-after.ensures)

pub mark-requires-clause-indexed : goal.mark-requires-clause-indexed
mark-requires-clause-indexed c = indexed (design_view c.args.design.now) c.args.thing c.in-Some.shape.now c.requires.lawful c.in-Some.ensures.value c.bound_law.ensures

pub mark-requires-clause-width : goal.mark-requires-clause-width
mark-requires-clause-width c = (marks_of (design_view c.args.design.now) c.args.thing c.in-Some.shape.now c.requires.lawful c.in-Some.ensures.value c.requires.listed.0 c.requires.listed.1 c.requires.listed.2).width

pub mark-requires-clause-plain : goal.mark-requires-clause-plain
mark-requires-clause-plain c = (marks_of (design_view c.args.design.now) c.args.thing c.in-Some.shape.now c.requires.lawful c.in-Some.ensures.value c.requires.listed.0 c.requires.listed.1 c.requires.listed.2).plain

pub mark-requires-clause-before : goal.mark-requires-clause-before
mark-requires-clause-before c =
    let known = c.requires.known in
    let old = old_width (design_view c.args.design.now) c.args.thing c.in-Some.shape.now c.requires.lawful c.in-Some.ensures.value c.args.values.now (vector_at c.args.values.now.before c.args.thing) c.requires.fits refl in
    let new = new_width (design_view c.args.design.now) c.args.thing c.in-Some.shape.now c.requires.lawful c.in-Some.ensures.value c.args.store.now known.0 known.1 c.known_signal-after.result c.requires.same known.2 c.known_signal-after.ensures in
    ap length c.before_step-before.ensures ∙ before_length c.args.on_list (vector_at c.args.values.now.before c.args.thing).bits c.known_signal-after.result.bits (old ∙ sym new) ∙ old

pub mark-requires-clause-after : goal.mark-requires-clause-after
mark-requires-clause-after c =
    let known = c.requires.known in
    new_width (design_view c.args.design.now) c.args.thing c.in-Some.shape.now c.requires.lawful c.in-Some.ensures.value c.args.store.now known.0 known.1 c.known_signal-after.result c.requires.same known.2 c.known_signal-after.ensures

pub mark-requires-clause-listed : goal.mark-requires-clause-listed
mark-requires-clause-listed c =
    let list = c.requires.listed in
    (list.1, list.3, (marks_of (design_view c.args.design.now) c.args.thing c.in-Some.shape.now c.requires.lawful c.in-Some.ensures.value list.0 list.1 list.2).listed)

pub returns-clause-toggles : goal.returns-clause-toggles
returns-clause-toggles c = λ st ps over.
    let d = design_view c.args.design.now in
    let shape = c.in-Some.shape.now in
    let m = c.args.marks.now in
    let is = signal_is d st ps c.args.thing c.args.time c.args.on_list shape c.args.store.now c.args.values.now c.args.seen.now m c.requires.lawful c.in-Some.ensures.value c.requires.same over in
    let both = lists d st ps c.args.thing c.args.time c.args.on_list shape c.args.store.now c.args.values.now c.args.seen.now m c.requires.lawful c.in-Some.ensures.value c.requires.same over in
    turn_of d st ps c.args.thing c.args.time c.args.on_list shape c.args.store.now c.args.values.now c.args.seen.now m c.requires.lawful c.in-Some.ensures.value c.requires.same over c.before_step-before.result c.known_signal-after.result c.mark.new.marks.verdicts c.before_step-before.ensures c.known_signal-after.ensures (c.mark.ensures.toggles st.design ps is over.marks both over.seen)

pub returns-clause-seen : goal.returns-clause-seen
returns-clause-seen c = λ st ps over.
    let d = design_view c.args.design.now in
    let shape = c.in-Some.shape.now in
    let m = c.args.marks.now in
    let is = signal_is d st ps c.args.thing c.args.time c.args.on_list shape c.args.store.now c.args.values.now c.args.seen.now m c.requires.lawful c.in-Some.ensures.value c.requires.same over in
    let both = lists d st ps c.args.thing c.args.time c.args.on_list shape c.args.store.now c.args.values.now c.args.seen.now m c.requires.lawful c.in-Some.ensures.value c.requires.same over in
    record { marks = c.mark.ensures.points ps over.marks; seen = c.mark.ensures.seen st.design ps is over.marks both over.seen }
