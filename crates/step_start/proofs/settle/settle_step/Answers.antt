use Rattle.std.proofs.Common.{◌≡◌, ◌∙◌, ◌<◌, ℕ, true, length, map, Some, sym, ap, subst}
use Rattle.std.specs.Prelude.{filter}
use Rattle.std.specs.List.{All}
use Rattle.std.proofs.lemmas.List.{length-map}
use Rattle.design_model.specs.Design.{Design, body_at}
use Rattle.design_model.specs.Mentions.{body_assigns}
use Rattle.design_model.specs.View.{design_view, process_view}
use Rattle.body_store.proofs.Lawful.{premises}
use Rattle.body_store.specs.body_calls.Own.{is_in}
use Rattle.early_sets.specs.WakeState.{state_of}
use Rattle.index_sets.specs.Rows.{row_at}
use Rattle.run_order.specs.Ranked.{AreRanksOf}
use Rattle.process_targets.specs.Rows.{AreTargetRows}
use Rattle.step_parts.specs.Due.{IsDueStep, step_of}
use Rattle.step_parts.specs.replay_model.Step.{clocked_run}
use Rattle.step_parts.specs.step_changes.Changes.{AreChangedSignals}
use Rattle.step_parts.specs.store_knowledge.Knows.{Knows}
use Rattle.still_check.specs.Stays.{IsLeastMoved}
use Rattle.still_check.specs.step_values.Dumped.{AreDumped, HaveCodes}
use Rattle.still_check.specs.step_values.Loose.{HaveRows, has_code}
use Rattle.still_check.specs.step_values.Starts.{AreTaken, left_by_clocked}
use Rattle.still_check.specs.step_values.Taken.{AreOfRows}
use Rattle.wake_list.specs.Members.{has}
use Rattle.step_start.specs.Settles.{ArePlaced}
use Rattle.step_start.proofs.Members.{have_rows, have_same_codes, in_order}
use Rattle.step_start.proofs.Named.{named}
use Rattle.step_start.proofs.Settled.{after, begun, contradicted, start, taken}
use Rattle.step_start.proofs.settle.settle_step.Goals as goal

-- ---- what the calls ask

pub take_made-requires-clause-rows : goal.take_made-requires-clause-rows
take_made-requires-clause-rows c =
    let count = c.requires.fits.written ∙ length-map c.args.store.now.design.now.processes process_view in
    subst (λ n. All (λ p. p < n) c.args.ran.now) (sym count) c.requires.within

pub take_made-requires-clause-coded : goal.take_made-requires-clause-coded
take_made-requires-clause-coded c = λ s coded. c.requires.fits.coded s (subst (λ cs. has_code cs s ≡ true) c.as_slice-codes.ensures.value coded)

pub first_moved-requires-clause-coded : goal.first_moved-requires-clause-coded
first_moved-requires-clause-coded c =
    have_same_codes (design_view c.args.store.now.design.now) c.args.tables.now.codes.items c.as_slice-codes.result.now c.args.values.now c.args.room.now.changed.items c.as_slice-changed.result.now c.as_slice-codes.ensures.value c.as_slice-changed.ensures c.requires.fits.coded c.requires.changed

pub first_moved-requires-clause-made : goal.first_moved-requires-clause-made
first_moved-requires-clause-made c = subst (HaveCodes (design_view c.args.store.now.design.now) c.as_slice-codes.result.now) (sym c.as_slice-overwritten.ensures) c.take_made.ensures.coded

pub first_moved-requires-clause-few : goal.first_moved-requires-clause-few
first_moved-requires-clause-few c = (premises _ c.requires.fits.lawful).few_signals

pub first_moved-requires-clause-dumped : goal.first_moved-requires-clause-dumped
first_moved-requires-clause-dumped c =
    let d = design_view c.args.store.now.design.now in
    (c.requires.dumped.0, subst (λ codes. AreDumped d codes c.args.values.now.last c.requires.dumped.0) (sym c.as_slice-codes.ensures.value) c.requires.dumped.1)

pub fill-requires-clause-count : goal.fill-requires-clause-count
fill-requires-clause-count c = c.requires.fits.ranked.size ∙ sym c.requires.fits.list

pub fill-requires-clause-ranked : goal.fill-requires-clause-ranked
fill-requires-clause-ranked c = (c.requires.fits.order, subst (λ n. AreRanksOf c.requires.fits.order n c.args.tables.now.order) (sym c.requires.fits.list) c.requires.fits.ranked)

pub list_running-requires : goal.list_running-requires
list_running-requires c = c.requires.fits.running ∙ sym c.requires.fits.ranked.size

pub settle-requires-clause-few : goal.settle-requires-clause-few
settle-requires-clause-few c = (premises _ c.requires.fits.lawful).few_signals

pub settle-requires-clause-rows : goal.settle-requires-clause-rows
settle-requires-clause-rows c =
    let d = design_view c.args.store.now.design.now in
    let targets = c.args.tables.now.targets in
    subst (HaveRows d targets) (sym c.as_slice.ensures) (have_rows d targets c.args.tables.now.order c.woken-woken.result.now c.list_running.new.running.items c.requires.fits.targets c.requires.fits.ranked.size c.list_running.ensures.placed)

pub settle-requires-clause-changed : goal.settle-requires-clause-changed
settle-requires-clause-changed c =
    have_same_codes (design_view c.args.store.now.design.now) c.args.tables.now.codes.items c.as_slice-codes.result.now c.args.values.now c.args.room.now.changed.items c.as_slice-changed.result.now c.as_slice-codes.ensures.value c.as_slice-changed.ensures c.requires.fits.coded c.requires.changed

pub settle-requires-clause-overwritten : goal.settle-requires-clause-overwritten
settle-requires-clause-overwritten c = subst (HaveCodes (design_view c.args.store.now.design.now) c.as_slice-codes.result.now) (sym c.as_slice-overwritten.ensures) c.take_made.ensures.coded

pub settle-requires-clause-dumped : goal.settle-requires-clause-dumped
settle-requires-clause-dumped c =
    let d = design_view c.args.store.now.design.now in
    (c.requires.dumped.0, subst (λ codes. AreDumped d codes c.args.values.now.last c.requires.dumped.0) (sym c.as_slice-codes.ensures.value) c.requires.dumped.1)

-- ---- where a signal differs from the dump

pub returns-in-Some-clause-least : goal.returns-in-Some-clause-least
returns-in-Some-clause-least c = λ due early wakes listed begin marks is found run.
    let codes = c.as_slice-codes.result.now in
    let ranks = c.args.tables.now.order in
    let clocked_ranks = c.args.tables.now.clocked in
    let w = state_of c.args.room.now.sets in
    let values = c.args.values.now in
    let here : IsDueStep due codes ranks clocked_ranks wakes values begin = subst (λ cs. IsDueStep due cs ranks clocked_ranks wakes values begin) (sym c.as_slice-codes.ensures.value) is in
    let least = c.in-Some.ensures (step_of due w early) (after due early codes ranks clocked_ranks wakes w values begin c.args.store.now here listed c.args.room.now.values found c.args.ran.now marks run) in
    subst (λ ss. IsLeastMoved (step_of due w early) ss c.take_made.new.overwritten.items (Some c.in-Some.found)) c.as_slice-changed.ensures
    (subst (λ ss. IsLeastMoved (step_of due w early) c.as_slice-changed.result.now ss (Some c.in-Some.found)) c.as_slice-overwritten.ensures least)

pub returns-in-Some-clause-contradicted : goal.returns-in-Some-clause-contradicted
returns-in-Some-clause-contradicted c = λ due early wakes listed begin marks is found run.
    let codes = c.as_slice-codes.result.now in
    let ranks = c.args.tables.now.order in
    let clocked_ranks = c.args.tables.now.clocked in
    let w = state_of c.args.room.now.sets in
    let values = c.args.values.now in
    let store = c.args.store.now in
    let vectors = c.args.room.now.values in
    let ran = c.args.ran.now in
    let written = c.args.tables.now.written in
    let changed = c.as_slice-changed.result.now in
    let overwritten = c.as_slice-overwritten.result.now in
    let here : IsDueStep due codes ranks clocked_ranks wakes values begin = subst (λ cs. IsDueStep due cs ranks clocked_ranks wakes values begin) (sym c.as_slice-codes.ensures.value) is in
    let are : AreChangedSignals codes values changed = subst (AreChangedSignals codes values) (sym c.as_slice-changed.ensures) (subst (λ cs. AreChangedSignals cs values c.args.room.now.changed.items) (sym c.as_slice-codes.ensures.value) c.requires.changed) in
    let of : AreOfRows codes written ran overwritten = subst (AreOfRows codes written ran) (sym c.as_slice-overwritten.ensures) c.take_made.ensures.overwritten in
    contradicted due early codes ranks clocked_ranks wakes w values begin store here listed vectors found ran marks run changed are written
    (subst (λ d. (p y : ℕ) → is_in (row_at written p) y ≡ body_assigns y (body_at d p)) run.knows.design c.requires.fits.assigned) overwritten of c.in-Some.found
    (c.in-Some.ensures (step_of due w early) (after due early codes ranks clocked_ranks wakes w values begin store here listed vectors found ran marks run))

pub returns-in-Some-clause-named : goal.returns-in-Some-clause-named
returns-in-Some-clause-named c =
    let codes = c.as_slice-codes.result.now in
    let values = c.args.values.now in
    let store = c.args.store.now in
    let d = design_view store.design.now in
    let h = c.requires.known.2 in
    named d c.requires.known.1 store (state_of c.args.room.now.sets) codes values.last c.as_slice-changed.result.now c.as_slice-overwritten.result.now c.requires.dumped.0 c.in-Some.found
    (subst (λ e. Knows e c.requires.known.1 store) (sym h.design) h)
    (subst (λ cs. AreDumped d cs values.last c.requires.dumped.0) (sym c.as_slice-codes.ensures.value) c.requires.dumped.1)
    (have_same_codes (design_view c.args.store.now.design.now) c.args.tables.now.codes.items c.as_slice-codes.result.now c.args.values.now c.args.room.now.changed.items c.as_slice-changed.result.now c.as_slice-codes.ensures.value c.as_slice-changed.ensures c.requires.fits.coded c.requires.changed)
    (subst (HaveCodes (design_view c.args.store.now.design.now) c.as_slice-codes.result.now) (sym c.as_slice-overwritten.ensures) c.take_made.ensures.coded) c.in-Some.ensures

-- ---- where none does

pub returns-clause-listed : goal.returns-clause-listed
returns-clause-listed c = λ order ranked.
    let first = λ (q : ℕ × ℕ). q.0 in
    subst (λ ps. map first c.fill.new.list.pairs ≡ filter (λ p. has p ps) order) c.woken-woken.ensures.value (c.fill.ensures.pairs order (subst (λ n. AreRanksOf order n c.args.tables.now.order) (sym c.requires.fits.list) ranked))

pub returns-clause-begun : goal.returns-clause-begun
returns-clause-begun c = λ due early wakes listed begin marks is found run.
    let codes = c.as_slice-codes.result.now in
    let ranks = c.args.tables.now.order in
    let clocked_ranks = c.args.tables.now.clocked in
    let w = state_of c.args.room.now.sets in
    let values = c.args.values.now in
    let store = c.args.store.now in
    let vectors = c.args.room.now.values in
    let ran = c.args.ran.now in
    let written = c.args.tables.now.written in
    let changed = c.as_slice-changed.result.now in
    let overwritten = c.as_slice-overwritten.result.now in
    let running = c.as_slice.result.now in
    let rows = c.args.tables.now.targets in
    let st = step_of due w early in
    let here : IsDueStep due codes ranks clocked_ranks wakes values begin = subst (λ cs. IsDueStep due cs ranks clocked_ranks wakes values begin) (sym c.as_slice-codes.ensures.value) is in
    let are : AreChangedSignals codes values changed = subst (AreChangedSignals codes values) (sym c.as_slice-changed.ensures) (subst (λ cs. AreChangedSignals cs values c.args.room.now.changed.items) (sym c.as_slice-codes.ensures.value) c.requires.changed) in
    let of : AreOfRows codes written ran overwritten = subst (AreOfRows codes written ran) (sym c.as_slice-overwritten.ensures) c.take_made.ensures.overwritten in
    let assigned = subst (λ d. (p y : ℕ) → is_in (row_at written p) y ≡ body_assigns y (body_at d p)) run.knows.design c.requires.fits.assigned in
    let placed : ArePlaced ranks w.woken running = subst (λ ps. ArePlaced ranks w.woken ps) (sym c.as_slice.ensures) (subst (λ ps. ArePlaced ranks ps c.list_running.new.running.items) c.woken-woken.ensures.value c.list_running.ensures.placed) in
    let targets : AreTargetRows due.design rows = subst (λ d. AreTargetRows d rows) run.knows.design c.requires.fits.targets in
    let made : AreTaken st (left_by_clocked st) overwritten c.take_made.new.self = subst (λ ss. AreTaken st (left_by_clocked st) ss c.take_made.new.self) (sym c.as_slice-overwritten.ensures) (c.take_made.ensures.taken st (left_by_clocked st) run.knows (taken due early codes ranks clocked_ranks wakes w values begin store here listed vectors found ran marks run)) in
    let none = c.in_default.ensures st (after due early codes ranks clocked_ranks wakes w values begin store here listed vectors found ran marks run) in
    let count = c.requires.fits.list ∙ ap (λ (d : Design). length d.processes) run.knows.design in
    let has_values = c.settle.ensures.starts st (clocked_run st) run.knows made (start due early codes ranks clocked_ranks wakes w values begin store here listed vectors found ran marks run changed are written assigned overwritten of running rows placed targets) in
    begun due early codes ranks clocked_ranks wakes w values begin store here listed vectors found ran marks run changed are written assigned overwritten of none.0 none.1 (map (λ q. q.0) c.fill.new.list.pairs) c.settle.new.store c.settle.new.self
    (λ order ranked. subst (λ ps. map (λ q. q.0) c.fill.new.list.pairs ≡ filter (λ p. has p ps) order) c.woken-woken.ensures.value (c.fill.ensures.pairs order (subst (λ n. AreRanksOf order n ranks) (sym count) ranked))) has_values
