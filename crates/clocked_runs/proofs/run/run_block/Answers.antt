use Rattle.std.proofs.Common.{◌≡◌, ◌∙◌, ◌+◌, ◌≤◌, ◌++◌, [], true, ap, arith, get_or, length, subst, sym}
use Rattle.std.specs.List.{All}
use Rattle.std.proofs.lemmas.List.{length-map}
use Rattle.design_model.specs.Design.{Design, body, body_at, is_number}
use Rattle.design_model.specs.View.{design_view, process_view}
use Rattle.run_views.specs.body_replay.Contract.{Outcome}
use Rattle.run_views.specs.body_replay.Runs.{runs_of}
use Rattle.run_views.specs.body_store.Bodies.{queued_of, rooms_of}
use Rattle.block_runs.proofs.assignments.Lawful.{lawful_widths}
use Rattle.block_runs.specs.assignments.Widths.{HasWidths}
use Rattle.block_runs.specs.Notes.{AddsNotes, way_of}
use Rattle.clocked_laws.proofs.Names.{numbers_law}
use Rattle.store_knowledge.specs.scene_laws.At.{flat}
use Rattle.store_knowledge.specs.open_tests.Weights.{HasRoomFor, queues}
use Rattle.process_targets.proofs.Processes.{body_is}
use Rattle.clocked_runs.proofs.Running.{HasRun, are_numbers, kept_own, outcome_is, room_first, run_ready}
use Rattle.clocked_runs.proofs.run.run_block.Goals as goal

pub run_body-requires-clause-widths : goal.run_body-requires-clause-widths
run_body-requires-clause-widths g c = subst HasWidths (sym c.requires.same) (lawful_widths (design_view c.args.design.now) c.requires.lawful)

pub run_body-requires-clause-numbers : goal.run_body-requires-clause-numbers
run_body-requires-clause-numbers g c =
    let d = design_view c.args.design.now in
    subst (λ e. All (λ x. is_number e x ≡ true) c.args.written.now) (sym c.requires.same) (are_numbers d c.args.written.now (λ x h. numbers_law d c.requires.lawful c.args.process x (sym (c.requires.written x) ∙ h)))

pub run_body-requires-clause-room : goal.run_body-requires-clause-room
run_body-requires-clause-room g c =
    let h = c.requires.ready.4 in
    let p = c.args.process in
    let q = c.index-processes-process.result in
    let d = c.requires.ready.0 in
    let same : design_view c.args.design.now ≡ d = sym c.requires.same ∙ h.meets.keeps.design in
    let found : q ≡ get_or c.args.design.now.processes p q = c.index-processes-process.is ∙ ap (λ qs. get_or qs p q) c.as_slice-processes.ensures in
    let is : body (process_view q) ≡ body_at d p = sym (body_is c.args.design.now p q c.requires.place found) ∙ ap (λ e. body_at e p) same in
    let count : length d.processes ≡ length c.args.design.now.processes = ap (λ (e : Design). length e.processes) (sym same) ∙ length-map c.args.design.now.processes process_view in
    let place = c.requires.place in
    subst (λ s. HasRoomFor s [] (rooms_of c.args.store.now)) (sym is) (room_first d c.requires.ready.1 c.requires.ready.2 p c.requires.ready.3 c.args.store.now (omega (arith, place, count)) h)

pub run_body-requires-clause-outside : goal.run_body-requires-clause-outside
run_body-requires-clause-outside g c = c.requires.ready.4.meets.keeps.around

pub run_body-requires-clause-kept_own : goal.run_body-requires-clause-kept_own
run_body-requires-clause-kept_own g c = kept_own c.requires.ready.0 c.requires.ready.1 c.args.store.now c.requires.ready.4.meets

pub run_body-requires-clause-read_own : goal.run_body-requires-clause-read_own
run_body-requires-clause-read_own g c = c.requires.ready.4.meets.own

pub returns-clause-runs : goal.returns-clause-runs
returns-clause-runs g c = λ d v ws ps h.
    let p = c.args.process in
    let q = c.index-processes-process.result in
    let x = c.args.store.now in
    let same : design_view c.args.design.now ≡ d = sym c.requires.same ∙ h.meets.keeps.design in
    let found : q ≡ get_or c.args.design.now.processes p q = c.index-processes-process.is ∙ ap (λ qs. get_or qs p q) c.as_slice-processes.ensures in
    let is : body (process_view q) ≡ body_at d p = sym (body_is c.args.design.now p q c.requires.place found) ∙ ap (λ e. body_at e p) same in
    let o = outcome_is d v x h.meets p (process_view q) c.args.how is in
    let ran : HasRun d x c.run_body.new.store (runs_of d p v (way_of c.args.how)) (body_at d p) = record {
      design = c.run_body.ensures.design ∙ h.meets.keeps.design;
      kept = c.run_body.ensures.kept ∙ ap (λ (z : Outcome). z.kept) o;
      queued = c.run_body.ensures.queued ∙ ap (λ (z : Outcome). queued_of x ++ flat z.queue) o;
      own = c.run_body.ensures.own;
      around = c.run_body.ensures.around;
      log = c.run_body.ensures.log;
      takes = c.run_body.ensures.takes;
      queue = subst (λ s. (rooms_of x).queue ≤ (rooms_of c.run_body.new.store).queue + queues s) is c.run_body.ensures.queue;
      room = c.holding.ensures.room;
      holds = c.holding-2.ensures.own;
    } in
    run_ready d v ws p ps x c.run_body.new.store c.show_kept.new.store (runs_of d p v (way_of c.args.how)) ran h (λ k keeps. c.show_kept.ensures.meets d k keeps) c.show_kept.ensures.design c.show_kept.ensures.updates c.show_kept.ensures.rooms

pub returns-clause-notes : goal.returns-clause-notes
returns-clause-notes g c = λ d v ws ps h.
    let p = c.args.process in
    let q = c.index-processes-process.result in
    let same : design_view c.args.design.now ≡ d = sym c.requires.same ∙ h.meets.keeps.design in
    let found : q ≡ get_or c.args.design.now.processes p q = c.index-processes-process.is ∙ ap (λ qs. get_or qs p q) c.as_slice-processes.ensures in
    let is : body (process_view q) ≡ body_at d p = sym (body_is c.args.design.now p q c.requires.place found) ∙ ap (λ e. body_at e p) same in
    subst (λ (z : Outcome). AddsNotes g.N.BlockNotes.noted c.args.notes.now z.notes c.run_body.new.notes) (outcome_is d v c.args.store.now h.meets p (process_view q) c.args.how is) c.run_body.ensures.notes
