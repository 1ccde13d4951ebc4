use Rattle.std.proofs.Common.{◌≡◌, ◌∙◌, ◌+◌, ◌≤◌, ◌++◌, [], true, ap, arith, get_or, length, subst, sym}
use Rattle.std.specs.List.{All}
use Rattle.std.proofs.lemmas.List.{length-map}
use Rattle.design_model.specs.Design.{Design, IsClocked, body, body_at, is_number, process_at}
use Rattle.design_model.specs.Lawful.{IsLawfulDesign}
use Rattle.design_model.specs.View.{design_view, process_view}
use Rattle.body_replay.specs.Contract.{Outcome}
use Rattle.body_replay.specs.Runs.{runs_of}
use Rattle.store_knowledge.specs.scene_laws.At.{flat}
use Rattle.block_runs.proofs.assignments.Lawful.{lawful_widths}
use Rattle.block_runs.specs.assignments.Widths.{HasWidths}
use Rattle.store_knowledge.specs.open_tests.Weights.{HasRoomFor, queues}
use Rattle.store_knowledge.specs.body_store.Bodies.{queued_of, rooms_of}
use Rattle.block_runs.specs.Notes.{AddsNotes, way_of}
use Rattle.process_targets.proofs.Processes.{body_is}
use Rattle.replay_steps.specs.replay_model.Step.{plain_store}
use Rattle.settled_runs.proofs.Running.{HasRun, are_numbers, assigned_number, kept_own, outcome_known, read_own, run_known}
use Rattle.settled_runs.proofs.run.run_settled.Goals as goal

pub run_body-requires-clause-widths : goal.run_body-requires-clause-widths
run_body-requires-clause-widths g c = subst HasWidths (sym c.requires.same) (lawful_widths (design_view c.args.design.now) c.requires.lawful)

pub run_body-requires-clause-numbers : goal.run_body-requires-clause-numbers
run_body-requires-clause-numbers g c =
    let d = design_view c.args.design.now in
    subst (λ e. All (λ x. is_number e x ≡ true) c.args.written.now) (sym c.requires.same) (are_numbers d c.args.written.now (λ x h. assigned_number d c.args.process c.requires.lawful c.requires.settles x (sym (c.requires.written x) ∙ h)))

pub run_body-requires-clause-room : goal.run_body-requires-clause-room
run_body-requires-clause-room g c =
    let h = c.requires.known.2 in
    let p = c.args.process in
    let q = c.index-processes-process.result in
    let d = c.requires.known.0 in
    let same : design_view c.args.design.now ≡ d = sym c.requires.same ∙ h.design in
    let found : q ≡ get_or c.args.design.now.processes p q = c.index-processes-process.is ∙ ap (λ qs. get_or qs p q) c.as_slice-processes.ensures in
    let is : body (process_view q) ≡ body_at d p = sym (body_is c.args.design.now p q c.requires.place found) ∙ ap (λ e. body_at e p) same in
    let count : length d.processes ≡ length c.args.design.now.processes = ap (λ (e : Design). length e.processes) (sym same) ∙ length-map c.args.design.now.processes process_view in
    let place = c.requires.place in
    subst (λ s. HasRoomFor s [] (rooms_of c.args.store.now)) (sym is) (h.rooms p (omega (arith, place, count)))

pub run_body-requires-clause-kept_own : goal.run_body-requires-clause-kept_own
run_body-requires-clause-kept_own g c = kept_own c.requires.known.0 c.requires.known.1 c.args.store.now c.requires.known.2

pub run_body-requires-clause-read_own : goal.run_body-requires-clause-read_own
run_body-requires-clause-read_own g c = read_own c.requires.known.0 c.requires.known.1 c.args.store.now c.requires.known.2

pub returns-clause-knows : goal.returns-clause-knows
returns-clause-knows g c = λ d k h.
    let p = c.args.process in
    let q = c.index-processes-process.result in
    let same : design_view c.args.design.now ≡ d = sym c.requires.same ∙ h.design in
    let found : q ≡ get_or c.args.design.now.processes p q = c.index-processes-process.is ∙ ap (λ qs. get_or qs p q) c.as_slice-processes.ensures in
    let is : body (process_view q) ≡ body_at d p = sym (body_is c.args.design.now p q c.requires.place found) ∙ ap (λ e. body_at e p) same in
    let o = outcome_known d k c.args.store.now h p (process_view q) c.args.how is in
    let lawful : IsLawfulDesign d = subst IsLawfulDesign same c.requires.lawful in
    let ran : HasRun d c.args.store.now c.run_body.new.store (runs_of d p (plain_store k) (way_of c.args.how)) (body_at d p) = record {
      design = c.run_body.ensures.design ∙ h.design;
      kept = c.run_body.ensures.kept ∙ ap (λ (z : Outcome). z.kept) o;
      queued = c.run_body.ensures.queued ∙ ap (λ (z : Outcome). queued_of c.args.store.now ++ flat z.queue) o;
      own = c.run_body.ensures.own;
      hidden = c.run_body.ensures.hidden;
      around = c.run_body.ensures.around;
      log = c.run_body.ensures.log;
      takes = c.run_body.ensures.takes;
      queue = subst (λ s. (rooms_of c.args.store.now).queue ≤ (rooms_of c.run_body.new.store).queue + queues s) is c.run_body.ensures.queue;
      room = c.holding.ensures.room;
      holds = c.holding-2.ensures.own;
    } in
    run_known d k c.args.store.now c.run_body.new.store p (way_of c.args.how) lawful (subst (λ e. IsClocked (process_at e p) → ⊥) same c.requires.settles) (c.runs_lawful.ensures d lawful) h ran

pub returns-clause-notes : goal.returns-clause-notes
returns-clause-notes g c = λ d k h.
    let p = c.args.process in
    let q = c.index-processes-process.result in
    let same : design_view c.args.design.now ≡ d = sym c.requires.same ∙ h.design in
    let found : q ≡ get_or c.args.design.now.processes p q = c.index-processes-process.is ∙ ap (λ qs. get_or qs p q) c.as_slice-processes.ensures in
    let is : body (process_view q) ≡ body_at d p = sym (body_is c.args.design.now p q c.requires.place found) ∙ ap (λ e. body_at e p) same in
    subst (λ (z : Outcome). AddsNotes g.N.BlockNotes.noted c.args.notes.now z.notes c.run_body.new.notes) (outcome_known d k c.args.store.now h p (process_view q) c.args.how is) c.run_body.ensures.notes
