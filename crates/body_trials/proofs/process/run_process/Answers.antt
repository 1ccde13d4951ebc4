use Rattle.std.proofs.Common.{◌≡◌, ◌∙◌, [], true, subst, sym}
use Rattle.std.specs.List.{All}
use Rattle.design_model.specs.Design.{body, is_number}
use Rattle.design_model.specs.Shape.{is_body}
use Rattle.design_model.specs.View.{design_view, process_view}
use Rattle.assignments.specs.Widths.{HasWidths}
use Rattle.body_calls.specs.Own.{is_in}
use Rattle.body_rooms.specs.open_tests.Weights.{HasRoomFor}
use Rattle.body_store.specs.Bodies.{rooms_of}
use Rattle.body_trials.proofs.Numbers.{assigned_number}
use Rattle.body_trials.proofs.Ready.{kept_own, read_own}
use Rattle.body_trials.proofs.process.run_process.Goals as goal

pub run_body-requires-clause-same : goal.run_body-requires-clause-same
run_body-requires-clause-same g c = c.requires.ready.seen

pub run_body-requires-clause-lawful : goal.run_body-requires-clause-lawful
run_body-requires-clause-lawful g c =
    let d = design_view c.args.design.now in
    let s = body (process_view c.args.process.now) in
    subst (λ v. is_body v s ≡ true) (sym c.requires.ready.seen) (subst (λ b. is_body d b ≡ true) (sym c.requires.body) (c.requires.ready.lawful.bodies c.args.number))

pub run_body-requires-clause-widths : goal.run_body-requires-clause-widths
run_body-requires-clause-widths g c = subst HasWidths (sym c.requires.ready.seen) (c.widths_law.ensures (design_view c.args.design.now) c.requires.ready.lawful)

pub run_body-requires-clause-numbers : goal.run_body-requires-clause-numbers
run_body-requires-clause-numbers g c =
    subst (λ v. All (λ x. is_number v x ≡ true) c.as_slice.result.now) (sym c.requires.ready.seen) (subst (All (λ x. is_number (design_view c.args.design.now) x ≡ true)) (sym c.as_slice.ensures.value) c.requires.numbers)

pub run_body-requires-clause-written : goal.run_body-requires-clause-written
run_body-requires-clause-written g c = λ x e.
    let d = design_view c.args.design.now in
    let s = body (process_view c.args.process.now) in
    let is = subst (λ b. is_body d b ≡ true) (sym c.requires.body) (c.requires.ready.lawful.bodies c.args.number) in
    subst (λ xs. is_in xs x ≡ true) (sym c.as_slice.ensures.value) (c.requires.all x (assigned_number d s x is e))

pub run_body-requires-clause-outside : goal.run_body-requires-clause-outside
run_body-requires-clause-outside g c = c.requires.ready.around

pub run_body-requires-clause-room : goal.run_body-requires-clause-room
run_body-requires-clause-room g c = subst (λ s. HasRoomFor s [] (rooms_of c.args.store.now)) (sym c.requires.body) (c.requires.ready.room c.args.number c.requires.place)

pub run_body-requires-clause-kept_own : goal.run_body-requires-clause-kept_own
run_body-requires-clause-kept_own g c = kept_own c.args.design.now c.args.store.now c.requires.ready c.own_law.ensures.kept c.views_law.ensures.under

pub run_body-requires-clause-read_own : goal.run_body-requires-clause-read_own
run_body-requires-clause-read_own g c = read_own c.args.design.now c.args.store.now c.requires.ready c.own_law.ensures.kept c.own_law.ensures.same

pub returns : goal.returns
returns g c = c.run_body.ensures.design ∙ c.requires.ready.seen
