use Rattle.std.proofs.Common.{◌<◌, ◌≡◌, [], arith, length, subst, sym, true}
use Rattle.std.proofs.lemmas.List.{length-map}
use Rattle.std.specs.List.{All}
use Rattle.design_model.specs.Design.{body, is_number}
use Rattle.design_model.specs.Shape.{is_body}
use Rattle.design_model.specs.View.{design_view, process_view}
use Rattle.assignments.specs.Widths.{HasWidths}
use Rattle.open_tests.specs.Weights.{HasRoomFor}
use Rattle.body_store.specs.Bodies.{rooms_of}
use Rattle.bench.proofs.Idle.{has_room, idle_again, kept_own, read_own}
use Rattle.bench.proofs.body_runs.run_once.Goals as goal

pub run_body-requires-clause-same : goal.run_body-requires-clause-same
run_body-requires-clause-same g c = c.requires.idle.design

pub run_body-requires-clause-lawful : goal.run_body-requires-clause-lawful
run_body-requires-clause-lawful g c =
    let d = design_view c.args.design.now in
    let s = body (process_view c.args.process.now) in
    subst (λ v. is_body v s ≡ true) (sym c.requires.idle.design) (subst (λ b. is_body d b ≡ true) (sym c.requires.first) (c.requires.lawful.bodies 0))

pub run_body-requires-clause-widths : goal.run_body-requires-clause-widths
run_body-requires-clause-widths g c = subst HasWidths (sym c.requires.idle.design) (c.widths_law.ensures (design_view c.args.design.now) c.requires.lawful)

pub run_body-requires-clause-numbers : goal.run_body-requires-clause-numbers
run_body-requires-clause-numbers g c = subst (λ v. All (λ x. is_number v x ≡ true) c.args.written.now) (sym c.requires.idle.design) c.requires.numbers

pub run_body-requires-clause-outside : goal.run_body-requires-clause-outside
run_body-requires-clause-outside g c = c.requires.idle.around

pub run_body-requires-clause-room : goal.run_body-requires-clause-room
run_body-requires-clause-room g c =
    let e = c.store_rooms_law.ensures in
    let d = design_view c.args.design.now in
    let size = length-map c.args.design.now.processes process_view in
    let some = c.requires.some in
    let inside : 0 < length d.processes = omega (arith, size, some) in
    subst (λ s. HasRoomFor s [] (rooms_of c.args.store.now)) (sym c.requires.first) (has_room d c.args.store.now 0 c.requires.idle c.requires.lawful inside e.places e.among e.ready)

pub run_body-requires-clause-kept_own : goal.run_body-requires-clause-kept_own
run_body-requires-clause-kept_own g c = kept_own (design_view c.args.design.now) c.args.store.now c.requires.idle c.views_law.ensures.under

pub run_body-requires-clause-read_own : goal.run_body-requires-clause-read_own
run_body-requires-clause-read_own g c = read_own (design_view c.args.design.now) c.args.store.now c.requires.idle c.own_law.ensures.same

pub returns-clause-idle : goal.returns-clause-idle
returns-clause-idle g c =
    let e = c.run_body.ensures in
    let f = c.flush.ensures in
    idle_again (design_view c.args.design.now) c.args.store.now c.run_body.new.store c.flush.new.self c.requires.idle c.views_law.ensures.under e.design e.around e.hidden e.own e.log e.size f.design f.around f.hides f.own f.rooms f.log
