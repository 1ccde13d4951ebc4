use Rattle.std.proofs.Common.{ap, sym, ◌∙◌, ◌≡◌}
use Rattle.value_store.specs.body_replay.KnownBits.{extend_partly}
use Rattle.open_tests.specs.assignments.Pieces.{widths}
use Rattle.open_tests.proofs.assignments.Assigned.{made_width}
use Rattle.weak_runs.specs.Makes.{at}
use Rattle.weak_runs.proofs.Parts.{makes_no_parts}
use Rattle.weak_runs.proofs.assignment.make_weakly.Goals as goal

pub returns-then-width-eq0 : goal.returns-then-width-eq0
returns-then-width-eq0 g c =
    let none : widths c.args.pieces.now ≡ 0 = sym c.total_width-width.ensures ∙ c.if-width-eq0.true in
    let d = (g.S.Reads.scene c.args.store.now).design in
    makes_no_parts d d c.args.blocking c.args.pieces.now (extend_partly (widths c.args.pieces.now) c.args.value.now.signed c.args.value.now.bits) (at (g.S.Bodies.under c.args.store.now) (g.S.Reads.scene c.args.store.now) (g.S.Bodies.queued c.args.store.now) (g.S.Bodies.around c.args.store.now) (g.S.Bodies.rooms c.args.store.now)) c.requires.places none c.requires.outside

pub write_weakly-requires-clause-width : goal.write_weakly-requires-clause-width
write_weakly-requires-clause-width g c =
    made_width (widths c.args.pieces.now) c.args.value.now.signed c.args.value.now c.at_width-bits.result.bits (c.at_width-bits.ensures ∙ ap (λ w. extend_partly w c.args.value.now.signed c.args.value.now.bits) c.total_width-width.ensures)

pub queue_pieces-requires-clause-width : goal.queue_pieces-requires-clause-width
queue_pieces-requires-clause-width g c =
    made_width (widths c.args.pieces.now) c.args.value.now.signed c.args.value.now c.at_width-bits.result.bits (c.at_width-bits.ensures ∙ ap (λ w. extend_partly w c.args.value.now.signed c.args.value.now.bits) c.total_width-width.ensures)
