use Rattle.std.proofs.Common.{◌≡◌, ◌∙◌, ap, sym}
use Rattle.value_store.specs.body_replay.KnownBits.{extend_partly}
use Rattle.assignments.specs.Pieces.{widths}
use Rattle.assignments.proofs.Assigned.{made_none, made_width, queued_none, sure_width}
use Rattle.assignments.proofs.parts.make.Goals as goal

pub returns-then-width-eq0-clause-scene : goal.returns-then-width-eq0-clause-scene
returns-then-width-eq0-clause-scene g c = λ v sure thing b l.
    let none : widths c.args.pieces.now ≡ 0 = sym c.total_width-width.ensures ∙ c.if-width-eq0.true in
    made_none (g.B.Reads.scene c.args.store.now).design c.args.blocking c.args.pieces.now _ sure thing v (g.B.Reads.scene c.args.store.now) c.requires.places none l

pub returns-then-width-eq0-clause-queued : goal.returns-then-width-eq0-clause-queued
returns-then-width-eq0-clause-queued g c =
    let none : widths c.args.pieces.now ≡ 0 = sym c.total_width-width.ensures ∙ c.if-width-eq0.true in
    queued_none (g.B.Reads.scene c.args.store.now).design (g.B.Reads.scene c.args.store.now).design c.args.blocking c.args.certain c.args.pieces.now _ (g.B.Bodies.queued c.args.store.now) c.requires.places none

pub write_pieces-requires-clause-width : goal.write_pieces-requires-clause-width
write_pieces-requires-clause-width g c =
    made_width (widths c.args.pieces.now) c.args.value.now.signed c.args.value.now c.at_width-bits.result.bits (c.at_width-bits.ensures ∙ ap (λ w. extend_partly w c.args.value.now.signed c.args.value.now.bits) c.total_width-width.ensures)

pub write_pieces-requires-clause-sure : goal.write_pieces-requires-clause-sure
write_pieces-requires-clause-sure g c = λ none. sure_width c.total_width-width.result c.args.value.now c.at_width-bits.result c.at_width-bits.ensures (sym c.unsure_blame.ensures ∙ none)

pub queue_pieces-requires-clause-width : goal.queue_pieces-requires-clause-width
queue_pieces-requires-clause-width g c =
    made_width (widths c.args.pieces.now) c.args.value.now.signed c.args.value.now c.at_width-bits.result.bits (c.at_width-bits.ensures ∙ ap (λ w. extend_partly w c.args.value.now.signed c.args.value.now.bits) c.total_width-width.ensures)
