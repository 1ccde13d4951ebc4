use Rattle.std.proofs.Common.{◌≡◌, ◌∙◌, ◌++◌, ◌≤◌, List, [], ap, arith, length, subst, sym}
use Rattle.std.proofs.lemmas.Bool.{and_parts}
use Rattle.design_model.specs.Shape.{is_target}
use Rattle.design_model.specs.View.{target_view, term_view}
use Rattle.value_store.specs.Queue.{Queue}
use Rattle.scene_laws.specs.body_calls.Rooms.{takes_in}
use Rattle.assignments.specs.Pieces.{AllTake, widths}
use Rattle.assignments.specs.declared.piece.Piece.{Piece}
use Rattle.assignments.proofs.AllParts.{pieces_take_them, pieces_width}
use Rattle.assignments.proofs.Assigned.{assigned_state, other_flag, set_narrow, target_leaves, target_room}
use Rattle.assignments.proofs.assignment.assign.Goals as goal

pub locate-first-requires-clause-room : goal.locate-first-requires-clause-room
locate-first-requires-clause-room g c =
    let d = (g.B.Reads.scene c.args.store.now).design in
    let most = set_narrow d (target_view c.args.target.now) (term_view c.args.value.now) c.requires.lawful in
    let none = ap length c.requires.none in
    let room = c.requires.scratch in
    omega (arith, most, none, room)

pub note_written-requires : goal.note_written-requires
note_written-requires g c =
    let v = g.B.Reads.scene c.args.store.now in
    let l = c.locate-first.ensures.pieces in
    let items : c.as_slice.result.now ≡ l.pieces = c.as_slice.ensures ∙ ap (λ (q : Queue Piece). q.items) l.added ∙ ap (λ xs. xs ++ l.pieces) c.requires.none in
    subst (AllTake v.design) (sym items) (pieces_take_them v c.args.run.first (target_view c.args.target.now) l.pieces c.requires.widths (and_parts (is_target v.design (target_view c.args.target.now)) _ c.requires.lawful).0 l.are)

pub make-requires-clause-places : goal.make-requires-clause-places
make-requires-clause-places g c =
    let v = g.B.Reads.scene c.args.store.now in
    let l = c.locate-first.ensures.pieces in
    let items : c.as_slice-2.result.now ≡ l.pieces = c.as_slice-2.ensures ∙ ap (λ (q : Queue Piece). q.items) l.added ∙ ap (λ xs. xs ++ l.pieces) c.requires.none in
    subst (AllTake v.design) (sym items) (pieces_take_them v c.args.run.first (target_view c.args.target.now) l.pieces c.requires.widths (and_parts (is_target v.design (target_view c.args.target.now)) _ c.requires.lawful).0 l.are)

pub make-requires-clause-width : goal.make-requires-clause-width
make-requires-clause-width g c =
    let v = g.B.Reads.scene c.args.store.now in
    let l = c.locate-first.ensures.pieces in
    let items : c.as_slice-2.result.now ≡ l.pieces = c.as_slice-2.ensures ∙ ap (λ (q : Queue Piece). q.items) l.added ∙ ap (λ xs. xs ++ l.pieces) c.requires.none in
    let size = ap widths items ∙ pieces_width v c.args.run.first (target_view c.args.target.now) l.pieces l.are in
    let most = set_narrow v.design (target_view c.args.target.now) (term_view c.args.value.now) c.requires.lawful in
    subst (λ n. n ≤ 128) (sym size) most

pub make-requires-clause-room : goal.make-requires-clause-room
make-requires-clause-room g c =
    let v = g.B.Reads.scene c.args.store.now in
    let l = c.locate-first.ensures.pieces in
    let items : c.as_slice-2.result.now ≡ l.pieces = c.as_slice-2.ensures ∙ ap (λ (q : Queue Piece). q.items) l.added ∙ ap (λ xs. xs ++ l.pieces) c.requires.none in
    rw items (target_room (takes_in (g.B.Bodies.around c.args.store.now) (g.B.Bodies.rooms c.args.store.now)) c.args.blocking v c.args.run.first (target_view c.args.target.now) l.pieces (g.B.Bodies.rooms c.args.store.now) l.are c.requires.room)

pub returns-clause-state : goal.returns-clause-state
returns-clause-state g c = λ start d a h.
    let v = g.B.Reads.scene c.args.store.now in
    let l = c.locate-first.ensures.pieces in
    let one : c.as_slice.result.now ≡ l.pieces = c.as_slice.ensures ∙ ap (λ (q : Queue Piece). q.items) l.added ∙ ap (λ xs. xs ++ l.pieces) c.requires.none in
    let two : c.as_slice-2.result.now ≡ l.pieces = c.as_slice-2.ensures ∙ ap (λ (q : Queue Piece). q.items) l.added ∙ ap (λ xs. xs ++ l.pieces) c.requires.none in
    let value = rw c.after.ensures at c.evaluate-found.ensures.value in
    let first = rw c.after.ensures at c.evaluate-found.ensures.first in
    let evaluating = rw c.after.ensures at c.evaluate-found.ensures.notes in
    let writing = rw one at c.note_written.ensures in
    let scene = rw two at c.make.ensures.scene in
    let queued = rw two at c.make.ensures.queued in
    assigned_state g.N.Notes.noted start d a c.args.run.mode c.args.line c.args.blocking c.is_none-certain.result (target_view c.args.target.now) (term_view c.args.value.now) v (g.B.Reads.scene c.make.new.store) c.args.run.first c.locate-first.result c.evaluate-found.result.first (g.B.Bodies.queued c.args.store.now) (g.B.Bodies.queued c.make.new.store) l.pieces c.evaluate-found.result.value c.args.notes.now c.note.new.self c.locate-first.new.notes c.evaluate-found.new.notes c.note_written.new.notes
    h c.note.ensures c.locate-first.ensures.first c.locate-first.ensures.notes l.are value first evaluating writing scene (other_flag _ _ c.is_none-certain.ensures) queued

pub returns-clause-rooms : goal.returns-clause-rooms
returns-clause-rooms g c =
    let v = g.B.Reads.scene c.args.store.now in
    let l = c.locate-first.ensures.pieces in
    let two : c.as_slice-2.result.now ≡ l.pieces = c.as_slice-2.ensures ∙ ap (λ (q : Queue Piece). q.items) l.added ∙ ap (λ xs. xs ++ l.pieces) c.requires.none in
    let rooms = rw two at c.make.ensures.rooms in
    target_leaves (takes_in (g.B.Bodies.around c.args.store.now) (g.B.Bodies.rooms c.args.store.now)) c.args.blocking v c.args.run.first (target_view c.args.target.now) l.pieces (g.B.Bodies.rooms c.args.store.now) (g.B.Bodies.rooms c.make.new.store) l.are rooms
