use Rattle.std.proofs.Common.{None, ap, length, subst, sym, ◌∙◌, ◌≤◌, if◌then◌else◌}
use Rattle.std.proofs.lemmas.Bool.{and_parts}
use Rattle.design_model.specs.Shape.{is_target}
use Rattle.design_model.specs.View.{target_view, term_view}
use Rattle.open_tests.specs.assignments.Pieces.{AllTake, widths}
use Rattle.open_tests.proofs.assignments.AllParts.{pieces_take_them, pieces_width}
use Rattle.open_tests.proofs.assignments.Assigned.{set_narrow}
use Rattle.weak_runs.specs.Makes.{at}
use Rattle.weak_runs.specs.Unread.{unread_scene}
use Rattle.weak_runs.proofs.Parts.{count_is, makes_set}
use Rattle.weak_runs.proofs.assignment.assign.Goals as goal

pub make_weakly-requires-clause-places : goal.make_weakly-requires-clause-places
make_weakly-requires-clause-places g c =
    let v = g.S.Reads.scene c.args.store.now in
    let xs = c.unread_value-value.new.pieces.items in
    subst (AllTake v.design) (sym c.as_slice.ensures) (pieces_take_them (unread_scene v) None (target_view c.args.target.now) xs c.requires.widths (and_parts (is_target v.design (target_view c.args.target.now)) _ c.requires.lawful).0 c.unread_value-value.ensures.parts)

pub make_weakly-requires-clause-width : goal.make_weakly-requires-clause-width
make_weakly-requires-clause-width g c =
    let v = g.S.Reads.scene c.args.store.now in
    let xs = c.unread_value-value.new.pieces.items in
    let size = ap widths c.as_slice.ensures ∙ pieces_width (unread_scene v) None (target_view c.args.target.now) xs c.unread_value-value.ensures.parts in
    let most = set_narrow v.design (target_view c.args.target.now) (term_view c.args.value.now) c.requires.lawful in
    subst (λ n. n ≤ 128) (sym size) most

pub make_weakly-requires-clause-room : goal.make_weakly-requires-clause-room
make_weakly-requires-clause-room g c =
    let v = g.S.Reads.scene c.args.store.now in
    let xs = c.unread_value-value.new.pieces.items in
    let count = ap (λ ys. if c.args.blocking then 0 else length ys) c.as_slice.ensures ∙ count_is c.args.blocking (unread_scene v) None (target_view c.args.target.now) xs c.unread_value-value.ensures.parts in
    subst (λ n. n ≤ (g.S.Bodies.rooms c.args.store.now).queue) (sym count) c.requires.room

pub returns-clause-makes : goal.returns-clause-makes
returns-clause-makes g c =
    let v = g.S.Reads.scene c.args.store.now in
    let xs = c.unread_value-value.new.pieces.items in
    let before = at (g.S.Bodies.under c.args.store.now) (g.S.Reads.scene c.args.store.now) (g.S.Bodies.queued c.args.store.now) (g.S.Bodies.around c.args.store.now) (g.S.Bodies.rooms c.args.store.now) in
    let after = at (g.S.Bodies.under c.make_weakly.new.store) (g.S.Reads.scene c.make_weakly.new.store) (g.S.Bodies.queued c.make_weakly.new.store) (g.S.Bodies.around c.make_weakly.new.store) (g.S.Bodies.rooms c.make_weakly.new.store) in
    makes_set c.args.blocking v (target_view c.args.target.now) (term_view c.args.value.now) xs c.as_slice.result.now c.unread_value-value.result before after c.unread_value-value.ensures.parts c.as_slice.ensures c.unread_value-value.ensures.bits c.unread_value-value.ensures.sign c.make_weakly.ensures
