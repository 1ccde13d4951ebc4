use Rattle.std.proofs.Common.{ap, arith, length}
use Rattle.design_model.specs.View.{target_view, term_view}
use Rattle.open_tests.proofs.assignments.Assigned.{set_narrow}
use Rattle.weak_runs.proofs.assignment.unread_value.Goals as goal

pub locate-first-requires-clause-room : goal.locate-first-requires-clause-room
locate-first-requires-clause-room g c =
    let d = (g.R.Reads.scene c.args.reads.now).design in
    let most = set_narrow d (target_view c.args.target.now) (term_view c.args.value.now) c.requires.lawful in
    let none = ap length c.requires.none in
    let room = c.requires.scratch in
    omega (arith, most, none, room)
