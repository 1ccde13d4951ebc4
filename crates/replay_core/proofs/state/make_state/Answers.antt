use Rattle.design_model.specs.View.{design_view}
use Rattle.replay_core.proofs.Untouched.{no_flags, no_verdicts}
use Rattle.replay_core.proofs.state.make_state.Goals as goal

pub returns-clause-unacted : goal.returns-clause-unacted
returns-clause-unacted c = no_flags c.in_ok-acted.acted.items _ c.in_ok-acted.ensures

pub returns-clause-verdicts : goal.returns-clause-verdicts
returns-clause-verdicts c = no_verdicts (design_view c.args.design.now) c.args.points.now c.in_ok-marks.marks.verdicts c.in_ok-marks.ensures.points.count c.in_ok-marks.ensures.markings

pub returns-clause-unseen : goal.returns-clause-unseen
returns-clause-unseen c = c.in_ok-seen.ensures.seen (design_view c.args.design.now) c.args.points.now c.in_ok-marks.marks.verdicts
