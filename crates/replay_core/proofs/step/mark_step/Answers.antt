use Rattle.replay_core.proofs.step.mark_step.Goals as goal

pub returns-clause-seen : goal.returns-clause-seen
returns-clause-seen c = λ st over. c.mark_moved.ensures.seen st c.args.notes.now.points.now over
