use Rattle.std.proofs.Common.{arith}
use Rattle.std.proofs.lemmas.List.{take_all}
use Rattle.cover_marks.proofs.Counts.{below_more}
use Rattle.cover_marks.proofs.open.past_last.Goals as goal

pub loop-owner-preserved : goal.loop-owner-preserved
loop-owner-preserved c = below_more c.args.owners.now c.loop-owner.owner-index c.loop-owner.past c.max-past.result c.loop-owner-test.true (omega (arith, c.max-past.ensures)) (omega (arith, c.max-past.ensures)) c.loop-owner.invariant

pub returns : goal.returns
returns c = rw (take_all c.loop-owner.owner-index c.args.owners.now c.loop-owner-test.false) at c.loop-owner.invariant
