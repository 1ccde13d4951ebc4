use Rattle.std.proofs.Common.{length}
use Rattle.settled_targets.proofs.Saving.{SoFar}
use Rattle.settled_targets.proofs.saved.SavedValues.save.Given as goal

-- the values of the signals so far are saved
abbrev pub invariant-loop-place : goal.invariant-loop-place
invariant-loop-place l = SoFar l.store l.targets (length l.fn.self) l.place l.self
