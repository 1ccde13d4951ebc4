use Rattle.std.proofs.Common.{◌-◌}
use Rattle.memory_rebuild.specs.Words.{count}
use Rattle.memory_rebuild.proofs.Reading.{SoFar}
use Rattle.memory_rebuild.proofs.rebuilt.Rebuilt.joined.Given as goal

abbrev pub invariant-loop-place : goal.invariant-loop-place
invariant-loop-place l = SoFar l.self l.index l.joined l.place

abbrev pub decreases-loop-place : goal.decreases-loop-place
decreases-loop-place l = count l.self.shape - l.place
