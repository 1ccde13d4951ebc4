use Rattle.std.proofs.Common.{take}
use Rattle.memory_rebuild.proofs.Weakening.{PartOf}
use Rattle.memory_rebuild.proofs.word.weaken.Given as goal

-- the words whose places were met are weakened
abbrev pub invariant-loop-place : goal.invariant-loop-place
invariant-loop-place l = PartOf l.shape l.index l.value.bits l.initial.words l.words (take l.place-index l.written)
