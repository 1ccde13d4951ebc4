use Rattle.std.proofs.Common.{◌<◌, ℕ, length, take}
use Rattle.std.specs.List.{All}
use Rattle.cover_marks.proofs.Counts.{AreCounts}
use Rattle.cover_marks.proofs.open.counts_of.Given as goal

-- the counts are those of the owners so far, and there is one for each owner
abbrev pub invariant-loop-owner : goal.invariant-loop-owner
invariant-loop-owner l = record { room : All (λ (o : ℕ). o < length l.counts.items) l.owners; counts : AreCounts l.counts.items (take l.owner-index l.owners) }
