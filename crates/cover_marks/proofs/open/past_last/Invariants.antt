use Rattle.std.proofs.Common.{◌<◌, ℕ, take}
use Rattle.std.specs.List.{All}
use Rattle.cover_marks.proofs.open.past_last.Given as goal

-- it is past the owners so far
abbrev pub invariant-loop-owner : goal.invariant-loop-owner
invariant-loop-owner l = All (λ (o : ℕ). o < l.past) (take l.owner-index l.owners)
