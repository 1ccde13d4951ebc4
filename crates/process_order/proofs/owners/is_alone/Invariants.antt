use Rattle.std.proofs.Common.{◌≡◌, ℕ, take}
use Rattle.std.specs.List.{Contains}
use Rattle.process_order.proofs.owners.is_alone.Given as goal

-- no other so far
abbrev pub invariant-loop-owner : goal.invariant-loop-owner
invariant-loop-owner l = (q : ℕ) → Contains (take l.owner-index l.owners) q → q ≡ l.process
