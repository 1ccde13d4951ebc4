use Rattle.std.proofs.Common.{◌≡◌, ◌++◌, take}
use Rattle.std.specs.Prelude.{nat_le}
use Rattle.std.specs.List.{filter}
use Rattle.target_counts.specs.Counts.{count_at}
use Rattle.target_counts.proofs.once.push_counted.Given as goal

-- those so far that are named at most once
abbrev pub invariant-loop-thing : goal.invariant-loop-thing
invariant-loop-thing l = l.found.items ≡ l.fn.found.items ++ filter (λ thing. nat_le (count_at l.counts thing) 1) (take l.thing-index l.things)
