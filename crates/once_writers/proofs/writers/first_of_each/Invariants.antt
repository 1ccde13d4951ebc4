use Rattle.std.proofs.Common.{◌≡◌, map, take}
use Rattle.once_writers.specs.Lists.{first_of}
use Rattle.once_writers.proofs.writers.first_of_each.Given as goal

-- the first items so far
abbrev pub invariant-loop-row : goal.invariant-loop-row
invariant-loop-row l = l.firsts.items ≡ map first_of (take l.row l.rows)
