use Rattle.std.proofs.Common.{◌≡◌, ◌+◌, ◌++◌, drop}
use Rattle.cover_points.specs.Texts.{each_from}
use Rattle.cover_points.specs.Things.{memory_indexes}
use Rattle.cover_points.proofs.things.memory_indexes.Given as goal

-- the points so far, with those of the rest, are those of all
abbrev pub invariant-loop-number : goal.invariant-loop-number
invariant-loop-number l = l.found.items ++ each_from memory_indexes (l.base + l.number) (drop l.number l.memories) ≡ each_from memory_indexes l.base l.memories
