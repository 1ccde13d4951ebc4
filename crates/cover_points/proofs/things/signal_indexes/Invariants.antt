use Rattle.std.proofs.Common.{◌≡◌, ◌++◌, drop}
use Rattle.cover_points.specs.Texts.{each_from}
use Rattle.cover_points.specs.Things.{signal_indexes}
use Rattle.cover_points.proofs.things.signal_indexes.Given as goal

-- the points so far, with those of the rest, are those of all
abbrev pub invariant-loop-number : goal.invariant-loop-number
invariant-loop-number l = l.found.items ++ each_from signal_indexes (l.number) (drop l.number l.signals) ≡ each_from signal_indexes 0 l.signals
