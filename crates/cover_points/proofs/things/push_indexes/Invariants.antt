use Rattle.std.proofs.Common.{◌≡◌, ◌++◌}
use Rattle.std.specs.List.{flat_map, range_with_len}
use Rattle.cover_points.specs.Things.{two_points}
use Rattle.cover_points.proofs.things.push_indexes.Given as goal

abbrev pub invariant-loop-step : goal.invariant-loop-step
invariant-loop-step l = l.found.items ≡ l.initial.found.items ++ flat_map (two_points l.thing) (range_with_len l.least l.step)
