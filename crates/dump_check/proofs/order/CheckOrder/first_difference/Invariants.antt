use Rattle.std.proofs.Common.{drop, reverse}
use Rattle.std.specs.List.{All}
use Rattle.dump_check.specs.Checks.{AgreesAt}
use Rattle.dump_check.proofs.order.CheckOrder.first_difference.Given as goal

-- those before in the order agree
abbrev pub invariant-loop-place : goal.invariant-loop-place
invariant-loop-place l = All (AgreesAt l.codes l.dump.last l.made) (reverse (drop l.place l.self-inside.signals.items))
