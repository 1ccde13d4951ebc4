use Rattle.std.proofs.Common.{length}
use Rattle.db_tools.specs.Views.{texts}
use Rattle.db_tools.proofs.HeadLaws.{Gathers}
use Rattle.db_tools.proofs.head.split_addresses.Given as goal

abbrev pub invariant-loop-line : goal.invariant-loop-line
invariant-loop-line l = Gathers l.fn.text (texts l.lines.items) l.rest

abbrev pub decreases-loop-line : goal.decreases-loop-line
decreases-loop-line l = length l.rest
