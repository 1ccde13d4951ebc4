use Rattle.std.proofs.Common.{drop}
use Rattle.signal_binding.specs.Table.{AreCodesUnder}
use Rattle.signal_binding.proofs.table.Table.new.Given as goal

abbrev pub invariant-loop-place : goal.invariant-loop-place
invariant-loop-place l = AreCodesUnder l.table (drop l.place l.vars) l.instance
