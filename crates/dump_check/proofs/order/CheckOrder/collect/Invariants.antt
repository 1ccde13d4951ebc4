use Rattle.std.proofs.Common.{◌≡◌, drop, flat_map}
use Rattle.index_sets.specs.Rows.{row_at}
use Rattle.dump_check.specs.Checks.{last_of_each}
use Rattle.dump_check.proofs.order.CheckOrder.collect.Given as goal

-- the targets of the runs from this place on are put in
abbrev pub invariant-loop-place : goal.invariant-loop-place
invariant-loop-place l = (l.self.size ≡ l.fn.self.size) × (l.self.order ≡ last_of_each (flat_map (row_at l.targets) (drop l.place l.runs)))
