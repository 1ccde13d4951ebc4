use Rattle.std.proofs.Common.{ℕ, ◌<◌, get_or}
use Rattle.std.specs.List.{Contains}
use Rattle.rank_order.proofs.sorting.first_missing.Given as goal

-- those before the place are in the order
abbrev pub invariant-loop-place : goal.invariant-loop-place
invariant-loop-place l = (j : ℕ) → j < l.place → Contains l.order.items (get_or l.list j 0)
