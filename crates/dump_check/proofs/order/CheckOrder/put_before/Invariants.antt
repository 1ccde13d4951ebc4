use Rattle.std.proofs.Common.{◌≡◌, ◌++◌, List, ℕ, drop, reverse}
use Rattle.dump_check.specs.Checks.{last_of_each}
use Rattle.dump_check.proofs.order.CheckOrder.put_before.Given as goal

-- the signals from this place on are put before the others
abbrev pub invariant-loop-place : goal.invariant-loop-place
invariant-loop-place l =
    (l.self-inside.signals.size ≡ l.fn.self.size) × ((after : List ℕ) → l.fn.self.order ≡ last_of_each after → reverse l.self-inside.signals.items ≡ last_of_each (drop l.place l.signals ++ after))
