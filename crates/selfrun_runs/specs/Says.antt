-- What the dump of a selfrun says of the design.
use Rattle.std.specs.Prelude.{◌≡◌, ◌↔◌, ◌<◌, ◌+◌, ◌*◌, ℕ, suc, nat_lt}
use Rattle.four_state.specs.declared.bit.Bit.TheVariants.{One, Zero}
use Rattle.design_model.specs.Shows.{BoundDump, IsShown, IsWindow, StartsAt}
use Rattle.selfrun_runs.specs.Signals.{IsAt}

-- The six signals are bound, the first time is 0, and the last one is 10 times the number of steps. From 10k to 10k + 4 the clock is 0 and the inputs
-- are those of step k; from 10k + 5 to 10k + 9 the clock is 1 and the registers are those after the step.
pub record SaysSelfrun (number steps : ℕ) (dump : BoundDump) : Type 0 where
  pub bound : (s : ℕ) → dump.bound s ≡ nat_lt s 6
  pub starts : StartsAt dump.stretches 0
  pub shown : (t : ℕ) → IsShown dump t ↔ (t < 10 * steps)
  pub window : (t : ℕ) → IsWindow dump t ↔ ((0 < t) × (t < 10 * steps))
  pub low : (k j : ℕ) → k < steps → j < 5 → IsAt number (dump.values (10 * k + j)) Zero k k
  pub high : (k j : ℕ) → k < steps → j < 5 → IsAt number (dump.values (10 * k + 5 + j)) One k (suc k)
