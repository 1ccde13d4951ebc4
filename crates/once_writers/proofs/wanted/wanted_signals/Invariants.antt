use Rattle.std.proofs.Common.{◌≡◌, ◌&&◌, ℕ, ◌<◌, length}
use Rattle.once_writers.specs.Lists.{is_listed}
use Rattle.once_writers.specs.Writers.{flag_at}
use Rattle.once_writers.proofs.wanted.wanted_signals.Given as goal

-- the flags so far
abbrev pub invariant-loop-thing : goal.invariant-loop-thing
invariant-loop-thing l =
    record {
      count : length l.flags.items ≡ l.thing;
      flags : (x : ℕ) → x < l.thing → flag_at l.flags.items x ≡ (flag_at l.bound x && is_listed l.rising l.falling x);
    }
