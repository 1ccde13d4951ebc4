use Rattle.std.proofs.Common.{◌≡◌, ℕ, ◌<◌, length}
use Rattle.design_model.specs.View.{design_view}
use Rattle.step_wakes.specs.Step.{flag_at, is_given}
use Rattle.step_wakes.proofs.inputs.given_inputs.Given as goal

-- the flags so far
abbrev pub invariant-loop-thing : goal.invariant-loop-thing
invariant-loop-thing l =
    record {
      count : length l.flags.items ≡ l.thing;
      flags : (x : ℕ) → x < l.thing → flag_at l.flags.items x ≡ is_given (design_view l.design) l.bound x;
    }
