use Rattle.std.proofs.Common.{◌≡◌, ℕ, ◌<◌, true, ◌↔◌}
use Rattle.std.specs.List.{Contains}
use Rattle.design_model.specs.View.{design_view}
use Rattle.step_wakes.specs.Step.{is_missing}
use Rattle.step_wakes.proofs.inputs.missing_inputs.Given as goal

-- those of the signals so far
abbrev pub invariant-loop-signal : goal.invariant-loop-signal
invariant-loop-signal l = (x : ℕ) → Contains l.missing.items x ↔ ((x < l.signal) × (is_missing (design_view l.design) l.bound x ≡ true))
