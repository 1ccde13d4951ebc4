use Rattle.std.proofs.Common.{◌≡◌, ℕ, None, take}
use Rattle.early_sets.specs.WakeState.{state_of}
use Rattle.step_parts.specs.replay_model.Step.{Closing, Working, first_unsure}
use Rattle.settled_runs.specs.process_targets.Laws.{WritesSignals}
use Rattle.settling.specs.Wakes.{HasState, HasWordChanges, IsWakeRow, things_of}
use Rattle.settling.proofs.change.first_unsure.Given as goal

-- the signals so far are surely unchanged
abbrev pub invariant-loop-wake : goal.invariant-loop-wake
invariant-loop-wake l = (st : Closing) (w : Working) (p : ℕ) → HasState st w l.store l.values (state_of l.sets) → HasWordChanges st w.kept l.words → WritesSignals st.design p → IsWakeRow st p l.wakes → first_unsure st w.kept p (things_of (take l.wake-index l.wakes)) ≡ None
