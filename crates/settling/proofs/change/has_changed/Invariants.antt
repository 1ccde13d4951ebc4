use Rattle.std.proofs.Common.{◌≡◌, ℕ, false, take}
use Rattle.std.specs.List.{list_any}
use Rattle.early_sets.specs.WakeState.{state_of}
use Rattle.wake_bits.specs.declared.wakes.Wake.{Wake}
use Rattle.step_parts.specs.replay_model.Step.{Closing, Working, has_changed}
use Rattle.settled_runs.specs.process_targets.Laws.{WritesSignals}
use Rattle.settling.specs.Wakes.{HasState, HasWordChanges, IsWakeRow}
use Rattle.settling.proofs.change.has_changed.Given as goal

-- nothing of the signals so far has surely changed
abbrev pub invariant-loop-wake : goal.invariant-loop-wake
invariant-loop-wake l = (st : Closing) (w : Working) (p : ℕ) → HasState st w l.store l.values (state_of l.sets) → HasWordChanges st w.kept l.words → WritesSignals st.design p → IsWakeRow st p l.wakes → list_any (λ (y : Wake). has_changed st w.kept p y.thing) (take l.wake-index l.wakes) ≡ false
