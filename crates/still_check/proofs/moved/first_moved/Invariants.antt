use Rattle.std.proofs.Common.{[], take}
use Rattle.early_sets.specs.WakeState.{state_of}
use Rattle.step_values.specs.replay_model.Step.{Closing}
use Rattle.still_check.specs.Stays.{IsAfterClocked, IsLeastMoved}
use Rattle.still_check.proofs.moved.first_moved.Given as goal

-- the least of the changed signals so far
abbrev pub invariant-loop-signal : goal.invariant-loop-signal
invariant-loop-signal l = (st : Closing) → IsAfterClocked st l.store (state_of l.sets) l.codes l.values.last → IsLeastMoved st (take l.signal-index l.changed) [] l.found

-- and of those that are overwritten
abbrev pub invariant-loop-signal-2 : goal.invariant-loop-signal-2
invariant-loop-signal-2 l = (st : Closing) → IsAfterClocked st l.store (state_of l.sets) l.codes l.values.last → IsLeastMoved st l.changed (take l.signal-index l.overwritten) l.found
