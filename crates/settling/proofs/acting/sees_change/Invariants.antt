use Rattle.std.proofs.Common.{◌≡◌, false, take}
use Rattle.settling.specs.Runs.{sees_by}
use Rattle.settling.proofs.acting.sees_change.Given as goal

-- nothing that is mentioned so far has changed
abbrev pub invariant-loop-wake : goal.invariant-loop-wake
invariant-loop-wake l = sees_by l.signals (take l.wake-index l.wakes) l.changed.items ≡ false
