use Rattle.std.proofs.Common.{◌≡◌, take}
use Rattle.bound_codes.proofs.codes.signal_codes.Given as goal

abbrev pub invariant-loop-signal : goal.invariant-loop-signal
invariant-loop-signal l = l.codes.items ≡ take l.signal l.binding
