use Rattle.std.proofs.Common.{◌≡◌, ◌<◌, ℕ, false}
use Rattle.code_values.specs.Values.{lacks_value}
use Rattle.code_values.proofs.values.CodeValues.first_missing.Given as goal

-- none of the signals so far lacks a value
abbrev pub invariant-loop-signal : goal.invariant-loop-signal
invariant-loop-signal l = (s : ℕ) → s < l.signal → lacks_value l.self.last l.codes s ≡ false
