use Rattle.std.proofs.Common.{◌≡◌, take}
use Rattle.code_values.specs.Values.{AddsRow}
use Rattle.code_values.proofs.values.insert_row.Given as goal

-- the signals so far are put in
abbrev pub invariant-loop-signal : goal.invariant-loop-signal
invariant-loop-signal l = (l.changed.size ≡ l.fn.changed.size) × AddsRow (take l.signal-index l.signals) l.fn.changed.items l.changed.items
