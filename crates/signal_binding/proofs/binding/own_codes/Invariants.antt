use Rattle.std.proofs.Common.{◌≡◌, map}
use Rattle.std.specs.List.{range_with_len}
use Rattle.signal_binding.specs.Table.{own_code}
use Rattle.signal_binding.proofs.binding.own_codes.Given as goal

abbrev pub invariant-loop-signal : goal.invariant-loop-signal
invariant-loop-signal l = l.codes.items ≡ map (own_code l.table l.design) (range_with_len 0 l.signal-index)
