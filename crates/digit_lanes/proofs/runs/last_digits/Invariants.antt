use Rattle.std.proofs.Common.{◌≡◌, ◌+◌, ◌-◌, ◌≤◌, length, drop}
use Rattle.std.specs.List.{prefix_len}
use Rattle.digit_lanes.specs.Bytes.{is_digit}
use Rattle.digit_lanes.proofs.runs.last_digits.Given as goal

abbrev pub invariant-loop-count : goal.invariant-loop-count
invariant-loop-count l =
    (l.from + prefix_len is_digit (drop l.from l.bytes) ≡ l.count + prefix_len is_digit (drop l.count l.bytes)) × (l.count ≤ length l.bytes)

abbrev pub decreases-loop-count : goal.decreases-loop-count
decreases-loop-count l = length l.bytes - l.count
