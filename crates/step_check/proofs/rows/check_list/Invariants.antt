use Rattle.std.proofs.Common.{◌≡◌, take}
use Rattle.step_check.specs.Checks.{checked}
use Rattle.step_check.proofs.rows.check_list.Given as goal

-- the signals of the bits so far
abbrev pub invariant-loop-bits : goal.invariant-loop-bits
invariant-loop-bits l = l.list.items ≡ checked l.codes (take l.bits-index l.row)
