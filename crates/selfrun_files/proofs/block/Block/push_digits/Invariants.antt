use Rattle.std.proofs.Common.{◌≡◌, ◌+◌, ◌≤◌, ◌++◌, length}
use Rattle.selfrun_files.specs.Text.{bit_digits}
use Rattle.selfrun_files.proofs.block.Block.push_digits.Given as goal

-- the digits so far, and those of the places that are left
abbrev pub invariant-loop-left : goal.invariant-loop-left
invariant-loop-left l = record {
  digits : l.self ++ bit_digits l.left l.value ≡ l.fn.self ++ bit_digits l.width l.value;
  few : l.left ≤ l.width;
  room : length l.self + l.left ≡ length l.fn.self + l.width;
}

abbrev pub decreases-loop-left : goal.decreases-loop-left
decreases-loop-left l = l.left
