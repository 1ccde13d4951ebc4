use Rattle.std.proofs.Common.{◌≡◌, length, take}
use Rattle.known_digits.specs.Digits.{digits_of}
use Rattle.known_digits.proofs.digits.write_digits.Given as goal

-- the digits so far
abbrev pub invariant-loop-place : goal.invariant-loop-place
invariant-loop-place l = record {
  written : take l.place l.room ≡ take l.place (digits_of l.value.bits);
  room : length l.room ≡ 128;
}
