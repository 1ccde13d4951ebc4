-- Numbers that are cut to the greatest `usize` as they are counted.
use Rattle.std.proofs.Common.{◌≡◌, ℕ, ◌+◌, ◌<◌, ◌^◌, arith}
use Rattle.value_store.specs.Rooms.{as_usize}

pub counted : (n a b : ℕ) → as_usize (as_usize (n + a) + b) ≡ as_usize (n + (a + b))
counted n a b = omega arith

-- the number once nothing is left to count
pub ended : (total rest whole : ℕ) → as_usize (total + rest) ≡ whole → rest ≡ 0 → total < 2 ^ 64 → total ≡ whole
ended total rest whole e none small = omega (arith, e, none, small)
