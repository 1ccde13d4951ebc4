-- Contiguous lists that have a number in common.
use Rattle.std.proofs.Common.{◌≡◌, ℕ, zero, suc, ◌+◌, ◌==◌, nat_le, nat_lt, min, max, ◌&&◌, ◌||◌, arith}
use Rattle.std.specs.List.{list_any, range_with_len}
use Rattle.std.proofs.lemmas.Bool.Decides.{nat_tests}
use Rattle.flat_design.specs.Processes.{have_common}

-- a number of such a list
is_among : (x b m : ℕ) → list_any (λ y. x == y) (range_with_len b m) ≡ (nat_le b x && nat_lt x (b + m))
is_among x b zero = grind (arith, nat_tests)
is_among x b (suc m) = rw (is_among x (b + 1) m) (grind (arith, nat_tests))

one_more : (a n b m : ℕ) → ((nat_le b a && nat_lt a (b + m)) || nat_lt (max (a + 1) b) (min (a + 1 + n) (b + m))) ≡ nat_lt (max a b) (min (a + suc n) (b + m))
one_more a n b m = grind (arith, nat_tests)

-- they have one where the greater begin is below the lesser end
pub common_is : (a n b m : ℕ) → have_common (range_with_len a n) (range_with_len b m) ≡ nat_lt (max a b) (min (a + n) (b + m))
common_is a zero b m = grind (arith, nat_tests)
common_is a (suc n) b m = rw (is_among a b m, common_is (a + 1) n b m) (one_more a n b m)
