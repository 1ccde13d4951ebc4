-- The places of masks, and the cells that a constant part writes.
use Rattle.std.proofs.Common.{◌≡◌, ◌∙◌, ℕ, zero, suc, ◌+◌, ◌-◌, ◌*◌, ◌%◌, ◌^◌, ◌<◌, ◌≤◌, ◌&&◌, Bool, true, false, refl, sym, subst, arith}
use Rattle.std.specs.Prelude.{nat_le, nat_lt}
use Rattle.std.proofs.lemmas.Bool.{ltb-false, ltb-true}
use Rattle.std.proofs.lemmas.Bool.Decides.{nat_tests}
use Rattle.std.proofs.lemmas.Nat.{mod_below, pow_pos}
use Rattle.std.proofs.Math.Nat.{two-pow-succ}
use Rattle.std.proofs.Math.Pow.{pow_mono}
use Rattle.four_state.specs.Masks.{is_set}
use Rattle.four_state.proofs.Places.{is_set-above, is_set-mod, is_set-ones, is_set-shl_below, is_set-shl_from, same_from_places}

inside : (w i : ℕ) (b : Bool) → nat_lt i w ≡ b → is_set (2 ^ w - 1) i ≡ b
inside w i true e = is_set-ones w i (ltb-true i w e)
inside w i false e = is_set-above (2 ^ w - 1) w i (omega (arith, pow_pos w)) (ltb-false i w e)

-- the places of the lowest ones, moved up
pub moved : (w k i : ℕ) → (b : Bool) → nat_lt i k ≡ b → is_set ((2 ^ w - 1) * 2 ^ k) i ≡ (nat_le k i && nat_lt i (k + w))
moved w k i true e = is_set-shl_below (2 ^ w - 1) k i (ltb-true i k e) ∙ sym (grind (arith, nat_tests, ltb-true i k e))
moved w k i false e =
    let l : k ≤ i = ltb-false i k e in
    is_set-shl_from (2 ^ w - 1) k i l ∙ inside w (i - k) (nat_lt (i - k) w) refl ∙ grind (arith, nat_tests, l)

-- the same within 128 places
pub moved_cut : (w k i : ℕ) → k + w ≤ 128 → is_set ((2 ^ w - 1) * 2 ^ k % 2 ^ 128) i ≡ (nat_le k i && nat_lt i (k + w))
moved_cut w k i h = go (nat_lt i 128) refl
  where
    go : (b : Bool) → nat_lt i 128 ≡ b → is_set ((2 ^ w - 1) * 2 ^ k % 2 ^ 128) i ≡ (nat_le k i && nat_lt i (k + w))
    go true e = is_set-mod ((2 ^ w - 1) * 2 ^ k) 128 i (ltb-true i 128 e) ∙ moved w k i (nat_lt i k) refl
    go false e =
        let far : 128 ≤ i = ltb-false i 128 e in
        is_set-above ((2 ^ w - 1) * 2 ^ k % 2 ^ 128) 128 i (omega arith) far ∙ sym (grind (arith, nat_tests, far, h))

below_pow : (n : ℕ) → n < 2 ^ n
below_pow zero = omega arith
below_pow (suc n) = omega (arith, below_pow n, two-pow-succ n)

-- a mask without a place from w on
pub mask_inside : (m w : ℕ) → ((i : ℕ) → is_set m i ≡ true → i < w) → m < 2 ^ w
mask_inside m w h =
    let cut : m % 2 ^ w < 2 ^ w = mod_below m (2 ^ w) (pow_pos w) in
    let first : 2 ^ w ≤ 2 ^ (w + m) = pow_mono (omega arith) in
    let second : 2 ^ m ≤ 2 ^ (w + m) = pow_mono (omega arith) in
    let same : m ≡ m % 2 ^ w = same_from_places (w + m) m (m % 2 ^ w) (omega (arith, below_pow m, second)) (omega (arith, cut, first)) (λ i l. go i (nat_lt i w) refl) in
    subst (λ n. n < 2 ^ w) (sym same) cut
  where
    none : (i : ℕ) → w ≤ i → (b : Bool) → is_set m i ≡ b → is_set m i ≡ false
    none i l false e = e
    none i l true e = absurd (omega (arith, l, h i e))

    go : (i : ℕ) (b : Bool) → nat_lt i w ≡ b → is_set m i ≡ is_set (m % 2 ^ w) i
    go i true e = sym (is_set-mod m w i (ltb-true i w e))
    go i false e =
        let far : w ≤ i = ltb-false i w e in
        none i far (is_set m i) refl ∙ sym (is_set-above (m % 2 ^ w) w i cut far)
      where
        cut : m % 2 ^ w < 2 ^ w
        cut = mod_below m (2 ^ w) (pow_pos w)
