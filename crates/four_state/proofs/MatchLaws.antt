-- Case equality and the match of a label by the places at which two vectors differ.
use Rattle.std.proofs.Common.{◌≡◌, ℕ, suc, ◌-◌, ◌*◌, ◌/◌, ◌%◌, ◌^◌, ◌<◌, ◌≤◌, ◌==◌, Bool, true, false, not, ◌&&◌, ◌||◌, List, [], ◌∷◌, length, get_or, bit_and, bit_or, bit_xor, refl, ap, arith, sym, ◌∙◌}
use Rattle.std.proofs.lemmas.Bool.Decides.{nat_tests}
use Rattle.std.proofs.lemmas.Nat.{xor_lt}
use Rattle.std.proofs.Math.Nat.{pow-succ'}
use Rattle.four_state.specs.Vector.{Bit, Zero, One, X, Z, same_bit, same_bits}
use Rattle.four_state.specs.Operators.{CaseKind, Exact, AnyZ, AnyXZ, matches, is_any}
use Rattle.four_state.specs.Masks.{mask_of, is_set, is_one_or_z, is_strange}
use Rattle.four_state.proofs.Places.{differ, is_set-and, is_set-or, is_set-xor, is_set-not, is_set-lowest, is_set-suc}
use Rattle.four_state.proofs.Lifted.{mask_below, is_set-mask_of}
use Rattle.four_state.proofs.BitwiseLaws.{and_inside, or_inside}

-- a number is 0 where its lowest digit and the others are
zero_by_digit : (m : ℕ) → (m == 0) ≡ (not (m % 2 == 1) && (m / 2 == 0))
zero_by_digit m = grind (arith, nat_tests)

no_places : (m : ℕ) → m < 1 → (m == 0) ≡ true
no_places m h = grind (arith, nat_tests)

not_not : (p : Bool) → not (not p) ≡ p
not_not false = refl
not_not true = refl

-- a label matches where no place has bits that do not
pub matched : (kind : CaseKind) (m : ℕ) (bs cs : List Bit) → length bs ≡ length cs → m < 2 ^ length bs → ((i : ℕ) → i < length bs → is_set m i ≡ not ((is_any kind (get_or bs i X) || is_any kind (get_or cs i X)) || same_bit (get_or bs i X) (get_or cs i X))) → (m == 0) ≡ matches kind bs cs
matched kind m [] [] same below h = no_places m below
matched kind m [] (c ∷ cs) same below h = cc
matched kind m (b ∷ bs) [] same below h = cc
matched kind m (b ∷ bs) (c ∷ cs) same below h =
    let lowest = sym (is_set-lowest m) ∙ h 0 (omega arith) in
    let small : m < 2 * 2 ^ length bs = rw pow-succ' at below in
    zero_by_digit m ∙ ap (λ p. not p && (m / 2 == 0)) lowest ∙ ap (λ p. p && (m / 2 == 0)) (not_not ((is_any kind b || is_any kind c) || same_bit b c)) ∙ ap (λ q. ((is_any kind b || is_any kind c) || same_bit b c) && q) (matched kind (m / 2) bs cs (cc) (omega arith) (λ i l. sym (is_set-suc m i) ∙ h (suc i) (omega arith)))

z_at : (b : Bit) → (is_one_or_z b && is_strange b) ≡ is_any AnyZ b
z_at Zero = refl
z_at One = refl
z_at X = refl
z_at Z = refl

differing : (any : Bool) (b c : Bit) → ((differ (is_one_or_z b) (is_one_or_z c) || differ (is_strange b) (is_strange c)) && not any) ≡ not (any || same_bit b c)
differing false Zero Zero = refl
differing false Zero One = refl
differing false Zero X = refl
differing false Zero Z = refl
differing false One Zero = refl
differing false One One = refl
differing false One X = refl
differing false One Z = refl
differing false X Zero = refl
differing false X One = refl
differing false X X = refl
differing false X Z = refl
differing false Z Zero = refl
differing false Z One = refl
differing false Z X = refl
differing false Z Z = refl
differing true Zero Zero = refl
differing true Zero One = refl
differing true Zero X = refl
differing true Zero Z = refl
differing true One Zero = refl
differing true One One = refl
differing true One X = refl
differing true One Z = refl
differing true X Zero = refl
differing true X One = refl
differing true X X = refl
differing true X Z = refl
differing true Z Zero = refl
differing true Z One = refl
differing true Z X = refl
differing true Z Z = refl

module _ (bs cs : List Bit) (same : length bs ≡ length cs) where
  here : (p : Bit → Bool) (i : ℕ) → i < length bs → is_set (mask_of p bs) i ≡ p (get_or bs i X)
  here p i l = is_set-mask_of p bs i X l

  there : (p : Bit → Bool) (i : ℕ) → i < length bs → is_set (mask_of p cs) i ≡ p (get_or cs i X)
  there p i l = is_set-mask_of p cs i X (rw (← same) l)

  there_below : (p : Bit → Bool) → mask_of p cs < 2 ^ length bs
  there_below p = rw same (mask_below p cs)

  pub any_z : (i : ℕ) → i < length bs → is_set (bit_or (bit_and (mask_of is_one_or_z bs) (mask_of is_strange bs)) (bit_and (mask_of is_one_or_z cs) (mask_of is_strange cs))) i ≡ (is_any AnyZ (get_or bs i X) || is_any AnyZ (get_or cs i X))
  any_z i l =
      rw (is_set-or, is_set-and (mask_of is_one_or_z bs), is_set-and (mask_of is_one_or_z cs), here is_one_or_z i l, here is_strange i l, there is_one_or_z i l, there is_strange i l, z_at (get_or bs i X), z_at (get_or cs i X))

  pub any_xz : (i : ℕ) → i < length bs → is_set (bit_or (mask_of is_strange bs) (mask_of is_strange cs)) i ≡ (is_any AnyXZ (get_or bs i X) || is_any AnyXZ (get_or cs i X))
  any_xz i l = rw (is_set-or, here is_strange i l, there is_strange i l)

  -- the places at which two vectors differ, without those at which any bit matches
  pub label_law : (kind : CaseKind) (any : ℕ) → length bs ≤ 128 → any < 2 ^ 128 → ((i : ℕ) → i < length bs → is_set any i ≡ (is_any kind (get_or bs i X) || is_any kind (get_or cs i X))) → (bit_and (bit_or (bit_xor (mask_of is_one_or_z bs) (mask_of is_one_or_z cs)) (bit_xor (mask_of is_strange bs) (mask_of is_strange cs))) (2 ^ 128 - 1 - any) == 0) ≡ matches kind bs cs
  label_law kind any small wide h =
      matched kind _ bs cs same (and_inside (length bs) _ _ (or_inside (length bs) _ _ (xor_lt (length bs) _ _ (mask_below is_one_or_z bs) (there_below is_one_or_z)) (xor_lt (length bs) _ _ (mask_below is_strange bs) (there_below is_strange)))) (λ i l.
      rw (is_set-and, is_set-or, is_set-xor (mask_of is_one_or_z bs), is_set-xor (mask_of is_strange bs), here is_one_or_z i l, here is_strange i l, there is_one_or_z i l, there is_strange i l, is_set-not 128 any i wide (omega arith), h i l) (differing (is_any kind (get_or bs i X) || is_any kind (get_or cs i X)) (get_or bs i X) (get_or cs i X)))

same_is_exact : (bs cs : List Bit) → matches Exact bs cs ≡ same_bits bs cs
same_is_exact [] [] = refl
same_is_exact [] (c ∷ cs) = refl
same_is_exact (b ∷ bs) [] = refl
same_is_exact (b ∷ bs) (c ∷ cs) = ap (λ q. same_bit b c && q) (same_is_exact bs cs)

pub exact_law : (bs cs : List Bit) → matches Exact bs cs ≡ same_bits bs cs
exact_law bs cs = same_is_exact bs cs
