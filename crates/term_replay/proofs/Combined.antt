-- Operators on numbers.
use Rattle.std.proofs.Common.{◌≡◌, ◌∙◌, ℕ, ◌+◌, ◌-◌, ◌^◌, ◌<◌, ◌≤◌, ◌==◌, ◌%◌, Bool, true, false, not, ◌&&◌, ◌||◌, if◌then◌else◌, List, [], ◌∷◌, ◌++◌, length, get_or, nat_lt, Option, Some, None, refl, sym, ap, ap₂, subst, arith}
use Rattle.std.specs.Prelude.{IfSome, bit_and, bit_or, bit_xor}
use Rattle.std.specs.List.{list_any}
use Rattle.std.proofs.lemmas.Bool.{and_parts}
use Rattle.std.proofs.lemmas.Nat.{pow_pos, xor_lt}
use Rattle.four_state.specs.declared.bit.Bit.{Bit}
use Rattle.four_state.specs.declared.bit.Bit.TheVariants.{Zero, One, X}
use Rattle.four_state.specs.declared.operator.Binary.{Binary}
use Rattle.four_state.specs.declared.operator.Binary.TheVariants.{Add, BitwiseAnd, BitwiseOr, BitwiseXor, Equal, LessThan, NotEqual, Subtract}
use Rattle.four_state.specs.Arithmetic.{low_bits, natural}
use Rattle.four_state.specs.Masks.{bit_in_masks, bits_of_masks, is_set}
use Rattle.four_state.specs.Operators.{and_bit, binary_keeps_sign, binary_value, binary_vector, equal, not_bit, or_bit, reduce, xor_bit, zip_bits}
use Rattle.four_state.specs.Stored.{width_of_bits}
use Rattle.four_state.specs.Vector.{Vector, all_known, bit_of, is_known, is_one, top}
use Rattle.four_state.proofs.BitwiseLaws.{and_inside, or_inside}
use Rattle.four_state.proofs.Lifted.{bits_are, get_or-bits_of_masks, zipped}
use Rattle.four_state.proofs.NumberLaws.{cut_by_mask, difference_law, less_law, low_bits-mod, natural_is, sum_law}
use Rattle.four_state.proofs.Places.{differ, is_set-and, is_set-ones, is_set-or, is_set-xor, is_set-zero}
use Rattle.four_state.proofs.ReductionLaws.{mask_is_not_zero, or_of_all}
use Rattle.known_state.specs.Partly.{whole_of}
use Rattle.body_replay.proofs.Exact.{sure_length}
use Rattle.term_replay.specs.Plain.{number_at}
use Rattle.term_replay.specs.Stands.{Fitted}
use Rattle.term_replay.specs.declared.head.TermHead.{TermHead}
use Rattle.term_replay.proofs.Standing.{same_fits}
use Rattle.term_replay.specs.Numbers.{IsAtOnce, IsCombined, IsTested}
use Rattle.term_replay.proofs.Numbers.{number_known, ones_of_number}

-- ---- place by place

place : (w a i : ℕ) → i < w → get_or (bits_of_masks w a 0) i X ≡ bit_in_masks (is_set a i) false
place w a i l = get_or-bits_of_masks w a 0 i X l ∙ ap (bit_in_masks (is_set a i)) (is_set-zero i)

zip_number : (f : Bit → Bit → Bit) (g : Bool → Bool → Bool) (w a b n : ℕ) → ((p q : Bool) → bit_in_masks (g p q) false ≡ f (bit_in_masks p false) (bit_in_masks q false)) → ((i : ℕ) → i < w → is_set n i ≡ g (is_set a i) (is_set b i)) → bits_of_masks w n 0 ≡ zip_bits f (bits_of_masks w a 0) (bits_of_masks w b 0)
zip_number f g w a b n pair places =
    zipped f w n 0 (bits_of_masks w a 0) (bits_of_masks w b 0) (sym (width_of_bits w a 0)) (width_of_bits w a 0 ∙ sym (width_of_bits w b 0)) (λ i l.
    ap₂ bit_in_masks (places i l) (is_set-zero i) ∙ pair (is_set a i) (is_set b i) ∙ sym (ap₂ f (place w a i l) (place w b i l)))

and_pair : (p q : Bool) → bit_in_masks (p && q) false ≡ and_bit (bit_in_masks p false) (bit_in_masks q false)
and_pair true true = refl
and_pair true false = refl
and_pair false true = refl
and_pair false false = refl

or_pair : (p q : Bool) → bit_in_masks (p || q) false ≡ or_bit (bit_in_masks p false) (bit_in_masks q false)
or_pair true true = refl
or_pair true false = refl
or_pair false true = refl
or_pair false false = refl

xor_pair : (p q : Bool) → bit_in_masks (differ p q) false ≡ xor_bit (bit_in_masks p false) (bit_in_masks q false)
xor_pair true true = refl
xor_pair true false = refl
xor_pair false true = refl
xor_pair false false = refl

xor_number : (w a b : ℕ) → bits_of_masks w (bit_xor a b) 0 ≡ zip_bits xor_bit (bits_of_masks w a 0) (bits_of_masks w b 0)
xor_number w a b = zip_number xor_bit differ w a b (bit_xor a b) xor_pair (λ i l. is_set-xor a b i)

pub and_combined : (w a b : ℕ) → a < 2 ^ w → IsCombined BitwiseAnd w a b (bit_and a b)
and_combined w a b h = record { bits = λ s. zip_number and_bit ◌&&◌ w a b (bit_and a b) and_pair (λ i l. is_set-and a b i); inside = and_inside w a b h; keeps = refl }

pub or_combined : (w a b : ℕ) → a < 2 ^ w → b < 2 ^ w → IsCombined BitwiseOr w a b (bit_or a b)
or_combined w a b h g = record { bits = λ s. zip_number or_bit ◌||◌ w a b (bit_or a b) or_pair (λ i l. is_set-or a b i); inside = or_inside w a b h g; keeps = refl }

pub xor_combined : (w a b : ℕ) → a < 2 ^ w → b < 2 ^ w → IsCombined BitwiseXor w a b (bit_xor a b)
xor_combined w a b h g = record { bits = λ s. xor_number w a b; inside = xor_lt w a b h g; keeps = refl }

-- ---- sums and differences

mask_below : (w : ℕ) → 2 ^ w - 1 < 2 ^ w
mask_below w = let some = pow_pos w in omega (arith, some)

pub cut_inside : (w n : ℕ) → bit_and (2 ^ w - 1) n < 2 ^ w
cut_inside w n = and_inside w (2 ^ w - 1) n (mask_below w)

-- numbers with the same places have the same bits
same_places : (w a b : ℕ) → ((i : ℕ) → i < w → is_set a i ≡ is_set b i) → bits_of_masks w a 0 ≡ bits_of_masks w b 0
same_places w a b h =
    bits_are w a 0 (bits_of_masks w b 0) (sym (width_of_bits w b 0)) (λ i l. ap (λ p. bit_in_masks p (is_set 0 i)) (h i l) ∙ sym (get_or-bits_of_masks w b 0 i X l))

-- what a mask cuts, in either order
cut_number : (w n : ℕ) → bits_of_masks w (bit_and (2 ^ w - 1) n) 0 ≡ low_bits w n
cut_number w n =
    same_places w (bit_and (2 ^ w - 1) n) (bit_and n (2 ^ w - 1)) (λ i l.
    is_set-and (2 ^ w - 1) n i ∙ ap (λ p. p && is_set n i) (is_set-ones w i l) ∙ sym (is_set-and n (2 ^ w - 1) i ∙ ap (λ p. is_set n i && p) (is_set-ones w i l) ∙ and_true (is_set n i))) ∙ cut_by_mask w n
  where
    and_true : (p : Bool) → (p && true) ≡ p
    and_true true = refl
    and_true false = refl

number_natural : (w a : ℕ) → a < 2 ^ w → natural (bits_of_masks w a 0) ≡ a
number_natural w a h = natural_is (bits_of_masks w a 0) ∙ sym (ones_of_number w a h)

known_append : (bs cs : List Bit) → all_known bs ≡ true → all_known cs ≡ true → all_known (bs ++ cs) ≡ true
known_append [] cs e f = f
known_append (b ∷ bs) cs e f = let p = and_parts (is_known b) (all_known bs) e in ap₂ ◌&&◌ p.0 (known_append bs cs p.1 f)

both_known : (w a b : ℕ) → all_known (bits_of_masks w a 0 ++ bits_of_masks w b 0) ≡ true
both_known w a b = known_append (bits_of_masks w a 0) (bits_of_masks w b 0) (number_known w a) (number_known w b)

same_width : (w a b : ℕ) → length (bits_of_masks w a 0) ≡ length (bits_of_masks w b 0)
same_width w a b = width_of_bits w a 0 ∙ sym (width_of_bits w b 0)

module _ (w a b : ℕ) (small : w ≤ 64) (h : a < 2 ^ w) (g : b < 2 ^ w) where
  fits : length (bits_of_masks w a 0) ≤ 128
  fits = subst (λ n. n ≤ 128) (sym (width_of_bits w a 0)) (omega arith)

  pub sum_combined : (n : ℕ) → n ≡ bit_and (2 ^ w - 1) (a + b) → n < 2 ^ w → IsCombined Add w a b n
  sum_combined n is below = record {
    bits = λ s. ap (λ k. bits_of_masks w k 0) is ∙ cut_number w (a + b) ∙ sym (low_bits-mod w (a + b) (omega arith)) ∙ ap₂ (λ k m. low_bits k (m % 2 ^ 128)) (sym (width_of_bits w a 0)) (sym (ap₂ ◌+◌ (number_natural w a h) (number_natural w b g))) ∙ sum_law s (bits_of_masks w a 0) (bits_of_masks w b 0) (both_known w a b) (same_width w a b) fits;
    inside = below;
    keeps = refl;
  }

  pub difference_combined : (n : ℕ) → b ≤ 2 ^ 128 → n ≡ bit_and (2 ^ w - 1) ((a + (2 ^ 128 - b)) % 2 ^ 128) → n < 2 ^ w → IsCombined Subtract w a b n
  difference_combined n top is below = record {
    bits = λ s. ap (λ k. bits_of_masks w k 0) is ∙ cut_number w ((a + (2 ^ 128 - b)) % 2 ^ 128) ∙ ap₂ (λ k m. low_bits k (m % 2 ^ 128)) (sym (width_of_bits w a 0)) (sym (ap₂ (λ x y. x + (2 ^ 128 - y)) (number_natural w a h) (number_natural w b g))) ∙ difference_law s (bits_of_masks w a 0) (bits_of_masks w b 0) (both_known w a b) (same_width w a b) fits (subst (λ y. y ≤ 2 ^ 128) (sym (number_natural w b g)) top);
    inside = below;
    keeps = refl;
  }

-- ---- tests

equal_by : (ds : List Bit) (p : Bool) → list_any is_one ds ≡ not p → all_known ds ≡ true → not_bit (reduce or_bit Zero ds) ≡ bit_of p
equal_by ds true one known = ap not_bit (or_of_all ds) ∙ ap (λ q. not_bit (if q then One else (if all_known ds then Zero else X))) one ∙ ap (λ k. not_bit (if k then Zero else X)) known
equal_by ds false one known = ap not_bit (or_of_all ds) ∙ ap (λ q. not_bit (if q then One else (if all_known ds then Zero else X))) one

equal_number : (w a b : ℕ) → a < 2 ^ w → b < 2 ^ w → equal (bits_of_masks w a 0) (bits_of_masks w b 0) ≡ bit_of (bit_xor a b == 0)
equal_number w a b h g =
    ap (λ ds. not_bit (reduce or_bit Zero ds)) (sym (xor_number w a b)) ∙ equal_by (bits_of_masks w (bit_xor a b) 0) (bit_xor a b == 0) (sym (mask_is_not_zero is_one (bits_of_masks w (bit_xor a b) 0)) ∙ ap (λ m. not (m == 0)) (sym (ones_of_number w (bit_xor a b) (xor_lt w a b h g)))) (number_known w (bit_xor a b))

not_of : (p : Bool) → bit_of (not p) ≡ not_bit (bit_of p)
not_of true = refl
not_of false = refl

pub equal_tested : (signed : Bool) (a b n : ℕ) (p : Bool) → p ≡ (bit_xor a b == 0) → n ≡ (if p then 1 else 0) → IsTested Equal signed a b n
equal_tested signed a b n p e is = record { answer = p; is = is; bits = λ w small h g. ap (λ x. x ∷ []) (ap bit_of e ∙ sym (equal_number w a b h g)); keeps = refl }

pub unequal_tested : (signed : Bool) (a b n : ℕ) (p : Bool) → p ≡ not (bit_xor a b == 0) → n ≡ (if p then 1 else 0) → IsTested NotEqual signed a b n
unequal_tested signed a b n p e is = record { answer = p; is = is; bits = λ w small h g. ap (λ x. x ∷ []) (ap bit_of e ∙ not_of (bit_xor a b == 0) ∙ ap not_bit (sym (equal_number w a b h g))); keeps = refl }

pub less_tested : (signed : Bool) (a b n : ℕ) (p : Bool) → signed ≡ false → p ≡ nat_lt a b → n ≡ (if p then 1 else 0) → IsTested LessThan signed a b n
less_tested true a b n p f e is = absurd (cc)
less_tested false a b n p f e is = record {
  answer = p;
  is = is;
  bits = λ w small h g. ap (λ q. bit_of q ∷ []) e ∙ ap₂ (λ x y. bit_of (nat_lt x y) ∷ []) (sym (number_natural w a h)) (sym (number_natural w b g)) ∙ less_law false (bits_of_masks w a 0) (bits_of_masks w b 0) (both_known w a b) (same_width w a b) refl;
  keeps = refl;
}

-- ---- as vectors, at the shape of a term

number_shaped : (x : TermHead) (n : ℕ) (u : Vector) → u ≡ number_at x n → Fitted x (whole_of u) (whole_of (number_at x n))
number_shaped x n u e =
    subst (λ v. Fitted x (whole_of v) (whole_of (number_at x n))) (sym e) (same_fits x (whole_of (number_at x n)) (sure_length (number_at x n).bits ∙ width_of_bits x.width n 0) refl)

pub combined_fits : (x y z : TermHead) (op : Binary) (a b n : ℕ) → y.width ≡ z.width → y.width ≡ x.width → y.signed ≡ x.signed → IsCombined op y.width a b n → Fitted x (whole_of (binary_vector op (number_at y a) (number_at z b))) (whole_of (number_at x n))
combined_fits x y z op a b n same wide sign c =
    number_shaped x n (binary_vector op (number_at y a) (number_at z b)) (ap₂ (λ bs s. record { bits = bs; signed = s }) (ap (λ w. binary_value op y.signed (bits_of_masks y.width a 0) (bits_of_masks w b 0)) (sym same) ∙ sym (c.bits y.signed) ∙ ap (λ w. bits_of_masks w n 0) wide) (ap (λ k. k && y.signed) c.keeps ∙ sign))

one_bit : (p : Bool) → bits_of_masks 1 (if p then 1 else 0) 0 ≡ bit_of p ∷ []
unfolding bits_of_masks
one_bit true = refl
one_bit false = refl

one_inside : (p : Bool) → (if p then 1 else 0) < 2
one_inside true = omega arith
one_inside false = omega arith

module _ (op : Binary) (x y z : TermHead) (a b : ℕ) (same : y.width ≡ z.width) where
  pub combined_at_once : (o : Option ℕ) → y.width ≡ x.width → y.signed ≡ x.signed → y.width ≤ 64 → IfSome o (IsCombined op y.width a b) → IfSome o (IsAtOnce op y z x a b)
  combined_at_once None wide sign small c = tt
  combined_at_once (Some n) wide sign small c = record { fits = combined_fits x y z op a b n same wide sign c; small = record { narrow = subst (λ w. w ≤ 64) wide small; inside = subst (λ w. n < 2 ^ w) wide c.inside } }

  tested_fits : (p : Bool) → x.width ≡ 1 → x.signed ≡ false → bit_of p ∷ [] ≡ binary_value op y.signed (bits_of_masks y.width a 0) (bits_of_masks y.width b 0) → binary_keeps_sign op ≡ false → Fitted x (whole_of (binary_vector op (number_at y a) (number_at z b))) (whole_of (number_at x (if p then 1 else 0)))
  tested_fits p one unsigned bits keeps =
      number_shaped x (if p then 1 else 0) (binary_vector op (number_at y a) (number_at z b)) (ap₂ (λ bs s. record { bits = bs; signed = s }) (ap (λ w. binary_value op y.signed (bits_of_masks y.width a 0) (bits_of_masks w b 0)) (sym same) ∙ sym bits ∙ sym (one_bit p) ∙ ap (λ w. bits_of_masks w (if p then 1 else 0) 0) (sym one)) (ap (λ k. k && y.signed) keeps ∙ sym unsigned))

  pub tested_at_once : (o : Option ℕ) → x.width ≡ 1 → x.signed ≡ false → y.width ≤ 64 → a < 2 ^ y.width → b < 2 ^ y.width → IfSome o (IsTested op y.signed a b) → IfSome o (IsAtOnce op y z x a b)
  tested_at_once None one unsigned small h g c = tt
  tested_at_once (Some n) one unsigned small h g c = record {
    fits = subst (λ m. Fitted x (whole_of (binary_vector op (number_at y a) (number_at z b))) (whole_of (number_at x m))) (sym c.is) (tested_fits c.answer one unsigned (c.bits y.width small h g) c.keeps);
    small = record { narrow = subst (λ w. w ≤ 64) (sym one) (omega arith); inside = subst (λ w. n < 2 ^ w) (sym one) (subst (λ m. m < 2) (sym c.is) (one_inside c.answer)) };
  }
