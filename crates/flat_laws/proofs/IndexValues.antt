-- The index of the lowest bit of an indexed part of a target is the number that the base says, moved up or down.
use Rattle.std.proofs.Common.{◌≡◌, ◌⊎◌, inl, inr, ℕ, zero, suc, ◌+◌, ◌-◌, ◌*◌, ◌^◌, ◌<◌, ◌≤◌, max, nat_lt, Bool, true, false, not, ◌&&◌, ◌||◌, if◌then◌else◌, List, [], ◌∷◌, ◌++◌, map, length, ℤ, pos, negsuc, ◌+ℤ◌, ◌-ℤ◌, Some, None, refl, sym, ap, ◌∙◌, subst, arith, slice_index_or}
use Rattle.std.proofs.lemmas.Bool.{false≢true, and_parts, cases_lt, ltb-false}
use Rattle.std.proofs.lemmas.Int.{ints}
use Rattle.std.proofs.lemmas.List.Folds.{list_all-append}
use Rattle.std.proofs.Math.Nat.{pow-succ'}
use Rattle.std.proofs.Math.Pow.{pow_mono}
use Rattle.std.specs.List.{range_with_len}
use Rattle.event_machine.specs.Cell.{Values}
use Rattle.four_state.specs.Arithmetic.{cut, low_bits, natural, not_bit, shift_right, whole}
use Rattle.four_state.specs.Operators.{binary_value, choice_value}
use Rattle.four_state.specs.Parts.{index}
use Rattle.four_state.specs.Vector.{all_known, extend, fill, is_known, is_one, top, truth}
use Rattle.four_state.specs.declared.bit.Bit.{Bit}
use Rattle.four_state.specs.declared.bit.Bit.TheVariants.{One, X, Z, Zero}
use Rattle.four_state.specs.declared.operator.Binary.TheVariants.{Add, Subtract}
use Rattle.four_state.specs.declared.truth.Truth.TheVariants.{False}
use Rattle.design_model.specs.Design.{Design}
use Rattle.design_model.specs.Value.{head, value}
use Rattle.design_model.proofs.Named.{length-fit}
use Rattle.verilog_tree.specs.Tree.{Expr, place_of}
use Rattle.elab_const.specs.Faults as const
use Rattle.elab_const.specs.Faults.{fault_of}
use Rattle.elab_const.specs.Meaning.{shape_as}
use Rattle.flat_design.specs.Scope.{Scope, constant, names, shape, whole_number}
use Rattle.flat_design.specs.Targets.{behind_zero, guarded_term, highest_bit, moved_index, moved_term, moved_width, number_term, signed_term}
use Rattle.flat_design.specs.Terms.{alone}
use Rattle.flat_laws.proofs.ConstantTerms.{constant_value, term_signed}
use Rattle.flat_laws.proofs.WholeCuts.{Fits, arithmetic_cut, extend-cut, extend_known, index-cut, index_whole, known-cut, natural_below, whole_fits, whole-cut}

-- a constant expression, and the number that it says
pub record IsNumber (g : Scope) (e : Expr) (z : ℤ) : Type 0 where
  pub is_constant : const.is_constant (names g) e ≡ true
  pub no_fault : fault_of (names g) e ≡ None
  pub number : whole_number g e ≡ Some z

abbrev pub bits_of : Scope → Expr → List Bit
bits_of g e = (constant g e).bits

-- its bits are known, and represent the number
known_bits : (g : Scope) (e : Expr) (z : ℤ) → IsNumber g e z → (all_known (bits_of g e) ≡ true) × (whole (shape g e).signed (bits_of g e) ≡ z)
known_bits g e z h = index_whole (shape g e).signed (bits_of g e) z h.number

whole_natural : (signed : Bool) (bs : List Bit) (k : ℕ) → whole signed bs ≡ pos k → natural bs ≡ k
whole_natural signed bs k h = by_sign (signed && is_one (top bs)) h
  where
    by_sign : (t : Bool) → (if t then negsuc (natural (map not_bit bs)) else pos (natural bs)) ≡ pos k → natural bs ≡ k
    by_sign true e = absurd (omega (arith, ints))
    by_sign false e = omega (arith, ints)

pub width_of : (g : Scope) (e : Expr) → length (bits_of g e) ≡ (shape g e).width
width_of g e = length-fit (shape g e).width _ _

alone_value : (base : ℕ) (d : Design) (v : Values Bit) (g : Scope) (e : Expr) (z : ℤ) → IsNumber g e z → (n : ℕ) → value d v (alone base g e n) ≡ bits_of g e
alone_value base d v g e z h n = constant_value base d v g e h.is_constant h.no_fault n (shape g e)

-- the index of a constant, which may be no number
pub alone_whole : (base : ℕ) (d : Design) (v : Values Bit) (g : Scope) (e : Expr) → const.is_constant (names g) e ≡ true → fault_of (names g) e ≡ None → (n : ℕ) → index (head (alone base g e n)).signed (value d v (alone base g e n)) ≡ whole_number g e
alone_whole base d v g e a b n = rw (term_signed base g e n (shape g e), constant_value base d v g e a b n (shape g e)) refl

-- the number that its bits say, where it is one from 0 on
pub alone_natural : (base : ℕ) (d : Design) (v : Values Bit) (g : Scope) (e : Expr) (k : ℕ) → IsNumber g e (pos k) → (n : ℕ) → natural (value d v (alone base g e n)) ≡ k
alone_natural base d v g e k h n = ap natural (alone_value base d v g e (pos k) h n) ∙ whole_natural (shape g e).signed (bits_of g e) k (known_bits g e (pos k) h).1

-- the base itself
pub alone_index : (base : ℕ) (d : Design) (v : Values Bit) (g : Scope) (e : Expr) (z : ℤ) → IsNumber g e z → (n : ℕ) → index (head (alone base g e n)).signed (value d v (alone base g e n)) ≡ Some z
alone_index base d v g e z h n = rw (term_signed base g e n (shape g e), alone_value base d v g e z h n) h.number

-- a number with a 0 bit above it
natural-append_zero : (bs : List Bit) → natural (bs ++ Zero ∷ []) ≡ natural bs
natural-append_zero [] = refl
natural-append_zero (b ∷ bs) = rw (natural-append_zero bs) refl

known-append_zero : (bs : List Bit) → all_known bs ≡ true → all_known (bs ++ Zero ∷ []) ≡ true
known-append_zero bs h = list_all-append is_known bs (Zero ∷ []) ∙ rw h refl

zero_value : (d : Design) (v : Values Bit) (e : Expr) → value d v (number_term (place_of e) (shape_as 1 false) 0) ≡ Zero ∷ []
zero_value d v e = refl

behind_value : (base : ℕ) (d : Design) (v : Values Bit) (g : Scope) (e : Expr) (z : ℤ) → IsNumber g e z → (n : ℕ) → value d v (behind_zero base g e n) ≡ cut (suc (shape g e).width) (pos (natural (bits_of g e)))
behind_value base d v g e z h n =
    ap (λ bs. extend ((shape g e).width + 1) false (bs ++ Zero ∷ [])) (alone_value base d v g e z h n) ∙
    (extend_known ((shape g e).width + 1) false (bits_of g e ++ Zero ∷ []) (known-append_zero (bits_of g e) (known_bits g e z h).0) ∙
    ap (λ k. low_bits ((shape g e).width + 1) k) (natural-append_zero (bits_of g e)) ∙ ap (λ w. low_bits w (natural (bits_of g e))) (let q : (shape g e).width + 1 ≡ suc (shape g e).width = omega arith in q))

-- a number below the place of the highest bit
top_counts : (bs : List Bit) (k : ℕ) → length bs ≡ suc k → is_one (top bs) ≡ true → 2 ^ k ≤ natural bs
top_counts [] k e h = absurd (omega arith)
top_counts (b ∷ []) zero e h = rw h (omega arith)
top_counts (b ∷ []) (suc k) e h = absurd (omega arith)
top_counts (b ∷ c ∷ cs) zero e h = absurd (omega arith)
top_counts (b ∷ c ∷ cs) (suc k) e h = let more = top_counts (c ∷ cs) k (omega arith) h in rw pow-succ' (twice (is_one b) (2 ^ k) (natural (c ∷ cs)) more)
  where
    twice : (t : Bool) (m n : ℕ) → m ≤ n → 2 * m ≤ (if t then 1 else 0) + 2 * n
    twice true m n l = omega arith
    twice false m n l = omega arith

whole_small : (bs : List Bit) (k : ℕ) → length bs ≡ suc k → natural bs < 2 ^ k → whole true bs ≡ pos (natural bs)
whole_small bs k e h = by_top (is_one (top bs)) refl
  where
    by_top : (t : Bool) → is_one (top bs) ≡ t → (if t then negsuc (natural (map not_bit bs)) else pos (natural bs)) ≡ pos (natural bs)
    by_top true is = absurd (let more = top_counts bs k e is in omega arith)
    by_top false is = refl

-- the numbers that are no index of any range: those of 127 bits and more
abbrev pub IsSmall : ℤ → Type 0
IsSmall z = Fits 126 z

-- an expression with its sign bit, as a signed term
abbrev IsFit : Scope → Expr → ℤ → Type 0
IsFit g e z = ((shape g e).width < 127) ⊎ IsSmall z

unsigned_number : (signed : Bool) (bs : List Bit) (z : ℤ) → signed ≡ false → whole signed bs ≡ z → z ≡ pos (natural bs)
unsigned_number false bs z e h = sym h
unsigned_number true bs z e h = absurd (false≢true (sym e))

signed_number : (signed : Bool) (bs : List Bit) (z : ℤ) → signed ≡ true → whole signed bs ≡ z → whole true bs ≡ z
signed_number true bs z e h = h
signed_number false bs z e h = absurd (false≢true e)

own_whole : (g : Scope) (e : Expr) (z : ℤ) → IsNumber g e z → ((shape g e).signed ≡ true) ⊎ (((shape g e).signed ≡ false) × (128 ≤ (shape g e).width)) → IsFit g e z → whole true (bits_of g e) ≡ z
own_whole g e z h (inl s) fit = signed_number (shape g e).signed (bits_of g e) z s (known_bits g e z h).1
own_whole g e z h (inr s) (inl narrow) = absurd (omega (arith, s.1))
own_whole g e z h (inr s) (inr small) =
    let n : z ≡ pos (natural (bits_of g e)) = unsigned_number (shape g e).signed (bits_of g e) z s.0 (known_bits g e z h).1 in
    let less : natural (bits_of g e) < 2 ^ 126 = subst IsSmall n small in
    let wide : suc ((shape g e).width - 1) ≡ (shape g e).width = omega (arith, s.1) in
    let at_least : 126 ≤ (shape g e).width - 1 = omega (arith, s.1) in
    let more : 2 ^ 126 ≤ 2 ^ ((shape g e).width - 1) = pow_mono at_least in
    whole_small (bits_of g e) ((shape g e).width - 1) (width_of g e ∙ sym wide) (omega (arith, less, more)) ∙ sym n

signed_value : (base : ℕ) (d : Design) (v : Values Bit) (g : Scope) (e : Expr) (z : ℤ) → IsNumber g e z → IsFit g e z → (w n : ℕ) → value d v (signed_term base g w e n) ≡ cut w z
signed_value base d v g e z h fit w n = by_way (nat_lt (shape g e).width 128) (shape g e).signed refl refl
  where
    bs : List Bit
    bs = bits_of g e

    known : all_known bs ≡ true
    known = (known_bits g e z h).0

    as_it_is : ((shape g e).signed ≡ true) ⊎ (((shape g e).signed ≡ false) × (128 ≤ (shape g e).width)) → extend w true (value d v (alone base g e n)) ≡ cut w z
    as_it_is way = ap (extend w true) (alone_value base d v g e z h n) ∙ (extend_known w true bs known ∙ ap (cut w) (own_whole g e z h way fit))

    by_way : (narrow signed : Bool) → nat_lt (shape g e).width 128 ≡ narrow → (shape g e).signed ≡ signed → extend w true (value d v (if narrow && not signed then behind_zero base g e n else alone base g e n)) ≡ cut w z
    by_way true true a b = as_it_is (inl b)
    by_way false true a b = as_it_is (inl b)
    by_way false false a b = as_it_is (inr (b, ltb-false _ _ a))
    by_way true false a b =
        let n : z ≡ pos (natural bs) = unsigned_number (shape g e).signed bs z b (known_bits g e z h).1 in
        let less : natural bs < 2 ^ (shape g e).width = subst (λ k. natural bs < 2 ^ k) (width_of g e) (natural_below bs) in
        ap (extend w true) (behind_value base d v g e z h _) ∙
        (extend_known w true (cut (suc (shape g e).width) (pos (natural bs))) (known-cut (suc (shape g e).width) (pos (natural bs))) ∙
        (ap (cut w) (whole-cut (shape g e).width (pos (natural bs)) less) ∙ ap (cut w) (sym n)))

-- what a number is moved to
abbrev pub moved : Bool → ℕ → ℤ → ℤ
moved up by z = if up then z +ℤ pos by else z -ℤ pos by

-- a number in more bits
fits_more : (w k : ℕ) (z : ℤ) → w ≤ k → Fits w z → Fits k z
fits_more w k (pos n) h l = let more : 2 ^ w ≤ 2 ^ k = pow_mono h in omega arith
fits_more w k (negsuc n) h l = let more : 2 ^ w ≤ 2 ^ k = pow_mono h in omega arith

-- a number and one of 7 bits, added or taken
fits_moved : (a k : ℕ) (up : Bool) (by : ℕ) (z : ℤ) → a + 128 ≤ k → by < 128 → ((n : ℕ) → z ≡ pos n → n < a) → ((n : ℕ) → z ≡ negsuc n → n < a) → ((n : ℕ) → moved up by z ≡ pos n → n < k) × ((n : ℕ) → moved up by z ≡ negsuc n → n < k)
fits_moved a k true by (pos m) room small p q = (λ n e. let less = p m refl in omega (arith, ints), λ n e. let less = p m refl in omega (arith, ints))
fits_moved a k true by (negsuc m) room small p q = (λ n e. let less = q m refl in omega (arith, ints), λ n e. let less = q m refl in omega (arith, ints))
fits_moved a k false by (pos m) room small p q = (λ n e. let less = p m refl in omega (arith, ints), λ n e. let less = p m refl in omega (arith, ints))
fits_moved a k false by (negsuc m) room small p q = (λ n e. let less = q m refl in omega (arith, ints), λ n e. let less = q m refl in omega (arith, ints))

fits_both : (w : ℕ) (z : ℤ) → Fits w z → ((n : ℕ) → z ≡ pos n → n < 2 ^ w) × ((n : ℕ) → z ≡ negsuc n → n < 2 ^ w)
fits_both w (pos m) h = (λ n e. omega (arith, ints), λ n e. absurd (omega (arith, ints)))
fits_both w (negsuc m) h = (λ n e. absurd (omega (arith, ints)), λ n e. omega (arith, ints))

both_fit : (w : ℕ) (z : ℤ) → ((n : ℕ) → z ≡ pos n → n < 2 ^ w) × ((n : ℕ) → z ≡ negsuc n → n < 2 ^ w) → Fits w z
both_fit w (pos m) h = h.0 m refl
both_fit w (negsuc m) h = h.1 m refl

-- the bits of a moved index hold the number, how far it is moved, and what it is moved to
record HasRoom (g : Scope) (e : Expr) (up : Bool) (by : ℕ) (z : ℤ) : Type 0 where
  width : ℕ
  bits : moved_width g e ≡ suc width
  number : Fits width z
  way : Fits width (pos by)
  result : Fits width (moved up by z)

room_narrow : (g : Scope) (e : Expr) (up : Bool) (by : ℕ) (z : ℤ) → by < 128 → Fits (shape g e).width z → (shape g e).width < 127 → HasRoom g e up by z
room_narrow g e up by z small own narrow =
    let w : ℕ = (shape g e).width in
    let k : ℕ = max (w + 1) 8 in
    let at_one : suc w ≤ k = omega arith in
    let at_eight : 8 ≤ k = omega arith in
    let one : 2 ^ suc w ≤ 2 ^ k = pow_mono at_one in
    let eight : 2 ^ 8 ≤ 2 ^ k = pow_mono at_eight in
    let twice : 2 ^ suc w ≡ 2 * 2 ^ w = pow-succ' 2 w in
    record {
      width = k;
      bits = omega arith;
      number = fits_more w k z (omega arith) own;
      way = omega arith;
      result = both_fit k (moved up by z) (fits_moved (2 ^ w) (2 ^ k) up by z (omega arith) small (fits_both w z own).0 (fits_both w z own).1);
    }

room_wide : (g : Scope) (e : Expr) (up : Bool) (by : ℕ) (z : ℤ) → by < 128 → IsSmall z → 127 ≤ (shape g e).width → HasRoom g e up by z
room_wide g e up by z small little wide = record {
  width = 127;
  bits = omega arith;
  number = fits_more 126 127 z (omega arith) little;
  way = omega arith;
  result = both_fit 127 (moved up by z) (fits_moved (2 ^ 126) (2 ^ 127) up by z (omega arith) small (fits_both 126 z little).0 (fits_both 126 z little).1);
}

has_room : (g : Scope) (e : Expr) (up : Bool) (by : ℕ) (z : ℤ) → IsNumber g e z → by < 128 → IsFit g e z → HasRoom g e up by z
has_room g e up by z h small fit = by_width (cases_lt (shape g e).width 127) fit
  where
    own : Fits (shape g e).width z
    own = subst (λ k. Fits k z) (width_of g e) (subst (Fits (length (bits_of g e))) (known_bits g e z h).1 (whole_fits (shape g e).signed (bits_of g e)))

    by_width : ((shape g e).width < 127) ⊎ (127 ≤ (shape g e).width) → IsFit g e z → HasRoom g e up by z
    by_width (inl narrow) f = room_narrow g e up by z small own narrow
    by_width (inr wide) (inl narrow) = absurd (omega arith)
    by_width (inr wide) (inr little) = room_wide g e up by z small little wide

-- the sum or difference in as many bits
sum_bits : (w : ℕ) (up : Bool) (by : ℕ) (z : ℤ) → Fits w z → Fits w (pos by) → extend (suc w) true (binary_value (if up then Add else Subtract) true (cut (suc w) z) (cut (suc w) (pos by))) ≡ cut (suc w) (moved up by z)
sum_bits w true by z p q = ap (extend (suc w) true) (arithmetic_cut ◌+ℤ◌ w z (pos by) p q) ∙ extend-cut (suc w) true (z +ℤ pos by)
sum_bits w false by z p q = ap (extend (suc w) true) (arithmetic_cut ◌-ℤ◌ w z (pos by) p q) ∙ extend-cut (suc w) true (z -ℤ pos by)

moved_value : (base : ℕ) (d : Design) (v : Values Bit) (g : Scope) (up : Bool) (by : ℕ) (e : Expr) (z : ℤ) → IsNumber g e z → by < 128 → IsFit g e z → (n : ℕ) → value d v (moved_term base g up by e n) ≡ cut (moved_width g e) (moved up by z)
moved_value base d v g up by e z h small fit n =
    let w : ℕ = moved_width g e in
    let room = has_room g e up by z h small fit in
    ap (λ a. extend w true (binary_value (if up then Add else Subtract) true a (extend w true (low_bits w by)))) (signed_value base d v g e z h fit w n) ∙
    (ap (λ b. extend w true (binary_value (if up then Add else Subtract) true (cut w z) b)) (extend-cut w true (pos by)) ∙
    subst (λ k. extend k true (binary_value (if up then Add else Subtract) true (cut k z) (cut k (pos by))) ≡ cut k (moved up by z)) (sym room.bits) (sum_bits room.width up by z room.number room.way))

moved_number : (g : Scope) (e : Expr) (up : Bool) (by : ℕ) (z : ℤ) → HasRoom g e up by z → index true (cut (moved_width g e) (moved up by z)) ≡ Some (moved up by z)
moved_number g e up by z room = subst (λ k. index true (cut k (moved up by z)) ≡ Some (moved up by z)) (sym room.bits) (index-cut room.width (moved up by z) room.result)

-- a number has no bits above its highest
no_bit : (b : Bit) (n : ℕ) → is_known b ≡ true → (if is_one b then 1 else 0) + 2 * n < 1 → b ≡ Zero
no_bit Zero n h l = refl
no_bit One n h l = absurd (omega arith)
no_bit X n h l = absurd (false≢true h)
no_bit Z n h l = absurd (false≢true h)

rest_below : (t : Bool) (n m : ℕ) → (if t then 1 else 0) + 2 * n < 2 * m → n < m
rest_below true n m h = omega arith
rest_below false n m h = omega arith

rest_none : (t : Bool) (n : ℕ) → (if t then 1 else 0) + 2 * n < 1 → n < 1
rest_none true n h = omega arith
rest_none false n h = omega arith

zero_at : (bs : List Bit) (k i : ℕ) → all_known bs ≡ true → natural bs < 2 ^ k → k ≤ i → slice_index_or bs i Zero ≡ Zero
zero_at [] k i h l m = refl
zero_at (b ∷ bs) zero zero h l m = no_bit b (natural bs) (and_parts (is_known b) (all_known bs) h).0 l
zero_at (b ∷ bs) zero (suc i) h l m = zero_at bs zero i (and_parts (is_known b) (all_known bs) h).1 (rest_none (is_one b) (natural bs) l) (omega arith)
zero_at (b ∷ bs) (suc k) zero h l m = absurd (omega arith)
zero_at (b ∷ bs) (suc k) (suc i) h l m = zero_at bs k i (and_parts (is_known b) (all_known bs) h).1 (rest_below (is_one b) (natural bs) (2 ^ k) (rw pow-succ' at l)) (omega arith)

zeros : (f : ℕ → Bit) → ((j : ℕ) → f j ≡ Zero) → (js : List ℕ) → (all_known (map f js) ≡ true) × (natural (map f js) ≡ 0)
zeros f h [] = (refl, refl)
zeros f h (j ∷ js) = let r = zeros f h js in (rw (h j) r.0, rw (h j, r.1) refl)

-- so the highest of 128 bits is 0
highest_value : (base : ℕ) (d : Design) (v : Values Bit) (g : Scope) (e : Expr) (z : ℤ) → IsNumber g e z → natural (bits_of g e) < 2 ^ 127 → (n : ℕ) → truth (value d v (highest_bit base g e n)) ≡ False
highest_value base d v g e z h small n =
    let bs : List Bit = bits_of g e in
    let zero = zeros (λ j. slice_index_or bs (j + 127) Zero) (λ j. zero_at bs 127 (j + 127) (known_bits g e z h).0 small (omega arith)) (range_with_len 0 (length bs)) in
    ap (λ cs. truth (extend 128 false (shift_right Zero cs (extend 8 false (low_bits 8 127))))) (alone_value base d v g e z h n) ∙
    (ap truth (extend_known 128 false (map (λ j. slice_index_or bs (j + 127) Zero) (range_with_len 0 (length bs))) zero.0) ∙ ap (λ k. truth (low_bits 128 k)) zero.1)

-- the base moved up or down
pub moved_index_number : (base : ℕ) (d : Design) (v : Values Bit) (g : Scope) (up : Bool) (by : ℕ) (e : Expr) (z : ℤ) → IsNumber g e z → by < 128 → IsFit g e z → (n : ℕ) →
    index (head (moved_index base g up by e n)).signed (value d v (moved_index base g up by e n)) ≡ Some (moved up by z)
moved_index_number base d v g up by e z h small fit n = by_way (nat_lt (shape g e).width 128) (shape g e).signed refl refl fit
  where
    room : HasRoom g e up by z
    room = has_room g e up by z h small fit

    plain : value d v (moved_term base g up by e n) ≡ cut (moved_width g e) (moved up by z)
    plain = moved_value base d v g up by e z h small fit n

    by_term : index true (value d v (moved_term base g up by e n)) ≡ Some (moved up by z)
    by_term = ap (index true) plain ∙ moved_number g e up by z room

    guarded : 128 ≤ (shape g e).width → natural (bits_of g e) < 2 ^ 127 → index true (value d v (guarded_term base g e n (moved_term base g up by e n))) ≡ Some (moved up by z)
    guarded wide little =
        let all : moved_width g e ≡ 128 = omega arith in
        ap (λ t. index true (extend 128 true (choice_value t (extend 128 true (fill 128 X)) (value d v (moved_term base g up by e n))))) (highest_value base d v g e z h little n) ∙
        (ap (λ bs. index true (extend 128 true bs)) (plain ∙ ap (λ k. cut k (moved up by z)) all) ∙
        (ap (index true) (extend-cut 128 true (moved up by z)) ∙ subst (λ k. index true (cut k (moved up by z)) ≡ Some (moved up by z)) all (moved_number g e up by z room)))

    by_way : (narrow signed : Bool) → nat_lt (shape g e).width 128 ≡ narrow → (shape g e).signed ≡ signed → IsFit g e z →
        index (head (if narrow || signed then moved_term base g up by e n else guarded_term base g e n (moved_term base g up by e n))).signed (value d v (if narrow || signed then moved_term base g up by e n else guarded_term base g e n (moved_term base g up by e n))) ≡ Some (moved up by z)
    by_way true signed a b f = by_term
    by_way false true a b f = by_term
    by_way false false a b (inl narrow) = let wide : 128 ≤ (shape g e).width = ltb-false _ _ a in absurd (omega arith)
    by_way false false a b (inr little) =
        let n : z ≡ pos (natural (bits_of g e)) = unsigned_number (shape g e).signed (bits_of g e) z b (known_bits g e z h).1 in
        let less : natural (bits_of g e) < 2 ^ 126 = subst IsSmall n little in
        guarded (ltb-false _ _ a) (omega arith)
