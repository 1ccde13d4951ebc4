-- The operators with two operands on partly known vectors.
use Rattle.std.proofs.Common.{◌≡◌, ℕ, zero, suc, Bool, true, false, not, ◌&&◌, List, [], ◌∷◌, length, replicate, Option, None, refl, ap, sym, subst, ◌∙◌}
use Rattle.std.specs.Prelude.{IsTrue}
use Rattle.std.specs.Bool.{OnTrue}
use Rattle.std.proofs.lemmas.Bool.{and_parts}
use Rattle.four_state.specs.declared.bit.Bit.{Bit}
use Rattle.four_state.specs.declared.bit.Bit.TheVariants.{Zero, One, X}
use Rattle.four_state.specs.declared.operator.Binary.{Binary}
use Rattle.four_state.specs.declared.operator.Binary.TheVariants.{ShiftLeft, ShiftRight, ArithmeticShiftLeft, ArithmeticShiftRight}
use Rattle.four_state.specs.Vector.{Vector, all_known}
use Rattle.four_state.specs.Operators.{binary_value, binary_vector, binary_keeps_sign, takes_same_shape, SameShape}
use Rattle.known_state.specs.Partly.{Partly, allows, allows_bits, same_sign, filled, filled_from, are_sure, is_whole, whole_of, with_blame}
use Rattle.known_state.specs.Join.{joined}
use Rattle.known_state.specs.Agreed.{sure, both_moved, both_agreed}
use Rattle.known_state.specs.Answers.{IsTight, allow_both, HaveSameShape, is_shift}
use Rattle.known_state.proofs.Bits.{length-filled_from}
use Rattle.known_state.proofs.Allowed.{length-allowed, length-filled, joined_same, whole_filled, sure_filled, sure_filled_from, are_sure_whole, filled_allowed, filled_from_allowed, same_sign_refl, same_sign_eq}
use Rattle.known_state.proofs.Tight.{IsReached, reached-whole, reached-joined}
use Rattle.known_state.proofs.Cases.{both_true}
use Rattle.known_state.proofs.Pairs.{length-both_moved, length-mixed, length-strange}
use Rattle.known_state.proofs.UnarySound.{length-whole, blame_of-whole}
use Rattle.known_state.proofs.Widths.{width_after, length-binary_value}
use Rattle.known_state.proofs.BinarySound.{binary_sound}

pub on_true : (b : Bool) (P : Type 0) → OnTrue b P → b ≡ true → P
on_true true P h e = h
on_true false P h e = cc

pub as_on_true : (b : Bool) (P : Type 0) → (b ≡ true → P) → OnTrue b P
as_on_true true P h = h refl
as_on_true false P h = tt

-- ---- values of two operands

pub vector_allowed : (k : Partly) (bs : List Bit) → allows_bits k.bits bs ≡ true → IsTrue (allows k (record { bits = bs; signed = k.signed }))
vector_allowed k bs h = both_true _ _ (same_sign_refl k.signed) h

pub pair_allowed : (a b : Partly) (bs cs : List Bit) → allows_bits a.bits bs ≡ true → allows_bits b.bits cs ≡ true → IsTrue (allow_both a b (record { bits = bs; signed = a.signed }, record { bits = cs; signed = b.signed }))
pair_allowed a b bs cs h k = both_true _ _ (vector_allowed a bs h) (vector_allowed b cs k)

-- the answers of such operands by an operation on their bits
module _ (f : List Bit → List Bit → List Bit) (a b : Partly) (answer : Vector × Vector → List Bit) (is : (p : Vector × Vector) → IsTrue (allow_both a b p) → answer p ≡ f p.0.bits p.1.bits) (w : ℕ) (width : (bs cs : List Bit) → length bs ≡ length a.bits → length cs ≡ length b.bits → length (f bs cs) ≡ w) where
  at : (bs cs : List Bit) → allows_bits a.bits bs ≡ true → allows_bits b.bits cs ≡ true → IsReached (allow_both a b) answer (sure (f bs cs))
  at bs cs h k =
      let p : Vector × Vector = (record { bits = bs; signed = a.signed }, record { bits = cs; signed = b.signed }) in
      let allowed = pair_allowed a b bs cs h k in
      subst (λ xs. IsReached (allow_both a b) answer (sure xs)) (is p allowed) (reached-whole (allow_both a b) answer p allowed)

  filled_at : (c d : Bit) → IsReached (allow_both a b) answer (sure (f (filled c a.bits) (filled d b.bits)))
  filled_at c d = at (filled c a.bits) (filled d b.bits) (filled_allowed c a.bits) (filled_allowed d b.bits)

  filled_width : (c d : Bit) → length (sure (f (filled c a.bits) (filled d b.bits))) ≡ w
  filled_width c d = length-whole _ ∙ width (filled c a.bits) (filled d b.bits) (length-filled c a.bits) (length-filled d b.bits)

  crossed_width : length (sure (f (filled_from a.bits (filled Zero b.bits)) (filled_from b.bits (filled Zero a.bits)))) ≡ w
  crossed_width = length-whole _ ∙ width _ _ (length-filled_from a.bits (filled Zero b.bits)) (length-filled_from b.bits (filled Zero a.bits))

  pub moved_reached : IsReached (allow_both a b) answer (both_moved f a.bits b.bits)
  moved_reached = reached-joined (allow_both a b) answer _ _ (filled_width Zero Zero ∙ sym (filled_width One One)) (filled_at Zero Zero) (filled_at One One)

  pub agreed_reached : IsReached (allow_both a b) answer (both_agreed f a.bits b.bits)
  agreed_reached =
      reached-joined (allow_both a b) answer _ _ (length-strange f a.bits b.bits w width ∙ sym crossed_width)
      (reached-joined (allow_both a b) answer _ _ (length-mixed f a.bits b.bits w width ∙ sym (filled_width X X))
      (reached-joined (allow_both a b) answer _ _ (length-both_moved f a.bits b.bits w width ∙ sym (filled_width Zero One)) moved_reached (filled_at Zero One))
      (filled_at X X))
      (at _ _ (filled_from_allowed a.bits (filled Zero b.bits)) (filled_from_allowed b.bits (filled Zero a.bits)))

-- ---- operands that are sure whole

pub both_agreed_whole : (f : List Bit → List Bit → List Bit) (ps qs : List (Option Bit)) → are_sure ps ≡ true → are_sure qs ≡ true → both_agreed f ps qs ≡ sure (f (filled Zero ps) (filled Zero qs))
both_agreed_whole f ps qs h k =
    rw (sure_filled_from Zero ps (filled Zero qs) h, sure_filled_from Zero qs (filled Zero ps) k, sure_filled One Zero ps h, sure_filled One Zero qs k, sure_filled X Zero ps h, sure_filled X Zero qs k, joined_same (f (filled Zero ps) (filled Zero qs)), joined_same (f (filled Zero ps) (filled Zero qs)), joined_same (f (filled Zero ps) (filled Zero qs))) (joined_same (f (filled Zero ps) (filled Zero qs)))

pub whole_with_blame : (bs : List Bit) (s : Bool) (thing : ℕ) → with_blame (sure bs) s thing ≡ record { bits = sure bs; signed = s; blame = 0 }
whole_with_blame bs s thing = ap (λ n. record { bits = sure bs; signed = s; blame = n }) (blame_of-whole bs thing)

pub whole_parts : (k : Partly) (v : Vector) → k ≡ whole_of v → (are_sure k.bits ≡ true) × (filled Zero k.bits ≡ v.bits) × (k.signed ≡ v.signed)
whole_parts k v e =
    (ap (λ (x : Partly). are_sure x.bits) e ∙ are_sure_whole v.bits, ap (λ (x : Partly). filled Zero x.bits) e ∙ whole_filled Zero v.bits, ap (λ (x : Partly). x.signed) e)

pub not_whole : (k : Partly) (v : Vector) → is_whole k ≡ false → k ≡ whole_of v → {A : Type 0} → A
not_whole k v h e = let bad : true ≡ false = sym (whole_parts k v e).0 ∙ h in cc

-- ---- shifts

shift_keeps : (op : Binary) → is_shift op ≡ true → binary_keeps_sign op ≡ true
shift_keeps ShiftLeft h = refl
shift_keeps ShiftRight h = refl
shift_keeps ArithmeticShiftLeft h = refl
shift_keeps ArithmeticShiftRight h = refl
shift_keeps _ h = cc

pub unknown_allows : (w : ℕ) (bs : List Bit) → length bs ≡ w → allows_bits (replicate w None) bs ≡ true
unknown_allows zero [] e = refl
unknown_allows zero (b ∷ bs) e = cc
unknown_allows (suc w) [] e = cc
unknown_allows (suc w) (b ∷ bs) e = unknown_allows w bs (cc)

can_shift_if : (shifts sure known : Bool) → (shifts && (not sure && known)) ≡ false → shifts ≡ true → known ≡ true → sure ≡ true
can_shift_if true true k h e d = refl
can_shift_if true false true h e d = cc
can_shift_if true false false h e d = cc
can_shift_if false t k h e d = cc

unsure_shift_if : (shifts sure known : Bool) → (shifts && (not sure && known)) ≡ true → (shifts ≡ true) × (sure ≡ false)
unsure_shift_if true false k h = (refl, refl)
unsure_shift_if true true k h = cc
unsure_shift_if false t k h = cc

pub can_shift : (op : Binary) (k : Partly) → (is_shift op && (not (is_whole k) && all_known (filled Zero k.bits))) ≡ false → is_shift op ≡ true → all_known (filled Zero k.bits) ≡ true → are_sure k.bits ≡ true
can_shift op k h = can_shift_if (is_shift op) (is_whole k) (all_known (filled Zero k.bits)) h

pub unsure_shift : (op : Binary) (k : Partly) → (is_shift op && (not (is_whole k) && all_known (filled Zero k.bits))) ≡ true → (is_shift op ≡ true) × (is_whole k ≡ false)
unsure_shift op k h = unsure_shift_if (is_shift op) (is_whole k) (all_known (filled Zero k.bits)) h

-- ---- the operators

module _ (op : Binary) (a b : Partly) (shape : OnTrue (takes_same_shape op) (HaveSameShape a b)) where
  same : takes_same_shape op ≡ true → length a.bits ≡ length b.bits
  same t = (on_true (takes_same_shape op) (HaveSameShape a b) shape t).0

  pub filled_shape : (bs cs : List Bit) → length bs ≡ length a.bits → length cs ≡ length b.bits → OnTrue (takes_same_shape op) (SameShape (record { bits = bs; signed = a.signed }) (record { bits = cs; signed = b.signed }))
  filled_shape bs cs e d =
      as_on_true (takes_same_shape op) _ (λ t. let both = on_true (takes_same_shape op) (HaveSameShape a b) shape t in (e ∙ both.0 ∙ sym d, both.1))

  width : (bs cs : List Bit) → length bs ≡ length a.bits → length cs ≡ length b.bits → length (binary_value op a.signed bs cs) ≡ width_after (binary_keeps_sign op) (length a.bits)
  width bs cs e d = length-binary_value op a.signed bs cs (λ t. e ∙ same t ∙ sym d) ∙ ap (width_after (binary_keeps_sign op)) e

  pub binary_allows : (is_shift op ≡ true → all_known (filled Zero b.bits) ≡ true → are_sure b.bits ≡ true) → (thing : ℕ) (v w : Vector) → IsTrue (allows a v) → IsTrue (allows b w) → IsTrue (allows (with_blame (both_agreed (binary_value op a.signed) a.bits b.bits) (binary_keeps_sign op && a.signed) thing) (binary_vector op v w))
  binary_allows can thing v w h k =
      let left = and_parts (same_sign a.signed v.signed) (allows_bits a.bits v.bits) h in
      let right = and_parts (same_sign b.signed w.signed) (allows_bits b.bits w.bits) k in
      subst (λ s. IsTrue (allows (with_blame (both_agreed (binary_value op a.signed) a.bits b.bits) (binary_keeps_sign op && a.signed) thing) (record { bits = binary_value op s v.bits w.bits; signed = binary_keeps_sign op && s }))) (same_sign_eq a.signed v.signed left.0)
      (both_true _ _ (same_sign_refl (binary_keeps_sign op && a.signed)) (binary_sound a.signed a.bits b.bits v.bits w.bits left.1 right.1 op same can))

  pub binary_tight : IsTight (allow_both a b) (λ p. binary_value op p.0.signed p.0.bits p.1.bits) (both_agreed (binary_value op a.signed) a.bits b.bits)
  binary_tight =
      (agreed_reached (binary_value op a.signed) a b (λ p. binary_value op p.0.signed p.0.bits p.1.bits) (λ p h. ap (λ s. binary_value op s p.0.bits p.1.bits) (sym (same_sign_eq a.signed p.0.signed (and_parts _ _ (and_parts (allows a p.0) (allows b p.1) h).0).0))) (width_after (binary_keeps_sign op) (length a.bits)) width).tight

  pub binary_whole : (thing : ℕ) → is_whole a ≡ true → is_whole b ≡ true → whole_of (binary_vector op (record { bits = filled Zero a.bits; signed = a.signed }) (record { bits = filled Zero b.bits; signed = b.signed })) ≡ with_blame (both_agreed (binary_value op a.signed) a.bits b.bits) (binary_keeps_sign op && a.signed) thing
  binary_whole thing h k =
      sym (ap (λ ps. with_blame ps (binary_keeps_sign op && a.signed) thing) (both_agreed_whole (binary_value op a.signed) a.bits b.bits h k) ∙ whole_with_blame _ _ thing)

  pub binary_exact : (thing : ℕ) (v w : Vector) → a ≡ whole_of v → b ≡ whole_of w → with_blame (both_agreed (binary_value op a.signed) a.bits b.bits) (binary_keeps_sign op && a.signed) thing ≡ whole_of (binary_vector op v w)
  binary_exact thing v w e d =
      let left = whole_parts a v e in
      let right = whole_parts b w d in
      sym (binary_whole thing left.0 right.0) ∙ rw (left.1, left.2, right.1)

  pub binary_widths : (c d : Bit) → length (binary_value op a.signed (filled c a.bits) (filled d b.bits)) ≡ width_after (binary_keeps_sign op) (length a.bits)
  binary_widths c d = width (filled c a.bits) (filled d b.bits) (length-filled c a.bits) (length-filled d b.bits)

  pub binary_crossed_width : length (binary_value op a.signed (filled_from a.bits (filled Zero b.bits)) (filled_from b.bits (filled Zero a.bits))) ≡ width_after (binary_keeps_sign op) (length a.bits)
  binary_crossed_width = width _ _ (length-filled_from a.bits (filled Zero b.bits)) (length-filled_from b.bits (filled Zero a.bits))

  pub binary_moved_width : length (both_moved (binary_value op a.signed) a.bits b.bits) ≡ width_after (binary_keeps_sign op) (length a.bits)
  binary_moved_width = length-both_moved (binary_value op a.signed) a.bits b.bits _ width

  pub binary_mixed_width : length (joined (both_moved (binary_value op a.signed) a.bits b.bits) (sure (binary_value op a.signed (filled Zero a.bits) (filled One b.bits)))) ≡ width_after (binary_keeps_sign op) (length a.bits)
  binary_mixed_width = length-mixed (binary_value op a.signed) a.bits b.bits _ width

  pub binary_strange_width : length (joined (joined (both_moved (binary_value op a.signed) a.bits b.bits) (sure (binary_value op a.signed (filled Zero a.bits) (filled One b.bits)))) (sure (binary_value op a.signed (filled X a.bits) (filled X b.bits)))) ≡ width_after (binary_keeps_sign op) (length a.bits)
  binary_strange_width = length-strange (binary_value op a.signed) a.bits b.bits _ width

  -- a shift by an amount that is not sure
  pub unknown_shift_allows : is_shift op ≡ true → (thing : ℕ) (v w : Vector) → IsTrue (allows a v) → IsTrue (allows b w) → IsTrue (allows (record { bits = replicate (length a.bits) None; signed = a.signed; blame = thing }) (binary_vector op v w))
  unknown_shift_allows shifts thing v w h k =
      let left = and_parts (same_sign a.signed v.signed) (allows_bits a.bits v.bits) h in
      let right = and_parts (same_sign b.signed w.signed) (allows_bits b.bits w.bits) k in
      let keeps = shift_keeps op shifts in
      let sign = same_sign_eq a.signed v.signed left.0 in
      both_true _ _ (rw (keeps, ← sign) (same_sign_refl a.signed)) (unknown_allows (length a.bits) (binary_value op v.signed v.bits w.bits) (rw (← sign) (width v.bits w.bits (sym (length-allowed a.bits v.bits left.1)) (sym (length-allowed b.bits w.bits right.1)) ∙ ap (λ t. width_after t (length a.bits)) keeps)))
