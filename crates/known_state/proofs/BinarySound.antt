-- What an operator with two operands gives for a few values of the bits that are not sure is so for all.
use Rattle.std.proofs.Common.{◌≡◌, ℕ, Bool, true, false, not, if◌then◌else◌, List, length, Option, ◌+ℤ◌, ◌-ℤ◌, ◌*ℤ◌, refl, ap, sym, ◌∙◌}
use Rattle.std.specs.Prelude.{int_div, int_rem, int_lt, int_le}
use Rattle.four_state.specs.declared.bit.Bit.{Bit}
use Rattle.four_state.specs.declared.bit.Bit.TheVariants.{Zero, One, X}
use Rattle.four_state.specs.declared.truth.Truth.{Truth}
use Rattle.four_state.specs.declared.operator.Binary.{Binary}
use Rattle.four_state.specs.declared.operator.Binary.TheVariants.{Multiply, Divide, Modulus, Add, Subtract, ShiftLeft, ShiftRight, ArithmeticShiftLeft, ArithmeticShiftRight, LessThan, LessOrEqual, GreaterThan, GreaterOrEqual, Equal, NotEqual, CaseEqual, CaseNotEqual, BitwiseAnd, BitwiseXor, BitwiseXnor, BitwiseNxor, BitwiseOr, LogicalAnd, LogicalOr}
use Rattle.four_state.specs.Vector.{all_known, bit_of, top, truth, truth_bit, same_bit, same_bits}
use Rattle.four_state.specs.Operators.{not_bit, and_bit, or_bit, xor_bit, equal, binary_value, binary_keeps_sign, takes_same_shape}
use Rattle.known_state.specs.Partly.{allows_bits, filled, are_sure}
use Rattle.known_state.specs.Agreed.{both_agreed}
use Rattle.known_state.specs.Answers.{is_shift}
use Rattle.known_state.proofs.Allowed.{length-allowed}
use Rattle.known_state.proofs.Cases.{implies, implied, same_bit_eq, same_bit_of}
use Rattle.known_state.proofs.Pairs.{both_agreed_sound, one_bit_agreed, zip_sound, zip_not_sound}
use Rattle.known_state.proofs.Strict.{IsStrict, strict_place}
use Rattle.known_state.proofs.PairStrict.{arithmetic_strict, relation_strict, division_strict}
use Rattle.known_state.proofs.Truths.{truths, truths_hold, each_truths}
use Rattle.known_state.proofs.Equalities.{equal_agrees, unequal_agrees, exact_agrees}
use Rattle.known_state.proofs.Shifted.{left_sound, right_sound, moved_filler}
use Rattle.known_state.proofs.Widths.{width_after, length-binary_value}

-- the truths of two operands
abbrev logic_agrees : (Bit → Bit → Bit) → Truth → Truth → Truth → Truth → Truth → Truth → Truth → Truth → Bool
logic_agrees f t0 t1 tx t u0 u1 ux u =
    implies (same_bit (f (truth_bit t0) (truth_bit u0)) (f (truth_bit t1) (truth_bit u1))) (implies (same_bit (f (truth_bit t0) (truth_bit u0)) (f (truth_bit tx) (truth_bit ux))) (same_bit (f (truth_bit t0) (truth_bit u0)) (f (truth_bit t) (truth_bit u))))

abbrev each_logic : (Bit → Bit → Bit) → Bool
each_logic f = each_truths (λ t0 t1 tx t. each_truths (λ u0 u1 ux u. logic_agrees f t0 t1 tx t u0 u1 ux u))

and_logic : each_logic and_bit ≡ true
and_logic = refl

or_logic : each_logic or_bit ≡ true
or_logic = refl

-- `&&` and `||`
logic_sound : (f : Bit → Bit → Bit) → each_logic f ≡ true → (ps qs : List (Option Bit)) (bs cs : List Bit) → allows_bits ps bs ≡ true → allows_bits qs cs ≡ true → (b : Bit) → f (truth_bit (truth (filled Zero ps))) (truth_bit (truth (filled Zero qs))) ≡ b → f (truth_bit (truth (filled One ps))) (truth_bit (truth (filled One qs))) ≡ b → f (truth_bit (truth (filled X ps))) (truth_bit (truth (filled X qs))) ≡ b → f (truth_bit (truth bs)) (truth_bit (truth cs)) ≡ b
logic_sound f holds ps qs bs cs h k b p q r =
    let all : logic_agrees f (truth (filled Zero ps)) (truth (filled One ps)) (truth (filled X ps)) (truth bs) (truth (filled Zero qs)) (truth (filled One qs)) (truth (filled X qs)) (truth cs) ≡ true = truths_hold (λ u0 u1 ux u. logic_agrees f (truth (filled Zero ps)) (truth (filled One ps)) (truth (filled X ps)) (truth bs) u0 u1 ux u) (truths_hold (λ t0 t1 tx t. each_truths (λ u0 u1 ux u. logic_agrees f t0 t1 tx t u0 u1 ux u)) holds (truths ps bs h)) (truths qs cs k) in
    sym (same_bit_eq _ _ (implied _ _ (implied _ _ all (same_bit_of _ _ (p ∙ sym q))) (same_bit_of _ _ (p ∙ sym r)))) ∙ p

bit_of_one : (s t : Bool) → bit_of s ≡ bit_of t → s ≡ t
bit_of_one false false h = refl
bit_of_one true true h = refl
bit_of_one false true h = cc
bit_of_one true false h = cc

not_one : (s t : Bool) → bit_of (not s) ≡ bit_of (not t) → s ≡ t
not_one false false h = refl
not_one true true h = refl
not_one false true h = cc
not_one true false h = cc

module _ (s : Bool) (ps qs : List (Option Bit)) (bs cs : List Bit) (h : allows_bits ps bs ≡ true) (k : allows_bits qs cs ≡ true) where
  by_strict : (op : Binary) (w : ℕ) → (takes_same_shape op ≡ true → length ps ≡ length qs) → width_after (binary_keeps_sign op) (length ps) ≡ w → IsStrict w (binary_value op s (filled One ps) (filled One qs)) (binary_value op s (filled X ps) (filled X qs)) (binary_value op s bs cs) → allows_bits (both_agreed (binary_value op s) ps qs) (binary_value op s bs cs) ≡ true
  by_strict op w same keeps strict =
      both_agreed_sound (binary_value op s) ps qs w (λ xs ys e d. length-binary_value op s xs ys (λ t. e ∙ same t ∙ sym d) ∙ ap (width_after (binary_keeps_sign op)) e ∙ keeps) bs cs h k (λ i b l r. strict_place w _ _ _ i b strict l r.of_ones r.of_strange)

  by_number : (op : Binary) → (takes_same_shape op ≡ true → length ps ≡ length qs) → width_after (binary_keeps_sign op) (length ps) ≡ length ps → IsStrict (length bs) (binary_value op s (filled One ps) (filled One qs)) (binary_value op s (filled X ps) (filled X qs)) (binary_value op s bs cs) → allows_bits (both_agreed (binary_value op s) ps qs) (binary_value op s bs cs) ≡ true
  by_number op same keeps strict = by_strict op (length bs) same (keeps ∙ length-allowed ps bs h) strict

  pub binary_sound : (op : Binary) → (takes_same_shape op ≡ true → length ps ≡ length qs) → (is_shift op ≡ true → all_known (filled Zero qs) ≡ true → are_sure qs ≡ true) → allows_bits (both_agreed (binary_value op s) ps qs) (binary_value op s bs cs) ≡ true
  binary_sound Multiply same can = by_number Multiply same refl (arithmetic_strict ps qs bs cs h k ◌*ℤ◌ s)
  binary_sound Divide same can = by_number Divide same refl (division_strict int_div s ps qs bs cs h k)
  binary_sound Modulus same can = by_number Modulus same refl (division_strict int_rem s ps qs bs cs h k)
  binary_sound Add same can = by_number Add same refl (arithmetic_strict ps qs bs cs h k ◌+ℤ◌ s)
  binary_sound Subtract same can = by_number Subtract same refl (arithmetic_strict ps qs bs cs h k ◌-ℤ◌ s)
  binary_sound ShiftLeft same can = left_sound ps qs bs cs h k (can refl)
  binary_sound ShiftRight same can = right_sound ps qs bs cs h k (can refl) (λ xs. Zero) (λ b p q. p)
  binary_sound ArithmeticShiftLeft same can = left_sound ps qs bs cs h k (can refl)
  binary_sound ArithmeticShiftRight same can = right_sound ps qs bs cs h k (can refl) (λ xs. if s then top xs else Zero) (λ b p q. moved_filler s ps bs b h p q)
  binary_sound LessThan same can = by_strict LessThan 1 same refl (relation_strict ps qs bs cs h k int_lt s)
  binary_sound LessOrEqual same can = by_strict LessOrEqual 1 same refl (relation_strict ps qs bs cs h k int_le s)
  binary_sound GreaterThan same can = by_strict GreaterThan 1 same refl (relation_strict qs ps cs bs k h int_lt s)
  binary_sound GreaterOrEqual same can = by_strict GreaterOrEqual 1 same refl (relation_strict qs ps cs bs k h int_le s)
  binary_sound Equal same can = one_bit_agreed equal ps qs bs cs h k (λ b p q r x c. equal_agrees ps qs bs cs (same refl) h k b p q r x)
  binary_sound NotEqual same can = one_bit_agreed (λ xs ys. not_bit (equal xs ys)) ps qs bs cs h k (λ b p q r x c. unequal_agrees ps qs bs cs (same refl) h k b p q r x)
  binary_sound CaseEqual same can = one_bit_agreed (λ xs ys. bit_of (same_bits xs ys)) ps qs bs cs h k (λ b p q r x c. exact_agrees bit_of bit_of_one ps qs bs cs (same refl) h k b p q r c)
  binary_sound CaseNotEqual same can = one_bit_agreed (λ xs ys. bit_of (not (same_bits xs ys))) ps qs bs cs h k (λ b p q r x c. exact_agrees (λ t. bit_of (not t)) not_one ps qs bs cs (same refl) h k b p q r c)
  binary_sound BitwiseAnd same can = zip_sound ps qs bs cs (same refl) h k and_bit refl
  binary_sound BitwiseXor same can = zip_sound ps qs bs cs (same refl) h k xor_bit refl
  binary_sound BitwiseXnor same can = zip_not_sound ps qs bs cs (same refl) h k xor_bit refl
  binary_sound BitwiseNxor same can = zip_not_sound ps qs bs cs (same refl) h k xor_bit refl
  binary_sound BitwiseOr same can = zip_sound ps qs bs cs (same refl) h k or_bit refl
  binary_sound LogicalAnd same can = one_bit_agreed (λ xs ys. and_bit (truth_bit (truth xs)) (truth_bit (truth ys))) ps qs bs cs h k (λ b p q r x c. logic_sound and_bit and_logic ps qs bs cs h k b p q x)
  binary_sound LogicalOr same can = one_bit_agreed (λ xs ys. or_bit (truth_bit (truth xs)) (truth_bit (truth ys))) ps qs bs cs h k (λ b p q r x c. logic_sound or_bit or_logic ps qs bs cs h k b p q x)
