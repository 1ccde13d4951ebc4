-- How many bits each operator gives.
use Rattle.std.proofs.Common.{◌≡◌, ℕ, zero, suc, ◌+◌, ◌-◌, ◌/◌, nat_lt, Bool, true, false, if◌then◌else◌, List, [], ◌∷◌, ◌++◌, length, ℤ, pos, negsuc, ◌+ℤ◌, ◌-ℤ◌, ◌*ℤ◌, refl, ap, ◌∙◌}
use Rattle.std.specs.Prelude.{slice_index_or, int_div, int_rem, int_lt, int_le}
use Rattle.std.proofs.lemmas.List.{length-map, length-replicate}
use Rattle.std.proofs.lemmas.List.FromFn.{length-map-range_with_len}
use Rattle.four_state.specs.declared.bit.Bit.{Bit}
use Rattle.four_state.specs.declared.bit.Bit.TheVariants.{Zero, X}
use Rattle.four_state.specs.declared.operator.Unary.{Unary}
use Rattle.four_state.specs.declared.operator.Unary.TheVariants.{Positive, Negative, LogicalNot, BitwiseNot, ReduceAnd, ReduceNand, ReduceOr, ReduceNor, ReduceXor, ReduceXnor, ReduceNxor}
use Rattle.four_state.specs.declared.operator.Binary.{Binary}
use Rattle.four_state.specs.declared.operator.Binary.TheVariants.{Multiply, Divide, Modulus, Add, Subtract, ShiftLeft, ShiftRight, ArithmeticShiftLeft, ArithmeticShiftRight, LessThan, LessOrEqual, GreaterThan, GreaterOrEqual, Equal, NotEqual, CaseEqual, CaseNotEqual, BitwiseAnd, BitwiseXor, BitwiseXnor, BitwiseNxor, BitwiseOr, LogicalAnd, LogicalOr}
use Rattle.four_state.specs.Vector.{all_known, bit_of, fill, top}
use Rattle.four_state.specs.Arithmetic.{not_bit, low_bits, cut, if_known, whole, natural, is_natural_zero, arithmetic, division, relation, shift, shift_left, shift_right}
use Rattle.four_state.specs.Operators.{unary_value, binary_value, unary_keeps_sign, binary_keeps_sign, takes_same_shape, zip_bits, and_bit, or_bit, xor_bit}

pub length-low_bits : (w n : ℕ) → length (low_bits w n) ≡ w
length-low_bits zero n = refl
length-low_bits (suc w) n = ap suc (length-low_bits w (n / 2))

pub length-cut : (w : ℕ) (z : ℤ) → length (cut w z) ≡ w
length-cut w (pos n) = length-low_bits w n
length-cut w (negsuc n) = length-map (low_bits w n) not_bit ∙ length-low_bits w n

length-if : (p : Bool) (w : ℕ) (bs cs : List Bit) → length bs ≡ w → length cs ≡ w → length (if p then bs else cs) ≡ w
length-if false w bs cs e f = f
length-if true w bs cs e f = e

pub length-if_known : (operands : List Bit) (w : ℕ) (bs : List Bit) → length bs ≡ w → length (if_known operands w bs) ≡ w
length-if_known operands w bs e = length-if (all_known operands) w bs (fill w X) e (length-replicate w X)

pub length-zip_bits : (f : Bit → Bit → Bit) (bs cs : List Bit) → length bs ≡ length cs → length (zip_bits f bs cs) ≡ length bs
length-zip_bits f [] cs e = refl
length-zip_bits f (b ∷ bs) [] e = cc
length-zip_bits f (b ∷ bs) (c ∷ cs) e = ap suc (length-zip_bits f bs cs (cc))

length-shift : (f : ℕ → ℕ → Bit) (bs cs : List Bit) → length (shift f bs cs) ≡ length bs
length-shift f bs cs = length-if_known cs (length bs) _ (length-map-range_with_len (f (natural cs)) 0 (length bs))

pub length-shift_left : (bs cs : List Bit) → length (shift_left bs cs) ≡ length bs
length-shift_left bs cs = length-shift (λ n j. if nat_lt j n then Zero else slice_index_or bs (j - n) Zero) bs cs

pub length-shift_right : (filler : Bit) (bs cs : List Bit) → length (shift_right filler bs cs) ≡ length bs
length-shift_right filler bs cs = length-shift (λ n j. slice_index_or bs (j + n) filler) bs cs

-- the operators that keep the sign give as many bits as the left operand has, the others give one
abbrev pub width_after : Bool → ℕ → ℕ
width_after keeps w = if keeps then w else 1

pub length-unary_value : (op : Unary) (bs : List Bit) → length (unary_value op bs) ≡ width_after (unary_keeps_sign op) (length bs)
length-unary_value Positive bs = length-if_known bs (length bs) bs refl
length-unary_value Negative bs = length-if_known bs (length bs) _ (length-cut (length bs) _)
length-unary_value LogicalNot bs = refl
length-unary_value BitwiseNot bs = length-map bs not_bit
length-unary_value ReduceAnd bs = refl
length-unary_value ReduceNand bs = refl
length-unary_value ReduceOr bs = refl
length-unary_value ReduceNor bs = refl
length-unary_value ReduceXor bs = refl
length-unary_value ReduceXnor bs = refl
length-unary_value ReduceNxor bs = refl

length-arithmetic : (f : ℤ → ℤ → ℤ) (s : Bool) (bs cs : List Bit) → length (arithmetic f s bs cs) ≡ length bs
length-arithmetic f s bs cs = length-if_known (bs ++ cs) (length bs) _ (length-cut (length bs) (f (whole s bs) (whole s cs)))

length-division : (f : ℤ → ℤ → ℤ) (s : Bool) (bs cs : List Bit) → length (division f s bs cs) ≡ length bs
length-division f s bs cs =
    length-if (is_natural_zero (whole s cs)) (length bs) (fill (length bs) X) (arithmetic f s bs cs) (length-replicate (length bs) X) (length-arithmetic f s bs cs)

length-relation : (f : ℤ → ℤ → Bool) (s : Bool) (bs cs : List Bit) → length (relation f s bs cs) ≡ 1
length-relation f s bs cs = length-if_known (bs ++ cs) 1 (bit_of (f (whole s bs) (whole s cs)) ∷ []) refl

pub length-binary_value : (op : Binary) (s : Bool) (bs cs : List Bit) → (takes_same_shape op ≡ true → length bs ≡ length cs) → length (binary_value op s bs cs) ≡ width_after (binary_keeps_sign op) (length bs)
length-binary_value Multiply s bs cs e = length-arithmetic ◌*ℤ◌ s bs cs
length-binary_value Divide s bs cs e = length-division int_div s bs cs
length-binary_value Modulus s bs cs e = length-division int_rem s bs cs
length-binary_value Add s bs cs e = length-arithmetic ◌+ℤ◌ s bs cs
length-binary_value Subtract s bs cs e = length-arithmetic ◌-ℤ◌ s bs cs
length-binary_value ShiftLeft s bs cs e = length-shift_left bs cs
length-binary_value ShiftRight s bs cs e = length-shift_right Zero bs cs
length-binary_value ArithmeticShiftLeft s bs cs e = length-shift_left bs cs
length-binary_value ArithmeticShiftRight s bs cs e = length-shift_right (if s then top bs else Zero) bs cs
length-binary_value LessThan s bs cs e = length-relation int_lt s bs cs
length-binary_value LessOrEqual s bs cs e = length-relation int_le s bs cs
length-binary_value GreaterThan s bs cs e = length-relation int_lt s cs bs
length-binary_value GreaterOrEqual s bs cs e = length-relation int_le s cs bs
length-binary_value Equal s bs cs e = refl
length-binary_value NotEqual s bs cs e = refl
length-binary_value CaseEqual s bs cs e = refl
length-binary_value CaseNotEqual s bs cs e = refl
length-binary_value BitwiseAnd s bs cs e = length-zip_bits and_bit bs cs (e refl)
length-binary_value BitwiseXor s bs cs e = length-zip_bits xor_bit bs cs (e refl)
length-binary_value BitwiseXnor s bs cs e = length-map (zip_bits xor_bit bs cs) not_bit ∙ length-zip_bits xor_bit bs cs (e refl)
length-binary_value BitwiseNxor s bs cs e = length-map (zip_bits xor_bit bs cs) not_bit ∙ length-zip_bits xor_bit bs cs (e refl)
length-binary_value BitwiseOr s bs cs e = length-zip_bits or_bit bs cs (e refl)
length-binary_value LogicalAnd s bs cs e = refl
length-binary_value LogicalOr s bs cs e = refl
