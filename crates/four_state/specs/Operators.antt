-- What each operator gives, bit by bit, and arithmetic through whole numbers (IEEE 1364-2001, clause 4.1).
use Rattle.std.specs.Prelude.{◌≡◌, Bool, true, false, not, ◌&&◌, ◌||◌, if◌then◌else◌, List, [], ◌∷◌, map, length, pos, ◌+ℤ◌, ◌-ℤ◌, ◌*ℤ◌, int_lt, int_le, int_div, int_rem}
use Rattle.four_state.specs.Vector.{Bit, Zero, One, X, Z, Vector, Truth, True, False, Strange, same_bit, same_bits, is_known, bit_of, truth, truth_bit, top}
use Rattle.four_state.specs.Arithmetic.{if_known, cut, whole, arithmetic, division, relation, shift_left, shift_right}
pub use Rattle.four_state.specs.Arithmetic.{not_bit}
pub use Rattle.four_state.specs.declared.operator.Unary.{Unary}
pub use Rattle.four_state.specs.declared.operator.Unary.TheVariants.{Positive, Negative, LogicalNot, BitwiseNot, ReduceAnd, ReduceNand, ReduceOr, ReduceNor, ReduceXor, ReduceXnor, ReduceNxor}
pub use Rattle.four_state.specs.declared.operator.Binary.{Binary}
pub use Rattle.four_state.specs.declared.operator.Binary.TheVariants.{Multiply, Divide, Modulus, Add, Subtract, ShiftLeft, ShiftRight, ArithmeticShiftLeft, ArithmeticShiftRight, LessThan, LessOrEqual, GreaterThan, GreaterOrEqual, Equal, NotEqual, CaseEqual, CaseNotEqual, BitwiseAnd, BitwiseXor, BitwiseXnor, BitwiseNxor, BitwiseOr, LogicalAnd, LogicalOr}
pub use Rattle.four_state.specs.declared.operator.CaseKind.{CaseKind}
pub use Rattle.four_state.specs.declared.operator.CaseKind.TheVariants.{Exact, AnyZ, AnyXZ}

-- 0 with anything is 0, 1 with 1 is 1, else x
abbrev pub and_bit : Bit → Bit → Bit
and_bit Zero _ = Zero
and_bit One Zero = Zero
and_bit One One = One
and_bit X Zero = Zero
and_bit Z Zero = Zero
and_bit _ _ = X

-- 1 with anything is 1, 0 with 0 is 0, else x
abbrev pub or_bit : Bit → Bit → Bit
or_bit b c = not_bit (and_bit (not_bit b) (not_bit c))

-- x where a bit is x or z
abbrev pub xor_bit : Bit → Bit → Bit
xor_bit Zero Zero = Zero
xor_bit Zero One = One
xor_bit One Zero = One
xor_bit One One = Zero
xor_bit _ _ = X

-- bits that are equal 0 or equal 1 stay, others are x
abbrev pub merge_bit : Bit → Bit → Bit
merge_bit Zero Zero = Zero
merge_bit One One = One
merge_bit _ _ = X

-- an operator on each pair of bits
abbrev pub zip_bits : (Bit → Bit → Bit) → List Bit → List Bit → List Bit
zip_bits f [] cs = []
zip_bits f (b ∷ bs) [] = []
zip_bits f (b ∷ bs) (c ∷ cs) = f b c ∷ zip_bits f bs cs

-- all bits by one operator, beginning with this bit
abbrev pub reduce : (Bit → Bit → Bit) → Bit → List Bit → Bit
reduce f b [] = b
reduce f b (c ∷ cs) = f c (reduce f b cs)

-- 0 where a pair of bits is 0 against 1, else x where any bit is x or z, else 1
abbrev pub equal : List Bit → List Bit → Bit
equal a b = not_bit (reduce or_bit Zero (zip_bits xor_bit a b))

-- what an operator with one operand gives
abbrev pub unary_value : Unary → List Bit → List Bit
unary_value Positive a = if_known a (length a) a
unary_value Negative a = if_known a (length a) (cut (length a) (pos 0 -ℤ whole false a))
unary_value LogicalNot a = not_bit (truth_bit (truth a)) ∷ []
unary_value BitwiseNot a = map not_bit a
unary_value ReduceAnd a = reduce and_bit One a ∷ []
unary_value ReduceNand a = not_bit (reduce and_bit One a) ∷ []
unary_value ReduceOr a = reduce or_bit Zero a ∷ []
unary_value ReduceNor a = not_bit (reduce or_bit Zero a) ∷ []
unary_value ReduceXor a = reduce xor_bit Zero a ∷ []
unary_value ReduceXnor a = not_bit (reduce xor_bit Zero a) ∷ []
unary_value ReduceNxor a = not_bit (reduce xor_bit Zero a) ∷ []

-- what an operator with two operands gives; the sign is that of both, of a shift that of the left one
abbrev pub binary_value : Binary → Bool → List Bit → List Bit → List Bit
binary_value Multiply signed a b = arithmetic ◌*ℤ◌ signed a b
binary_value Divide signed a b = division int_div signed a b
binary_value Modulus signed a b = division int_rem signed a b
binary_value Add signed a b = arithmetic ◌+ℤ◌ signed a b
binary_value Subtract signed a b = arithmetic ◌-ℤ◌ signed a b
binary_value ShiftLeft signed a b = shift_left a b
binary_value ShiftRight signed a b = shift_right Zero a b
binary_value ArithmeticShiftLeft signed a b = shift_left a b
binary_value ArithmeticShiftRight signed a b = shift_right (if signed then top a else Zero) a b
binary_value LessThan signed a b = relation int_lt signed a b
binary_value LessOrEqual signed a b = relation int_le signed a b
binary_value GreaterThan signed a b = relation int_lt signed b a
binary_value GreaterOrEqual signed a b = relation int_le signed b a
binary_value Equal signed a b = equal a b ∷ []
binary_value NotEqual signed a b = not_bit (equal a b) ∷ []
binary_value CaseEqual signed a b = bit_of (same_bits a b) ∷ []
binary_value CaseNotEqual signed a b = bit_of (not (same_bits a b)) ∷ []
binary_value BitwiseAnd signed a b = zip_bits and_bit a b
binary_value BitwiseXor signed a b = zip_bits xor_bit a b
binary_value BitwiseXnor signed a b = map not_bit (zip_bits xor_bit a b)
binary_value BitwiseNxor signed a b = map not_bit (zip_bits xor_bit a b)
binary_value BitwiseOr signed a b = zip_bits or_bit a b
binary_value LogicalAnd signed a b = and_bit (truth_bit (truth a)) (truth_bit (truth b)) ∷ []
binary_value LogicalOr signed a b = or_bit (truth_bit (truth a)) (truth_bit (truth b)) ∷ []

-- what c ? a : b gives
abbrev pub choice_value : Truth → List Bit → List Bit → List Bit
choice_value True a b = a
choice_value False a b = b
choice_value Strange a b = zip_bits merge_bit a b

-- whether the kind takes this bit to match any bit
abbrev pub is_any : CaseKind → Bit → Bool
is_any Exact b = false
is_any AnyZ b = same_bit b Z
is_any AnyXZ b = not (is_known b)

-- whether a label matches, by case, casez or casex (clause 9.5.1)
abbrev pub matches : CaseKind → List Bit → List Bit → Bool
matches kind [] [] = true
matches kind (b ∷ bs) (c ∷ cs) = (is_any kind b || is_any kind c || same_bit b c) && matches kind bs cs
matches kind _ _ = false

-- whether the result has the sign of the operand; ! and reductions give unsigned results (clause 4.5.1)
abbrev pub unary_keeps_sign : Unary → Bool
unary_keeps_sign Positive = true
unary_keeps_sign Negative = true
unary_keeps_sign BitwiseNot = true
unary_keeps_sign _ = false

-- comparisons, equalities, && and || give unsigned results
abbrev pub binary_keeps_sign : Binary → Bool
binary_keeps_sign LessThan = false
binary_keeps_sign LessOrEqual = false
binary_keeps_sign GreaterThan = false
binary_keeps_sign GreaterOrEqual = false
binary_keeps_sign Equal = false
binary_keeps_sign NotEqual = false
binary_keeps_sign CaseEqual = false
binary_keeps_sign CaseNotEqual = false
binary_keeps_sign LogicalAnd = false
binary_keeps_sign LogicalOr = false
binary_keeps_sign _ = true

-- the same of vectors
abbrev pub unary_vector : Unary → Vector → Vector
unary_vector op a = record { bits = unary_value op a.bits; signed = unary_keeps_sign op && a.signed }

abbrev pub binary_vector : Binary → Vector → Vector → Vector
binary_vector op a b = record { bits = binary_value op a.signed a.bits b.bits; signed = binary_keeps_sign op && a.signed }

-- equal widths and signs
abbrev pub SameShape : Vector → Vector → Type 0
SameShape a b = (length a.bits ≡ length b.bits) × (a.signed ≡ b.signed)

-- whether the operands are to have equal widths and signs: not of a shift, && and ||
abbrev pub takes_same_shape : Binary → Bool
takes_same_shape ShiftLeft = false
takes_same_shape ShiftRight = false
takes_same_shape ArithmeticShiftLeft = false
takes_same_shape ArithmeticShiftRight = false
takes_same_shape LogicalAnd = false
takes_same_shape LogicalOr = false
takes_same_shape _ = true

-- c ? a : b of vectors
abbrev pub choice_vector : Truth → Vector → Vector → Vector
choice_vector c a b = record { bits = choice_value c a.bits b.bits; signed = a.signed }
