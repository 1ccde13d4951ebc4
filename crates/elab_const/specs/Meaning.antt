-- The width and sign of an expression, and its value in a context (IEEE 1364-2001, 4.4 and 4.5).
use Rattle.std.specs.Prelude.{◌≡◌, ◌≤◌, ℕ, ◌+◌, ◌*◌, ◌-◌, max, nat_le, Bool, true, false, not, ◌&&◌, ◌||◌, if◌then◌else◌, List, [], ◌∷◌, ◌++◌, length, Option, Some, None}
use Rattle.four_state.specs.Vector.{Vector, truth, extend}
use Rattle.four_state.specs.Operators.{unary_value, binary_value, choice_value}
use Rattle.four_state.specs.Parts.{index, index_of}
use Rattle.four_state.specs.declared.bit.Bit.{Bit}
use Rattle.four_state.specs.declared.bit.Bit.TheVariants.{X}
use Rattle.four_state.specs.declared.index.Index.{Index}
use Rattle.four_state.specs.declared.operator.Binary.{Binary}
use Rattle.four_state.specs.declared.operator.Unary.{Unary}
use Rattle.four_state.specs.declared.index.Index.TheVariants as number
use Rattle.design_model.specs.Shape.{is_wide_unary, is_wide_binary, is_shift, is_logic}
use Rattle.design_model.specs.Value.{copies}
use Rattle.verilog_tree.specs.Tree.{Expr, literal, identifier, bit_select, part_select, indexed_part, unary_operator, binary_operator, conditional, concatenation, replication, sign_cast, parentheses, Exprs, no_exprs, an_expr}
use Rattle.elab_const.specs.Scope.{Names, Entry, Constant, Turn, Signal, Memory, IsWidth}
pub use Rattle.elab_const.specs.declared.evaluated.Evaluated.{Evaluated}
pub use Rattle.elab_const.specs.declared.joined.Joined.{Joined}
pub use Rattle.elab_const.specs.declared.width.Shape.{Shape}
pub use Rattle.elab_const.specs.declared.width.Operands.{Operands}
pub use Rattle.elab_const.specs.declared.width.Operands.TheVariants.{Wide, Shift, Logic, Compared}

-- the shape of this width and sign
abbrev pub shape_as : ℕ → Bool → Shape
shape_as w s = record { width = w; signed = s }

-- a width from 1 to 128
abbrev pub IsShape : Shape → Type 0
IsShape s = IsWidth s.width

-- the shape of a vector
abbrev pub vector_shape : Vector → Shape
vector_shape v = shape_as (length v.bits) v.signed

-- the greater width of both, and a sign where both have one
abbrev pub common_shape : Shape → Shape → Shape
common_shape a b = shape_as (max a.width b.width) (a.signed && b.signed)

-- the shape of what a name means: of a memory that of its words
abbrev pub entry_shape : Option Entry → Shape
entry_shape None = shape_as 1 false
entry_shape (Some (Constant v)) = vector_shape v
entry_shape (Some (Turn v)) = vector_shape v
entry_shape (Some (Signal high low ranged width signed)) = shape_as width signed
entry_shape (Some (Memory first last high low ranged width signed)) = shape_as width signed

-- the bits of a constant; without a value they read x
abbrev pub entry_bits : Option Entry → List Bit
entry_bits (Some (Constant v)) = v.bits
entry_bits (Some (Turn v)) = v.bits
entry_bits _ = X ∷ []

-- the shape, and the bits that the operators give in a context of this width and sign, before they are extended to it
pub record Meaning : Type 0 where
  pub shape : Shape
  pub bits : ℕ → Bool → List Bit

-- an expression of this shape and these bits
abbrev pub means : Shape → (ℕ → Bool → List Bit) → Meaning
means s f = record { shape = s; bits = f }

-- the bits in a context of this width and sign
abbrev pub in_context : Meaning → ℕ → Bool → List Bit
in_context m w s = extend w s (m.bits w s)

-- bits in a context: extended by its sign, or cut
abbrev pub vector_as : Shape → List Bit → Vector
vector_as s bs = record { bits = extend s.width s.signed bs; signed = s.signed }

-- the value in a context
abbrev pub vector_in : Meaning → Shape → Vector
vector_in m s = vector_as s (m.bits s.width s.signed)

-- the context of an expression of this shape: its own, or the one that it is in
abbrev pub context_of : Option Shape → Shape → Shape
context_of None s = s
context_of (Some c) s = common_shape c s

-- the shape of an expression, and its value in a context
abbrev pub at : Meaning → Shape → Evaluated
at m s = record { shape = m.shape; value = vector_in m s }

-- the value of an expression in its context
abbrev pub within : Meaning → Option Shape → Evaluated
within m around = at m (context_of around m.shape)

-- bits of this shape in their context
abbrev pub bits_within : Shape → List Bit → Option Shape → Evaluated
bits_within s bs around = record { shape = s; value = vector_as (context_of around s) bs }

-- in no context: of its own width and sign
abbrev pub alone : Meaning → List Bit
alone m = in_context m m.shape.width m.shape.signed

-- the number that a vector says
abbrev pub number_in : Vector → Index
number_in v = index_of (index v.signed v.bits)

-- the number that it says alone
abbrev pub number_alone : Meaning → Index
number_alone m = number_in (vector_in m m.shape)

-- the number, 0 where there is no number
abbrev pub count_of : Index → ℕ
count_of (number.At n) = n
count_of _ = 0

-- the bits from the index h to l, where indexes fall from left to right, or rise; 0 against that direction
abbrev pub part_width : Bool → ℕ → ℕ → ℕ
part_width falling h l = if falling then h + 1 - l else l + 1 - h

-- whether the indexes of bits fall from left to right; so they do without a range
abbrev pub is_falling : Bool → ℕ → ℕ → Bool
is_falling ranged high low = not ranged || nat_le low high

-- the same of the bits of a signal
abbrev pub signal_falls : Option Entry → Bool
signal_falls (Some (Signal high low ranged width signed)) = is_falling ranged high low
signal_falls _ = true

-- the same of the bits of a memory's words
abbrev pub word_falls : Option Entry → Bool
word_falls (Some (Memory first last high low ranged width signed)) = is_falling ranged high low
word_falls _ = true

-- the same of the bits of what a select is taken of
abbrev pub falls : Names → Expr → Bool
falls g (identifier p x) = signal_falls (g x)
falls g (bit_select p (identifier q x) i) = word_falls (g x)
falls g _ = true

-- the shape of what an index names: a word of a memory, or one bit
abbrev pub indexed_shape : Option Entry → Shape
indexed_shape (Some (Memory first last high low ranged width signed)) = shape_as width signed
indexed_shape _ = shape_as 1 false

-- the same by what is indexed
abbrev pub select_shape : Names → Expr → Shape
select_shape g (identifier p x) = indexed_shape (g x)
select_shape g _ = shape_as 1 false

-- a select, of which no constant is made: its bits read x
abbrev pub unread : Shape → Meaning
unread s = means s (λ w signed. X ∷ [])

-- one bit without a sign
abbrev pub one_bit : Shape
one_bit = shape_as 1 false

-- the shape that an operator gives to an operand of this shape
abbrev pub unary_shape : Unary → Shape → Shape
unary_shape op a = if is_wide_unary op then a else one_bit

-- the context that an operator gives its operand
abbrev pub operand_shape : Unary → Shape → Shape → Shape
operand_shape op a s = if is_wide_unary op then s else a

-- the context of the operand of an operator
abbrev pub around_operand : Unary → Option Shape → Option Shape
around_operand op around = if is_wide_unary op then around else None

-- what an operator gives
abbrev pub unary_bits : Unary → Meaning → ℕ → Bool → List Bit
unary_bits op a w s = unary_value op (vector_in a (operand_shape op a.shape (shape_as w s))).bits

-- how an operator takes two operands
abbrev pub operands_of : Binary → Operands
operands_of op = if is_wide_binary op then Wide else (if is_shift op then Shift else (if is_logic op then Logic else Compared))

-- the shape that an operator gives to operands of these shapes: a shift has that of its left side
abbrev pub joint_shape : Operands → Shape → Shape → Shape
joint_shape Wide a b = common_shape a b
joint_shape Shift a b = a
joint_shape _ a b = one_bit

-- the same by the operator
abbrev pub binary_shape : Binary → Shape → Shape → Shape
binary_shape op a b = joint_shape (operands_of op) a b

-- the contexts that an operator gives its operands: its own, or none, or their common shape
abbrev pub operand_shapes : Operands → Shape → Shape → Shape → Shape × Shape
operand_shapes Wide a b s = (s, s)
operand_shapes Shift a b s = (s, b)
operand_shapes Logic a b s = (a, b)
operand_shapes Compared a b s = (common_shape a b, common_shape a b)

-- two expressions in two contexts
abbrev pub both_at : Meaning → Meaning → Shape × Shape → Evaluated × Evaluated
both_at a b s = (at a s.0, at b s.1)

-- two expressions in one context: their common one
abbrev pub pair_within : Meaning → Meaning → Option Shape → Evaluated × Evaluated
pair_within a b around = both_at a b (context_of around (common_shape a.shape b.shape), context_of around (common_shape a.shape b.shape))

-- both operands of an operator as it takes them, in its context
abbrev pub operands_within : Binary → Meaning → Meaning → Option Shape → Evaluated × Evaluated
operands_within op a b around = both_at a b (operand_shapes (operands_of op) a.shape b.shape (context_of around (binary_shape op a.shape b.shape)))

-- two values in two contexts
abbrev pub values_in : Meaning → Meaning → Shape × Shape → Vector × Vector
values_in a b s = (vector_in a s.0, vector_in b s.1)

-- both operands of an operator as it takes them
abbrev pub operand_values : Operands → Meaning → Meaning → Shape → Vector × Vector
operand_values o a b s = values_in a b (operand_shapes o a.shape b.shape s)

-- what an operator gives of two vectors
abbrev pub pair_bits : Binary → Vector × Vector → List Bit
pair_bits op p = binary_value op p.0.signed p.0.bits p.1.bits

-- what an operator gives in a context
abbrev pub binary_bits : Binary → Meaning → Meaning → ℕ → Bool → List Bit
binary_bits op a b w s = pair_bits op (operand_values (operands_of op) a b (shape_as w s))

-- what c ? a : b gives
abbrev pub choice_bits : Meaning → Meaning → Meaning → ℕ → Bool → List Bit
choice_bits c a b w s = choice_value (truth (alone c)) (in_context a w s) (in_context b w s)

-- the parts of a concatenation: their widths together, and their bits, of which the last part has the lowest
pub record Parts : Type 0 where
  pub width : ℕ
  pub bits : List Bit

-- the bits before a part, if there are any
abbrev pub bits_before : Option Vector → List Bit
bits_before None = []
bits_before (Some v) = v.bits

-- as many bits as the width says, where that is at most 128
abbrev pub IsJoined : Joined → Type 0
IsJoined j = j.width ≤ 128 → length (bits_before j.value) ≡ j.width

-- one part before the others
abbrev pub part_before : Meaning → Parts → Parts
part_before m others = record { width = m.shape.width + others.width; bits = others.bits ++ alone m }

-- bits side by side are unsigned
abbrev pub side_by_side : ℕ → List Bit → Meaning
side_by_side w bs = means (shape_as w false) (λ _ _. bs)

abbrev mutual
  pub meaning : Names → Expr → Meaning
  meaning g (literal p v) = means (vector_shape v) (λ w s. v.bits)
  meaning g (identifier p x) = means (entry_shape (g x)) (λ w s. entry_bits (g x))
  meaning g (bit_select p of i) = unread (select_shape g of)
  meaning g (part_select p of h l b) = unread (shape_as (part_width (falls g of) (count_of (number_alone (meaning g h))) (count_of (number_alone (meaning g l)))) false)
  meaning g (indexed_part p of b w up k) = unread (shape_as (count_of (number_alone (meaning g w))) false)
  meaning g (unary_operator p op a) = means (unary_shape op (meaning g a).shape) (unary_bits op (meaning g a))
  meaning g (binary_operator p op a b) = means (binary_shape op (meaning g a).shape (meaning g b).shape) (binary_bits op (meaning g a) (meaning g b))
  meaning g (conditional p c a b) = means (common_shape (meaning g a).shape (meaning g b).shape) (choice_bits (meaning g c) (meaning g a) (meaning g b))
  meaning g (concatenation p es) = side_by_side (parts_of g es).width (parts_of g es).bits
  meaning g (replication p n es) =
      side_by_side (count_of (number_alone (meaning g n)) * (parts_of g es).width) (copies (count_of (number_alone (meaning g n))) (parts_of g es).bits)
  meaning g (sign_cast p signed a) = means (shape_as (meaning g a).shape.width signed) (λ w s. alone (meaning g a))
  meaning g (parentheses p a) = meaning g a

  pub parts_of : Names → Exprs → Parts
  parts_of g no_exprs = record { width = 0; bits = [] }
  parts_of g (an_expr e es) = part_before (meaning g e) (parts_of g es)

-- the width and sign of an expression alone
abbrev pub shape : Names → Expr → Shape
shape g e = (meaning g e).shape

-- the value of an expression alone
abbrev pub constant : Names → Expr → Vector
constant g e = vector_in (meaning g e) (shape g e)

-- the number that an expression says
abbrev pub number_of : Names → Expr → Index
number_of g e = number_alone (meaning g e)
