-- How each operator takes its two operands, and the shape that it gives.
use Rattle.std.proofs.Common.{◌≡◌, ◌⊎◌, inl, inr, true, false, refl}
use Rattle.four_state.specs.declared.operator.Binary.{Binary}
use Rattle.four_state.specs.declared.operator.Binary.TheVariants as op
use Rattle.design_model.specs.Shape.{is_wide_binary, is_shift, is_logic}
use Rattle.elab_const.specs.Meaning.{binary_shape, common_shape, one_bit, operand_shapes, operands_of}
use Rattle.elab_const.specs.declared.width.Shape.{Shape}

-- both in the context
pub record IsWide (o : Binary) : Type 0 where
  pub wide : is_wide_binary o ≡ true
  pub shape : (a b : Shape) → binary_shape o a b ≡ common_shape a b
  pub operands : (a b s : Shape) → operand_shapes (operands_of o) a b s ≡ (s, s)

-- the left one in the context
pub record IsShift (o : Binary) : Type 0 where
  pub wide : is_wide_binary o ≡ false
  pub shift : is_shift o ≡ true
  pub shape : (a b : Shape) → binary_shape o a b ≡ a
  pub operands : (a b s : Shape) → operand_shapes (operands_of o) a b s ≡ (s, b)

-- each alone
pub record IsLogic (o : Binary) : Type 0 where
  pub wide : is_wide_binary o ≡ false
  pub shift : is_shift o ≡ false
  pub logic : is_logic o ≡ true
  pub shape : (a b : Shape) → binary_shape o a b ≡ one_bit
  pub operands : (a b s : Shape) → operand_shapes (operands_of o) a b s ≡ (a, b)

-- both in their common context
pub record IsCompared (o : Binary) : Type 0 where
  pub wide : is_wide_binary o ≡ false
  pub shift : is_shift o ≡ false
  pub logic : is_logic o ≡ false
  pub shape : (a b : Shape) → binary_shape o a b ≡ one_bit
  pub operands : (a b s : Shape) → operand_shapes (operands_of o) a b s ≡ (common_shape a b, common_shape a b)

abbrev pub IsTaken : Binary → Type 0
IsTaken o = IsWide o ⊎ (IsShift o ⊎ (IsLogic o ⊎ IsCompared o))

pub taken : (o : Binary) → IsTaken o
taken op.Multiply = inl (record { wide = refl; shape = λ a b. refl; operands = λ a b s. refl })
taken op.Divide = inl (record { wide = refl; shape = λ a b. refl; operands = λ a b s. refl })
taken op.Modulus = inl (record { wide = refl; shape = λ a b. refl; operands = λ a b s. refl })
taken op.Add = inl (record { wide = refl; shape = λ a b. refl; operands = λ a b s. refl })
taken op.Subtract = inl (record { wide = refl; shape = λ a b. refl; operands = λ a b s. refl })
taken op.BitwiseAnd = inl (record { wide = refl; shape = λ a b. refl; operands = λ a b s. refl })
taken op.BitwiseXor = inl (record { wide = refl; shape = λ a b. refl; operands = λ a b s. refl })
taken op.BitwiseXnor = inl (record { wide = refl; shape = λ a b. refl; operands = λ a b s. refl })
taken op.BitwiseNxor = inl (record { wide = refl; shape = λ a b. refl; operands = λ a b s. refl })
taken op.BitwiseOr = inl (record { wide = refl; shape = λ a b. refl; operands = λ a b s. refl })
taken op.ShiftLeft = inr (inl (record { wide = refl; shift = refl; shape = λ a b. refl; operands = λ a b s. refl }))
taken op.ShiftRight = inr (inl (record { wide = refl; shift = refl; shape = λ a b. refl; operands = λ a b s. refl }))
taken op.ArithmeticShiftLeft = inr (inl (record { wide = refl; shift = refl; shape = λ a b. refl; operands = λ a b s. refl }))
taken op.ArithmeticShiftRight = inr (inl (record { wide = refl; shift = refl; shape = λ a b. refl; operands = λ a b s. refl }))
taken op.LogicalAnd = inr (inr (inl (record { wide = refl; shift = refl; logic = refl; shape = λ a b. refl; operands = λ a b s. refl })))
taken op.LogicalOr = inr (inr (inl (record { wide = refl; shift = refl; logic = refl; shape = λ a b. refl; operands = λ a b s. refl })))
taken op.LessThan = inr (inr (inr (record { wide = refl; shift = refl; logic = refl; shape = λ a b. refl; operands = λ a b s. refl })))
taken op.GreaterThan = inr (inr (inr (record { wide = refl; shift = refl; logic = refl; shape = λ a b. refl; operands = λ a b s. refl })))
taken op.LessOrEqual = inr (inr (inr (record { wide = refl; shift = refl; logic = refl; shape = λ a b. refl; operands = λ a b s. refl })))
taken op.GreaterOrEqual = inr (inr (inr (record { wide = refl; shift = refl; logic = refl; shape = λ a b. refl; operands = λ a b s. refl })))
taken op.Equal = inr (inr (inr (record { wide = refl; shift = refl; logic = refl; shape = λ a b. refl; operands = λ a b s. refl })))
taken op.NotEqual = inr (inr (inr (record { wide = refl; shift = refl; logic = refl; shape = λ a b. refl; operands = λ a b s. refl })))
taken op.CaseEqual = inr (inr (inr (record { wide = refl; shift = refl; logic = refl; shape = λ a b. refl; operands = λ a b s. refl })))
taken op.CaseNotEqual = inr (inr (inr (record { wide = refl; shift = refl; logic = refl; shape = λ a b. refl; operands = λ a b s. refl })))
