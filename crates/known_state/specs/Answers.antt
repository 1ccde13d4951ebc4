-- When an answer over partly known operands is as sharp as it can be.
use Rattle.std.specs.Prelude.{◌≡◌, ◌≢◌, ℕ, ◌<◌, Bool, true, false, ◌&&◌, List, length, slice_index_or, Option, None, IsTrue}
use Rattle.four_state.specs.declared.bit.Bit.{Bit}
use Rattle.four_state.specs.declared.bit.Bit.TheVariants.{X}
use Rattle.four_state.specs.declared.operator.Binary.{Binary}
use Rattle.four_state.specs.declared.operator.Binary.TheVariants.{ShiftLeft, ShiftRight, ArithmeticShiftLeft, ArithmeticShiftRight}
use Rattle.four_state.specs.Vector.{Vector}
use Rattle.known_state.specs.Partly.{Partly, allows}

-- two values that are allowed, with answers that differ in this bit
pub record Differ {A : Type 0} (allowed : A → Bool) (answer : A → List Bit) (place : ℕ) : Type 0 where
  pub one : A
  pub other : A
  pub one_allowed : IsTrue (allowed one)
  pub other_allowed : IsTrue (allowed other)
  pub differ : slice_index_or (answer one) place X ≢ slice_index_or (answer other) place X

-- each bit that is not sure differs for two values that are allowed
abbrev pub IsTight : {A : Type 0} → (A → Bool) → (A → List Bit) → List (Option Bit) → Type 0
IsTight allowed answer ps = (i : ℕ) → i < length ps → slice_index_or ps i None ≡ None → Differ allowed answer i

-- whether both of two vectors are allowed
abbrev pub allow_both : Partly → Partly → Vector × Vector → Bool
allow_both a b p = allows a p.0 && allows b p.1

-- equal widths and signs
abbrev pub HaveSameShape : Partly → Partly → Type 0
HaveSameShape a b = (length a.bits ≡ length b.bits) × (a.signed ≡ b.signed)

abbrev pub is_shift : Binary → Bool
is_shift ShiftLeft = true
is_shift ShiftRight = true
is_shift ArithmeticShiftLeft = true
is_shift ArithmeticShiftRight = true
is_shift _ = false
