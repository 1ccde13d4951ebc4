-- What an operator gives of two numbers.
use Rattle.std.specs.Prelude.{◌≡◌, ℕ, ◌^◌, ◌<◌, ◌≤◌, ◌∷◌, [], Bool, true, false, if◌then◌else◌}
use Rattle.four_state.specs.declared.operator.Binary.{Binary}
use Rattle.four_state.specs.Masks.{bits_of_masks}
use Rattle.four_state.specs.Operators.{binary_keeps_sign, binary_value, binary_vector}
use Rattle.four_state.specs.Vector.{bit_of}
use Rattle.known_state.specs.Partly.{whole_of}
use Rattle.term_replay.specs.Plain.{IsSmall, number_at}
use Rattle.term_replay.specs.Stands.{Fitted}
use Rattle.term_replay.specs.declared.head.TermHead.{TermHead}

-- the operator keeps the width and the sign of two numbers of this width, and gives this number of it
pub record IsCombined (op : Binary) (w a b n : ℕ) : Type 0 where
  pub bits : (signed : Bool) → bits_of_masks w n 0 ≡ binary_value op signed (bits_of_masks w a 0) (bits_of_masks w b 0)
  pub inside : n < 2 ^ w
  pub keeps : binary_keeps_sign op ≡ true

-- the operator tests two numbers, with this answer for each width that they are inside
pub record IsTested (op : Binary) (signed : Bool) (a b n : ℕ) : Type 0 where
  pub answer : Bool
  pub is : n ≡ (if answer then 1 else 0)
  pub bits : (w : ℕ) → w ≤ 64 → a < 2 ^ w → b < 2 ^ w → bit_of answer ∷ [] ≡ binary_value op signed (bits_of_masks w a 0) (bits_of_masks w b 0)
  pub keeps : binary_keeps_sign op ≡ false

-- the number is what the operator gives of two numbers of these terms, at the width and with the sign of another
pub record IsAtOnce (op : Binary) (y z x : TermHead) (a b n : ℕ) : Type 0 where
  pub fits : Fitted x (whole_of (binary_vector op (number_at y a) (number_at z b))) (whole_of (number_at x n))
  pub small : IsSmall x n
