-- The three answers of a question about operands.
use Rattle.std.specs.Prelude.{◌≡◌, ℕ, Bool, true, false, Option, Some, None}
use Rattle.four_state.specs.declared.truth.Truth.{Truth}
use Rattle.four_state.specs.declared.truth.Truth.TheVariants.{True, False, Strange}
use Rattle.known_state.specs.declared.maybe.Maybe.{Maybe}
use Rattle.known_state.specs.declared.maybe.Maybe.TheVariants.{Yes, No, Unsure}

-- the answer, if there is one
abbrev pub answer_of : Maybe → Option Bool
answer_of Yes = Some true
answer_of No = Some false
answer_of (Unsure thing) = None

-- the thing to blame where there is no answer
abbrev pub blame_in : Maybe → ℕ
blame_in Yes = 0
blame_in No = 0
blame_in (Unsure thing) = thing

-- the answer, blamed on this thing where there is no answer
pub record IsAnswer (answer : Option Bool) (thing : ℕ) (m : Maybe) : Type 0 where
  pub is : answer_of m ≡ answer
  pub blame : answer ≡ None → blame_in m ≡ thing

-- the truth is False
abbrev pub is_truth_false : Truth → Bool
is_truth_false False = true
is_truth_false True = false
is_truth_false Strange = false
