-- What the Clocked have left of bound signals, beside what the dump says of them.
use Rattle.std.specs.Prelude.{◌≡◌, ◌<◌, ◌≤◌, ◌⊎◌, ℕ, true, false, List, Option, Some, None}
use Rattle.std.specs.List.{All}
use Rattle.four_state.specs.Vector.{Vector}
use Rattle.known_state.specs.Partly.{allows_bits}
use Rattle.design_model.specs.Design.{In, signal_bits}
use Rattle.step_values.specs.body_store.declared.store.Store.{Store}
use Rattle.dump_check.specs.declared.order.Difference.{Difference}
use Rattle.early_sets.specs.Has.{is_in}
use Rattle.early_sets.specs.WakeState.{WakeState}
use Rattle.step_values.specs.replay_model.Step.{Closing, known_bits}
use Rattle.step_values.specs.Dumped.{AreDumped}
use Rattle.step_values.specs.Starts.{left_by_clocked}
use Rattle.step_values.specs.store_knowledge.Knows.{Knows}

-- the Clocked of a step have run: the store, the sets and the values of codes are those of the step
pub record IsAfterClocked (st : Closing) (x : Store) (sets : WakeState) (codes : List (Option ℕ)) (values : List (Option Vector)) : Type 0 where
  pub knows : Knows st.design (left_by_clocked st) x
  pub moves : (s : ℕ) → st.sets.moves s ≡ is_in sets.moves s
  pub dumped : AreDumped st.design codes values st.new

-- what is known of the signal allows what the dump says
abbrev pub Agrees : Closing → ℕ → Type 0
Agrees st s = allows_bits (known_bits st.design (left_by_clocked st) s) (signal_bits st.design st.new s) ≡ true

-- the signal may move, or what is known of it allows what the dump says
abbrev pub Stays : Closing → ℕ → Type 0
Stays st s = st.sets.moves s ≡ false → Agrees st s

-- what the dump says of the signal differs from what is known, with both
pub record IsDifferent (st : Closing) (found : Difference) : Type 0 where
  pub known : found.computed.bits ≡ known_bits st.design (left_by_clocked st) found.signal
  pub dumped : found.dumped.bits ≡ signal_bits st.design st.new found.signal
  pub differ : allows_bits found.computed.bits found.dumped.bits ≡ false

-- the signal agrees, or differs so
abbrev pub IsDifferentOr : Closing → ℕ → Option Difference → Type 0
IsDifferentOr st s None = Agrees st s
IsDifferentOr st s (Some found) = (found.signal ≡ s) × IsDifferent st found

-- the signal stays, or differs so though it may not move
abbrev pub IsMovedOr : Closing → ℕ → Option Difference → Type 0
IsMovedOr st s None = Stays st s
IsMovedOr st s (Some found) = (found.signal ≡ s) × (st.sets.moves s ≡ false) × IsDifferent st found

-- it so differs of a signal that has changed and may not move, or of one that is overwritten
pub record IsMoved (st : Closing) (changed overwritten : List ℕ) (found : Difference) : Type 0 where
  pub different : IsDifferent st found
  pub which : (In found.signal changed × (st.sets.moves found.signal ≡ false)) ⊎ In found.signal overwritten

-- each of the first list stays and each of the second agrees, or this is the one with the least number that does not
abbrev pub IsLeastMoved : Closing → List ℕ → List ℕ → Option Difference → Type 0
IsLeastMoved st changed overwritten None = All (Stays st) changed × All (Agrees st) overwritten
IsLeastMoved st changed overwritten (Some found) =
    IsMoved st changed overwritten found × All (λ s. s < found.signal → Stays st s) changed × All (λ s. s < found.signal → Agrees st s) overwritten

-- the one of two with the lesser number
abbrev pub IsLesser : Option Difference → Option Difference → Option Difference → Type 0
IsLesser None b c = c ≡ b
IsLesser (Some a) None c = c ≡ Some a
IsLesser (Some a) (Some b) c = ((c ≡ Some b) × (b.signal < a.signal)) ⊎ ((c ≡ Some a) × (a.signal ≤ b.signal))
