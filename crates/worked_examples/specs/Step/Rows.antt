-- Examples of the definitions of a closing step, by rows of bits and by the design of `pipe`.
use Rattle.std.specs.Prelude.{◌≡◌, ℕ, Bool, true, false, if◌then◌else◌, List, [], ◌∷◌, Option, Some, None}
use Rattle.four_state.specs.Vector.{Vector}
use Rattle.four_state.specs.declared.bit.Bit.TheVariants.{One, X, Zero}
use Rattle.design_model.specs.Design.{Design, cell}
use Rattle.design_model.specs.Pipe.{pipe}
use Rattle.body_replay.specs.Contract.{clean, perhaps, quiet}
use Rattle.body_replay.specs.Store.{Kept}
use Rattle.code_values.specs.Values.{Values}
use Rattle.process_targets.specs.Targets.{names, row_has}
use Rattle.process_targets.specs.declared.bits.Bits.{Bits}
use Rattle.settling.specs.settled_targets.Returned.{remade, returned}
use Rattle.settling.specs.settled_targets.Saved.{hiding}
use Rattle.settling.specs.Runs.{HasRows, acts_by, sees_by}
use Rattle.step_check.specs.step_changes.Changes.{AreChangedSignals, change_by, lowest}
use Rattle.step_check.specs.Checks.{AreCheckRows, checked}
use Rattle.settling.specs.wake_bits.Wakes.{IsWake}
use Rattle.settling.specs.wake_bits.declared.wakes.Wake.{Wake}

-- bits 0 and 1 of signal 2, bit 1 of signal 3, and no bits of signal 4
abbrev pub row : List Bits
row = record { signal = 2; mask = 3 } ∷ record { signal = 3; mask = 2 } ∷ record { signal = 4; mask = 0 } ∷ []

-- the dump has signal 3 under code 1, and signal 4 under code 0
abbrev pub code_list : List (Option ℕ)
code_list = None ∷ None ∷ None ∷ Some 1 ∷ Some 0 ∷ []

-- each bit is 0 before a run, and 1 is what the run left
abbrev pub before : Kept
before c = Some Zero

abbrev pub left : Kept
left c = Some One

-- two bits of which this is the lowest
abbrev pub two_bits : Bool → Vector
two_bits one = record { bits = (if one then One else Zero) ∷ Zero ∷ []; signed = false }

-- code 0 goes from 00 to 01, and code 1 has no value
abbrev pub values : Values
values = record { closed = Some (two_bits false) ∷ None ∷ []; last = Some (two_bits true) ∷ None ∷ [] }

-- signal 4 changes, and neither signal 3, whose code has no value, nor signal 2, which has no code
pub record IsChangeExample : Type 0 where
  pub none : lowest None ≡ X
  pub some : lowest (Some (two_bits true)) ≡ One
  pub changed : change_by code_list values 4 ≡ record { signal = 4; old = Zero; new = One }
  pub uncoded : change_by code_list values 2 ≡ record { signal = 2; old = X; new = X }
  pub too_few : AreChangedSignals code_list values [] → ⊥
  pub too_many : AreChangedSignals code_list values (4 ∷ 3 ∷ []) → ⊥

-- signal 1 of the design with these places, mentioned by the body
abbrev pub wake_at : ℕ → Wake
wake_at places = record { thing = 1; mask = places; mentioned = true }

-- of a process that writes each cell, of one that writes none, and of one that does not mention the signal
pub record IsWakeExample : Type 0 where
  pub own : IsWake pipe (λ c. true) (λ x. true) (wake_at 0)
  pub not_own : IsWake pipe (λ c. true) (λ x. true) (wake_at 1) → ⊥
  pub not_left_out : IsWake pipe (λ c. false) (λ x. true) (wake_at 0) → ⊥
  pub not_mentioned : IsWake pipe (λ c. true) (λ x. false) (wake_at 0) → ⊥

-- of a signal of the row that the dump lacks, of one that it has, of a bit that the row does not have, and of a signal that it does not name
pub record IsLeftExample : Type 0 where
  pub kept : returned code_list (names row) (row_has row) true before left (cell 2 1) ≡ Some One
  pub not_held : returned code_list (names row) (row_has row) false before left (cell 2 1) ≡ None
  pub dumped : returned code_list (names row) (row_has row) true before left (cell 3 1) ≡ Some Zero
  pub other_bit : returned code_list (names row) (row_has row) true before left (cell 2 5) ≡ Some Zero
  pub other_signal : returned code_list (names row) (row_has row) true before left (cell 0 0) ≡ Some One
  pub made : remade (row_has row) true left before (cell 3 1) ≡ Some One
  pub not_made : remade (row_has row) false left before (cell 3 1) ≡ None
  pub other_made : remade (row_has row) true left before (cell 3 0) ≡ Some Zero
  pub named : names row 4 ≡ true
  pub hidden : hiding (names row) before (cell 4 0) ≡ None
  pub not_hidden : hiding (names row) before (cell 0 0) ≡ Some Zero

-- a process watches signal 2, which its body mentions, and signal 5, which is in its list of names alone
abbrev pub watched : List Wake
watched = record { thing = 2; mask = 1; mentioned = true } ∷ record { thing = 5; mask = 1; mentioned = false } ∷ []

-- of 6 signals; block 0 has not acted before, where it is not said otherwise
pub record IsActingExample : Type 0 where
  pub sees : sees_by 6 watched (2 ∷ []) ≡ true
  pub listed : sees_by 6 watched (5 ∷ []) ≡ false
  pub memory : sees_by 2 watched (2 ∷ []) ≡ false
  pub not_yet : acts_by (false ∷ []) 0 (perhaps 7 2) 6 watched (5 ∷ []) ≡ false
  pub quietly : acts_by (false ∷ []) 0 quiet 6 watched [] ≡ false
  pub by_change : acts_by (false ∷ []) 0 (perhaps 7 2) 6 watched (2 ∷ []) ≡ true
  pub surely : acts_by (false ∷ []) 0 (clean 7) 6 watched [] ≡ true
  pub acted : acts_by (true ∷ []) 0 quiet 6 watched [] ≡ true

-- signal 3 alone is checked: the dump lacks signal 2, and the row has no bit of signal 4
pub record IsCheckExample : Type 0 where
  pub checked : checked code_list row ≡ 3 ∷ []
  pub rows : AreCheckRows code_list (row ∷ []) ((3 ∷ []) ∷ [])
  pub too_few : AreCheckRows code_list (row ∷ []) ([] ∷ []) → ⊥
  pub too_many : AreCheckRows code_list (row ∷ []) ((3 ∷ 4 ∷ []) ∷ []) → ⊥

-- the design without its processes
abbrev pub bare : Design
bare = record pipe { processes = [] }

-- of the design, whose process 0 assigns signal 4, rows are refused where they are too few, where the first one names nothing, or where it watches what is no signal
pub record IsRowsExample : Type 0 where
  pub none : HasRows bare [] [] []
  pub too_few : (written : List (List ℕ)) (wakes : List (List Wake)) → HasRows pipe [] written wakes → ⊥
  pub unnamed : (targets : List (List Bits)) (wakes : List (List Wake)) → HasRows pipe targets ([] ∷ [] ∷ []) wakes → ⊥
  pub no_signal : (targets : List (List Bits)) (written : List (List ℕ)) → HasRows pipe targets written (watched ∷ [] ∷ []) → ⊥
