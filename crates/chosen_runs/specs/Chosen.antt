-- A step in which clean blocks run, by the codes of its dump and the sets that were found.
use Rattle.std.specs.Prelude.{◌≡◌, ◌↔◌, ℕ, true, List, Option}
use Rattle.event_machine.specs.Cell.{Values as CellValues}
use Rattle.four_state.specs.declared.bit.Bit.{Bit}
use Rattle.chosen_early.specs.early_sets.Early.{IsEarlyBy}
use Rattle.chosen_early.specs.early_sets.WakeState.{WakeState}
use Rattle.chosen_early.specs.early_sets.declared.habit.Habit.{Habit}
use Rattle.code_values.specs.Values.{Values}
use Rattle.clocked_block.specs.entry_values.replay_model.Step.{Closing}
use Rattle.clocked_block.specs.entry_values.step_values.Dumped.{AreDumped}
use Rattle.clocked_block.specs.entry_values.step_values.Laws.{KnowsDump}
use Rattle.clocked_block.specs.entry_values.step_values.Loose.{has_code}

-- the codes have the dump's values before and after the step, and at its start those before are known
pub record IsDumpedStep (st : Closing) (codes : List (Option ℕ)) (values : Values) : Type 0 where
  pub bound : (s : ℕ) → st.bound s ≡ has_code codes s
  pub old : CellValues Bit
  pub before : AreDumped st.design codes values.closed old
  pub known : KnowsDump st.design st.bound st.start.kept old
  pub after : AreDumped st.design codes values.last st.new

-- what is early for the block in the step is what is early for it by these sets
abbrev pub IsEarlyIn : Closing → WakeState → Habit → ℕ → ℕ → Type 0
IsEarlyIn st w h p trigger = (x : ℕ) → (st.sets.early p x ≡ true) ↔ IsEarlyBy w h p trigger x
