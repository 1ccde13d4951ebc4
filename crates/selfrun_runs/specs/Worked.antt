-- The worked case: the run from the number 1.
use Rattle.std.specs.Prelude.{◌≡◌, ℕ, Bool, false, slice_index}
use Rattle.four_state.specs.declared.bit.Bit.TheVariants.{Zero}
use Rattle.design_model.specs.Mentions.{blank}
use Rattle.selfrun_files.specs.Moments.{inputs_in, registers_after}
use Rattle.selfrun_runs.specs.Signals.{HasSignals}

-- In the steps 0 and 1 the words 0 and 1 become what p was, which is 0 and 60, and p becomes 60 and 94. In step 16 the word 12 is read.
pub record IsWorkedCase : Type 0 where
  pub first_p : (registers_after 1 1).p ≡ 60
  pub second_p : (registers_after 1 2).p ≡ 94
  pub first_word : slice_index (registers_after 1 2).words 0 ≡ 0
  pub second_word : slice_index (registers_after 1 2).words 1 ≡ 60
  pub q : (registers_after 1 16).q ≡ 0
  pub read : (inputs_in 1 16).we ≡ false
  pub read_word : (inputs_in 1 16).a ≡ 12
  pub read_q : (registers_after 1 17).q ≡ 108
  pub unknown : (we : Bool) (a d q p : ℕ) → HasSignals blank Zero we a d q p → ⊥  -- a state of unknown values has no such signals
