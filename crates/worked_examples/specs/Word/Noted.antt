-- An example of what a run leaves of the words that it does not note, by the design of `ram`.
use Rattle.std.specs.Prelude.{◌≡◌, [], ◌∷◌, Some, false}
use Rattle.design_model.specs.Design.{cell}
use Rattle.design_model.specs.Ram.{ram, ram_values}
use Rattle.four_state.specs.declared.bit.Bit.TheVariants.{One, X, Zero}
use Rattle.body_replay.specs.Contract.{HasNote, Outcome, clean, perhaps, quiet, weak}
use Rattle.body_replay.specs.Replay.{flush, word_write}
use Rattle.body_replay.specs.Runs.{StoreView, runs_of}
use Rattle.body_replay.specs.Store.{Kept}
use Rattle.noted_words.specs.Unnoted.{IsMarking}

-- the clock and the enable are 1, and each word is 0
abbrev pub kept : Kept
kept c = Some (ram_values One One Zero (Zero ∷ Zero ∷ Zero ∷ Zero ∷ []) c)

abbrev pub before : StoreView
before = record { kept = kept; hidden = λ x. false; shown = kept }

-- a clean run of the block, which writes word 3
abbrev pub run : Outcome
run = runs_of ram 0 before (clean 5)

-- word 3 is noted and written, and word 2 neither; each way but quiet notes what it writes
pub record IsNotedExample : Type 0 where
  pub noted : HasNote (word_write 6 3) run.notes
  pub not_noted : HasNote (word_write 6 2) run.notes → ⊥
  pub written : flush kept run.queue (cell 6 3) ≡ Some One
  pub left : flush kept run.queue (cell 6 2) ≡ Some Zero
  pub cleanly : IsMarking (clean 5)
  pub possibly : IsMarking (perhaps 5 1)
  pub weakly : IsMarking (weak 5 1)
  pub quietly : IsMarking quiet → ⊥
