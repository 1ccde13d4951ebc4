-- The values with which a clean block is entered, by those that the dump has given to codes.
use Rattle.std.specs.Prelude.{◌≡◌, ℕ, true, false, if◌then◌else◌, List, map, Option, Some, None}
use Rattle.event_machine.specs.Cell.{Values as CellValues}
use Rattle.four_state.specs.Vector.{Vector}
use Rattle.four_state.specs.declared.bit.Bit.{Bit}
use Rattle.known_state.specs.Join.{joined}
use Rattle.code_values.specs.Values.{Values}
use Rattle.run_views.specs.body_calls.Own.{is_in}
use Rattle.run_views.specs.body_replay.KnownBits.{KnownBits}
use Rattle.run_views.specs.body_replay.Runs.{StoreView}
use Rattle.run_views.specs.body_replay.Store.{Kept}
use Rattle.run_views.specs.design_model.Design.{Design, signal_at}
use Rattle.step_values.specs.Dumped.{AreDumped, dumped_of}
use Rattle.step_values.specs.Laws.{KnowsDump}
use Rattle.step_values.specs.Loose.{has_code}
use Rattle.step_values.specs.replay_model.Step.{Closing, entry}

-- what an old and a new value have in common: a bit is sure that stays as it was
abbrev pub common_bits : Option Vector → Option Vector → Option KnownBits
common_bits (Some a) (Some b) = Some (joined (map Some a.bits) (map Some b.bits))
common_bits _ _ = None

-- what may be read of a signal that is early: of an input that the dump has what its old and its new value have in common
abbrev pub early_bits : Design → List (Option ℕ) → Values → ℕ → Option KnownBits
early_bits d codes values s = if (signal_at d s).input then common_bits (dumped_of codes values.closed s) (dumped_of codes values.last s) else None

-- what is kept, with these hidden, of which the block reads what it is entered with by this trigger
abbrev pub entered : Closing → ℕ → List ℕ → Kept → StoreView
entered st trigger hidden k = record { kept = k; hidden = is_in hidden; shown = entry st trigger }

-- the block with this number is entered by this trigger, with these things early, and these are the codes and their values before and after the step
pub record IsEntryOf (st : Closing) (p trigger : ℕ) (early : List ℕ) (codes : List (Option ℕ)) (values : Values) : Type 0 where
  pub bound : (s : ℕ) → st.bound s ≡ has_code codes s
  pub old : CellValues Bit
  pub before : AreDumped st.design codes values.closed old
  pub known : KnowsDump st.design st.bound st.start.kept old
  pub after : AreDumped st.design codes values.last st.new
  pub coded : has_code codes trigger ≡ true
  pub early_are : (x : ℕ) → st.sets.early p x ≡ is_in early x
  pub apart : is_in early trigger ≡ false
