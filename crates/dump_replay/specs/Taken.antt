-- What was taken of a dump that is read.
use Rattle.std.specs.Prelude.{◌≤◌, ℕ, List, length, Option}
use Rattle.four_state.specs.Vector.{Vector}
use Rattle.design_model.specs.Shows.{BoundDump}
use Rattle.vcd_reader.specs.Dump.{stretches_of}
use Rattle.vcd_reader.specs.declared.entry.Entry.{Entry}
use Rattle.shown_dumps.specs.Bound.{HaveFirstValues}
use Rattle.shown_dumps.specs.Ongoing.{AreGiven, HoldsOn, HoldsPaused}
use Rattle.shown_dumps.specs.Said.{open_stretch, times_in}

-- nothing of the stretch that is on was closed, and this holds of each dump that goes on, up to where more of it is shown
pub record HasWaited (P : BoundDump → ℕ → Type 0) (New : Type 0) (codes : List (Option ℕ)) (entries : List Entry) : Type 0 where
  pub is_new : New
  pub holds : HoldsPaused P codes entries

-- these entries were given: the values are the last ones of the stretch that is on, nothing of it was closed before its second time, in each stretch with two times each bound signal has a first value, and this holds of each dump that goes on
pub record HasTaken (P Q : BoundDump → ℕ → Type 0) (New : Type 0) (codes : List (Option ℕ)) (values : ℕ → Option Vector) (entries : List Entry) : Type 0 where
  pub given : AreGiven codes values entries
  pub waits : length (times_in (open_stretch entries)) ≤ 1 → HasWaited Q New codes entries
  pub based : HaveFirstValues codes (stretches_of entries)
  pub follows : HoldsOn P codes entries
