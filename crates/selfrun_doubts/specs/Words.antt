-- The words that are clear in the dump of a selfrun.
use Rattle.std.specs.Prelude.{◌<◌, ◌≤◌, ◌+◌, ◌*◌, ℕ, suc, slice_index}
use Rattle.event_machine.specs.Habit.{Free}
use Rattle.four_state.specs.Arithmetic.{low_bits}
use Rattle.design_model.specs.Design.{a_word}
use Rattle.design_model.specs.Shows.{BoundDump}
use Rattle.design_model.specs.Clear.{clear}
use Rattle.selfrun_design.specs.Selfrun.{selfrun}
use Rattle.selfrun_files.specs.Moments.{registers_after}
use Rattle.selfrun_runs.specs.Says.{SaysSelfrun}

-- Words law: from the edge of step k up to the edge of the next step, each word that one of the steps up to k has written is clear, with the value that the
-- generator computes. The first 16 steps write the 16 words one after the other.
abbrev pub WordsLaw : Type 0
WordsLaw =
    (number steps : ℕ) (dump : BoundDump) → SaysSelfrun number steps dump → (k j i : ℕ) → 10 * k + 5 + j < 10 * steps → j < 10 → i < 16 → i ≤ k
    → clear selfrun Free dump (10 * k + 5 + j) (a_word 6 i) (low_bits 8 (slice_index (registers_after number (suc k)).words i))
