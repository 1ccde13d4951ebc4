-- The parts of the code between the runs of the Clocked blocks of a step.
use Rattle.std.specs.Prelude.{◌≡◌, ℕ, true, false, List}
use Rattle.event_machine.specs.Cell.{Cell}
use Rattle.body_replay.specs.Replay.{flush}
use Rattle.design_model.specs.BodyLaws.{word_indexes}
use Rattle.design_model.specs.Design.{Design, In, is_memory, word_cells}
use Rattle.chosen_runs.specs.clocked_block.OneRun.{AtRuns}
use Rattle.chosen_runs.specs.clocked_block.clocked_runs.CanRun.{CanRun}
use Rattle.chosen_runs.specs.clocked_block.clocked_runs.run_views.Meets.{plain_view}
use Rattle.chosen_runs.specs.clocked_block.clocked_runs.run_views.body_replay.Store.{Kept, KnownWrite}
use Rattle.chosen_runs.specs.clocked_block.clocked_runs.run_views.body_store.declared.store.Store.{Store}
use Rattle.chosen_runs.specs.clocked_block.entry_values.replay_model.Step.{Closing, Working}
use Rattle.run_marks.specs.cover_marks.Marks.{AreMarksOf}
use Rattle.run_marks.specs.cover_points.declared.listing.Points.{Points}
use Rattle.run_marks.specs.declared.notes.MarkNotes.{MarkNotes}
use Rattle.run_marks.specs.mark_laws.Marked.{AreVerdicts}
use Rattle.written_words.specs.Written.{WrittenState, has_word, is_followed}

-- a followed word that is not listed as written is kept as at the start of the step, and what is queued leaves it
abbrev pub AreUnwritten : Closing → Working → WrittenState → Type 0
AreUnwritten st w x =
    (m i : ℕ) (c : Cell) → is_memory st.design m ≡ true → In i (word_indexes st.design m) → is_followed x m i ≡ true → has_word x m i ≡ false → In c (word_cells st.design m i)
    → (w.kept c ≡ st.start.kept c) × ((k : Kept) → flush k w.queue c ≡ k c)

-- the store, the marks of these points and the words listed as written are those of this state of the step, and these processes can still run
pub record AtClocked (st : Closing) (ps : Points) (w : Working) (waiting : List ℕ) (x : Store) (n : MarkNotes) : Type 0 where
  pub runs : AtRuns st w waiting x
  pub points : AreMarksOf ps n.marks
  pub marks : AreVerdicts st.design ps w.notes n.marks.verdicts
  pub unwritten : AreUnwritten st w n.written

-- the store knows something and has writes queued, and these processes can run one after the other
pub record CanRunAll (d : Design) (ps : List ℕ) (x : Store) : Type 0 where
  pub kept : Kept
  pub queue : List KnownWrite
  pub runs : CanRun d (plain_view kept) queue ps x
