-- The parts of the code beside the replay, between steps and within a step.
use Rattle.std.specs.Prelude.{◌≡◌, ℕ, Bool, false, List, slice_index_or}
use Rattle.signal_marks.specs.bit_changes.declared.toggles.Toggles.{Toggles}
use Rattle.step_changes.specs.body_store.declared.store.Store.{Store}
use Rattle.signal_marks.specs.cover_marks.Marks.{AreMarksOf}
use Rattle.signal_marks.specs.cover_marks.declared.marks.Marks.{Marks}
use Rattle.mark_laws.specs.cover_points.declared.listing.Points.{Points}
use Rattle.signal_marks.specs.design_model.Design.{Design, IsComb, process_at}
use Rattle.step_changes.specs.early_sets.Has.{is_in}
use Rattle.step_changes.specs.early_sets.WakeState.{WakeState}
use Rattle.mark_laws.specs.Marked.{AreVerdicts}
use Rattle.mark_laws.specs.replay_model.Step.{Closing, Replay, Working}
use Rattle.step_changes.specs.replay_steps.Settling.{IsStillAt}
use Rattle.signal_marks.specs.Seen.{AreSeen}
use Rattle.step_changes.specs.step_values.Starts.{HasValues}
use Rattle.step_changes.specs.step_values.Vectors.{StepVectors}
use Rattle.step_changes.specs.store_knowledge.Knows.{Knows}

-- the flag of a process, false where it has no flag
abbrev pub flag_at : List Bool → ℕ → Bool
flag_at flags p = slice_index_or flags p false

-- the flags say which Combs have surely acted
abbrev pub AreActed : Design → List Bool → (ℕ → Bool) → Type 0
AreActed d flags acted = (p : ℕ) → IsComb (process_at d p) → flag_at flags p ≡ acted p

-- within a step the store, the vectors that are set aside, the sets, the flags and the marks of these points are those of the replay
pub record AtStep (st : Closing) (ps : Points) (w : Working) (x : Store) (v : StepVectors) (sets : WakeState) (flags : List Bool) (m : Marks) : Type 0 where
  pub values : HasValues st w x v
  pub still : IsStillAt st w
  pub moves : (s : ℕ) → st.sets.moves s ≡ is_in sets.moves s
  pub acted : AreActed st.design flags w.acted
  pub points : AreMarksOf ps m
  pub marks : AreVerdicts st.design ps w.notes m.verdicts

-- between steps the store, the flags, the marks of these points and the masks of what is marked already are those of the replay
pub record AtRest (d : Design) (ps : Points) (a : Replay) (x : Store) (flags : List Bool) (m : Marks) (masks : List Toggles) : Type 0 where
  pub knows : Knows d a.kept x
  pub acted : AreActed d flags a.acted
  pub points : AreMarksOf ps m
  pub marks : AreVerdicts d ps a.notes m.verdicts
  pub seen : AreSeen d ps masks m.verdicts
