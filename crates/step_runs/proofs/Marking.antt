-- The parts of the code after a run whose notes were marked.
use Rattle.std.proofs.Common.{◌≡◌, ℕ, Bool, true, ◌++◌, List, [], refl, sym, subst}
use Rattle.body_replay.specs.Contract.{Note}
use Rattle.body_replay.specs.Runs.{Runs, own_store, runs_of}
use Rattle.body_replay.specs.Contract.{Certainty, Store as ModelStore, outcome}
use Rattle.settling.specs.body_store.declared.store.Store.{Store}
use Rattle.run_marks.specs.cover_marks.Marks.{AreMarksOf}
use Rattle.run_marks.specs.cover_marks.declared.marks.Marks.{Marks}
use Rattle.run_marks.specs.cover_points.Visits.{AreApart, AreOnce}
use Rattle.run_marks.specs.cover_points.declared.listing.Points.{Points}
use Rattle.design_model.specs.Design.{Design, body_at}
use Rattle.design_model.specs.Lawful.{IsLawfulDesign}
use Rattle.early_sets.specs.WakeState.{WakeState}
use Rattle.run_marks.specs.mark_laws.Marked.{AreVerdicts}
use Rattle.settling.specs.replay_model.Marks.{Marking, markings_by}
use Rattle.settling.specs.replay_model.Step.{Closing, Working, certainty, is_touched, plain_store, run_settling, settled_kept}
use Rattle.run_marks.specs.Reported.{AreNotesOf, HasReported, HasTaken, TakenStart}
use Rattle.run_marks.proofs.Listed.{none_listed}
use Rattle.run_marks.proofs.Reports.{none_reported}
use Rattle.step_words.specs.Words.{StepState}
use Rattle.written_words.specs.Written.{WrittenState}
use Rattle.step_runs.specs.Runs.{AtRun}
use Rattle.settling.specs.Runs.{AtPoint, outcome_at}
use Rattle.settling.proofs.Stepping.{touched_is}
use Rattle.settling.specs.step_values.Vectors.{StepVectors}

-- the parts except the marks
pub at_point : (st : Closing) (ps : Points) (w : Working) (x : Store) (v : StepVectors) (words : StepState) (sets : WakeState) (flags : List Bool) (m : Marks) → AtRun st ps w x v words sets flags m → AtPoint st w x v words sets flags
at_point st ps w x v words sets flags m at = record { state = record { values = at.step.values; still = at.step.still; moves = at.step.moves }; words = at.words; acted = at.step.acted }

-- what a run starts from that is of a process, with these verdicts
abbrev pub start_with : Design → Points → List Marking → ℕ → Marks → WrittenState → TakenStart
start_with d ps earlier p m u = record { marks = record { design = d; points = ps; earlier = earlier; process = p; before = m.verdicts }; written = u }

module _ (p : ℕ) (ps qs : Points) (q : ℕ) (m n : Marks) (u z : WrittenState) (marks : AreMarksOf ps m) where
  -- the sink has taken these notes since any start with these marks and this list
  abbrev pub Takes : List Note → Type 0
  Takes ns = (s : TakenStart) → HasTaken s [] p ps m u → HasTaken s ns q qs n z

  module _ (d : Design) (earlier : List Marking) where
    abbrev begun : TakenStart
    begun = start_with d ps earlier p m u

    taken : (ns : List Note) → Takes ns → HasTaken begun ns q qs n z
    taken ns takes = takes begun (record { reported = none_reported begun.marks m marks refl; listed = none_listed u })

    reported : (ns : List Note) → Takes ns → HasReported begun.marks ns q qs n
    reported ns takes = (taken ns takes).reported

    -- the same words are followed
    pub same_first : (ns : List Note) → Takes ns → z.first ≡ u.first
    same_first ns takes = (taken ns takes).listed.first

    pub same_ranges : (ns : List Note) → Takes ns → z.ranges ≡ u.ranges
    same_ranges ns takes = (taken ns takes).listed.ranges

    -- the marks are of the same points
    pub same_points : (ns : List Note) → Takes ns → qs ≡ ps
    same_points ns takes = (reported ns takes).points

    pub same_marks : (ns : List Note) → Takes ns → AreMarksOf ps n
    same_marks ns takes = (reported ns takes).marks

    pub more_verdicts : (ns : List Note) → Takes ns → AreApart ps → AreOnce ps → AreVerdicts d ps earlier m.verdicts → AreNotesOf d p ns → AreVerdicts d ps (earlier ++ markings_by p ns) n.verdicts
    more_verdicts ns takes apart once before own = (reported ns takes).verdicts (record { apart = apart; once = once; verdicts = before }) own

-- what the run of a process notes is of its points
own_notes : ((d : Design) (p : ℕ) (x : ModelStore) (how : Certainty) → IsLawfulDesign d → AreNotesOf d p (outcome d (body_at d p) x how).notes) → (st : Closing) (w : Working) (p : ℕ) → st.run ≡ runs_of st.design → IsLawfulDesign st.design → AreNotesOf st.design p (outcome_at st w p).notes
own_notes law st w p runs lawful =
    subst (λ (run : Runs). AreNotesOf st.design p (run p (plain_store (settled_kept st.design p w.kept)) (certainty st w.kept p)).notes) (sym runs)
    (law st.design p (own_store (plain_store (settled_kept st.design p w.kept))) (certainty st w.kept p) lawful)

module _ (st : Closing) (ps qs : Points) (w : Working) (p q : ℕ) (ordered : Bool) (sets : WakeState) (x y : Store) (v u : StepVectors) (words : StepState) (before flags : List Bool) (m n : Marks) (b z : WrittenState)
    (law : (d : Design) (p : ℕ) (x : ModelStore) (how : Certainty) → IsLawfulDesign d → AreNotesOf d p (outcome d (body_at d p) x how).notes) (lawful : IsLawfulDesign st.design) (runs : st.run ≡ runs_of st.design) (touched : is_touched st p ≡ true) (apart : AreApart ps) (once : AreOnce ps)
    (at : AtRun st ps w x v words sets before m) (after : AtPoint st (run_settling st ordered p w) y u words sets flags) (takes : Takes p ps qs q m n b z at.step.points (outcome_at st w p).notes) where
  verdicts : AreVerdicts st.design ps (run_settling st ordered p w).notes n.verdicts
  verdicts =
      subst (λ (a : Working). AreVerdicts st.design ps a.notes n.verdicts) (sym (touched_is st ordered p w touched))
      (more_verdicts p ps qs q m n b z at.step.points st.design w.notes (outcome_at st w p).notes takes apart once at.step.marks (own_notes law st w p runs lawful))

  -- all parts of the step
  pub step_after : AtRun st ps (run_settling st ordered p w) y u words sets flags n
  step_after = record {
    step = record {
      values = after.state.values;
      still = after.state.still;
      moves = after.state.moves;
      acted = after.acted;
      points = same_marks p ps qs q m n b z at.step.points st.design w.notes (outcome_at st w p).notes takes;
      marks = verdicts;
    };
    words = after.words;
  }
