-- The toggle points of signals that are marked one signal after the other.
use Rattle.std.specs.Prelude.{◌≡◌, ◌<◌, ◌≤◌, ◌==◌, ℕ, false, List, [], ◌∷◌, length}
use Rattle.std.specs.List.{list_any}
use Rattle.mark_laws.specs.cover_points.Listed.{points_of}
use Rattle.mark_laws.specs.cover_points.MachinePoints.{IsOfMachine}
use Rattle.mark_laws.specs.cover_points.Visits.{point_at}
use Rattle.mark_laws.specs.cover_points.declared.listing.Points.{Points}
use Rattle.design_model.specs.Design.{signal_at}
use Rattle.design_model.specs.declared.design.Signal.{Signal}
use Rattle.point_marks.specs.declared.verdict.Verdict.{Verdict}
use Rattle.mark_laws.specs.replay_model.Step.{Closing, all_run, before_of, known_bits, point_notes}
use Rattle.mark_laws.specs.Marked.{verdict_at}
use Rattle.mark_laws.specs.Signals.{with_notes}
use Rattle.signal_marks.specs.Seen.{MarksChange}
use Rattle.signal_marks.specs.Toggled.{ListsBoth}

-- the signals that may move in the step are those of the list
abbrev pub AreMoves : Closing → List ℕ → Type 0
AreMoves st signals = (s : ℕ) → s < length st.design.signals → st.sets.moves s ≡ list_any (λ y. y == s) signals

-- the toggle points of a signal are marked by what is known of it before the step and at its end, and no other points
abbrev pub MarksMoved : Closing → Points → ℕ → List Verdict → List Verdict → Type 0
MarksMoved st ps s before after =
    MarksChange ps (signal_at st.design s) s st.time (known_bits st.design (before_of st) s) (known_bits st.design (all_run st).kept s) before after

-- those of each signal of the list are, in turn
abbrev pub MarksInTurn : Closing → Points → List ℕ → List Verdict → List Verdict → Type 0
MarksInTurn st ps [] before after = after ≡ before
MarksInTurn st ps (s ∷ signals) before after = (middle : List Verdict) × MarksMoved st ps s before middle × MarksInTurn st ps signals middle after

-- the bits of a signal are at most 128, one where it has no range, and each has a point in both directions
pub record IsMarkable (ps : Points) (x : Signal) (s : ℕ) : Type 0 where
  pub width : x.width ≤ 128
  pub plain : x.ranged ≡ false → x.width ≤ 1
  pub listed : ListsBoth ps x s

-- each verdict of a point that is no state or arc is the one before it with what the step reports of its point, and those of states and arcs are as before
pub record FollowToggles (st : Closing) (ps : Points) (before after : List Verdict) : Type 0 where
  pub count : length after ≡ length before
  pub each : (k : ℕ) → k < length (points_of ps) → (IsOfMachine (point_at ps k) → ⊥) → verdict_at after k ≡ with_notes (point_notes st (point_at ps k)) (verdict_at before k)
  pub machines : (k : ℕ) → k < length (points_of ps) → IsOfMachine (point_at ps k) → verdict_at after k ≡ verdict_at before k
