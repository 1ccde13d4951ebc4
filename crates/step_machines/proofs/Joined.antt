-- Verdicts of states and arcs that are marked twice.
use Rattle.std.proofs.Common.{◌≡◌, ◌∙◌, ℕ, ◌||◌, Bool, true, false, List, refl, sym, ap}
use Rattle.cover_points.specs.Visits.{IsMachinePointAt}
use Rattle.cover_points.specs.declared.listing.Points.{Points}
use Rattle.cover_points.specs.declared.machine_point.MachinePoint.{MachinePoint}
use Rattle.point_marks.specs.declared.verdict.Verdict.{Verdict}
use Rattle.point_marks.specs.declared.verdict.Verdict.TheVariants.{Hit, Missed, Undetermined}
use Rattle.signal_marks.specs.Toggled.{toggled}
use Rattle.machine_marks.specs.Marked.{Chances, MarksEach, marked_if}

-- a verdict that is marked so already stays
marked_again : (s t : ℕ) (sure possible : Bool) (v : Verdict) → toggled s t sure possible (toggled s t sure possible v) ≡ toggled s t sure possible v
marked_again s t true possible v = refl
marked_again s t false true Hit = refl
marked_again s t false true (Undetermined y) = refl
marked_again s t false true Missed = refl
marked_again s t false false v = refl

-- a second test with the same chances
pub either : (a b : Bool) (s t : ℕ) (c : Chances) (v : Verdict) → marked_if b s t c (marked_if a s t c v) ≡ marked_if (a || b) s t c v
either true true s t c v = marked_again s t c.sure c.possible v
either true false s t c v = refl
either false b s t c v = refl

module _ (ps : Points) where
  -- marks one after the other
  pub joined : (first second both : MachinePoint → Verdict → Verdict) (before middle after : List Verdict) → MarksEach ps first before middle → MarksEach ps second middle after
      → ((n : ℕ) (p : MachinePoint) → IsMachinePointAt ps n p → (v : Verdict) → second p (first p v) ≡ both p v) → MarksEach ps both before after
  joined first second both before middle after a b same = record {
    count = b.count ∙ a.count;
    each = λ n p at. b.each n p at ∙ ap (second p) (a.each n p at) ∙ same n p at _;
    others = λ n no. b.others n no ∙ a.others n no;
  }

  -- the same marks, said in another way
  pub restated : (mark other : MachinePoint → Verdict → Verdict) (before after : List Verdict) → MarksEach ps mark before after → ((n : ℕ) (p : MachinePoint) → IsMachinePointAt ps n p → (v : Verdict) → mark p v ≡ other p v) → MarksEach ps other before after
  restated mark other before after a same = record {
    count = a.count;
    each = λ n p at. a.each n p at ∙ same n p at _;
    others = λ n no. a.others n no;
  }

  -- no marks
  pub none_marked : (mark : MachinePoint → Verdict → Verdict) (vs : List Verdict) → ((n : ℕ) (p : MachinePoint) → IsMachinePointAt ps n p → (v : Verdict) → mark p v ≡ v) → MarksEach ps mark vs vs
  none_marked mark vs none = record {
    count = refl;
    each = λ n p at. sym (none n p at _);
    others = λ n no. refl;
  }
