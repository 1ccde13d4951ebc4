-- A dump without a window: nothing is reported, and no point can be hit.
use Rattle.std.proofs.Common.{◌≡◌, ◌++◌, ℕ, List, [], ◌∷◌, inl, inr, subst}
use Rattle.design_model.specs.Design.{Design}
use Rattle.design_model.specs.Points.{IsHit}
use Rattle.design_model.specs.Run.{Run}
use Rattle.design_model.specs.Shows.{BoundDump, IsWindow}
use Rattle.design_model.specs.declared.point.Point.{Point}
use Rattle.event_machine.specs.Habit.{Habit}
use Rattle.mark_laws.specs.replay_model.Laws.{AreReasonedVerdicts, AreSoundVerdicts}
use Rattle.mark_laws.specs.replay_model.Marks.{IsVerdict, Hit, Undetermined}
use Rattle.mark_laws.specs.replay_model.Step.{Replay}

some_item : {A : Type 0} (before : List A) (x : A) (after : List A) → [] ≡ before ++ x ∷ after → ⊥
some_item [] x after e = cc
some_item (b ∷ before) x after e = cc

module _ (d : Design) (h : Habit) (dump : BoundDump) (points : List Point) (a : Replay) (none : (t : ℕ) → IsWindow dump t → ⊥) (silent : a.notes ≡ []) where
  never : (r : Run) (x : Point) → IsHit d dump r x → ⊥
  never r x (inl hit) = none _ hit.1
  never r x (inr hit) = none hit.0 hit.1

  pub no_sound : AreSoundVerdicts d h dump points a
  no_sound =
      record {
        hit = λ x is r run shows. absurd (subst (λ ns. IsVerdict d x ns Hit) silent is);
        missed = λ x i is r run shows hit. never r x hit;
      }

  pub no_reasons : AreReasonedVerdicts d h dump points a
  no_reasons =
      record {
        doubted = λ x y is. let first = (subst (λ ns. IsVerdict d x ns (Undetermined y)) silent is).1 in absurd (some_item first.0 first.1 first.2 first.3);
        decided = λ x y i is r run shows t window certain hit. none t window;
        reached = λ t p x is. absurd (none t is.0);
      }
