-- What a process has left stays as it left it, at each later settled time.
use Rattle.std.proofs.Common.{◌≡◌, ⊎_elim, ℕ, zero, suc, ◌+◌, ◌-◌, List, sym, ap, subst, ◌∙◌, inl, arith}
use Rattle.event_machine.specs.Cell.{Values, put_all}
use Rattle.event_machine.specs.Habit.{Habit}
use Rattle.event_machine.specs.Laws.{EvaluatesSettled, IsIdle}
use Rattle.event_machine.specs.Step.{outputs}
use Rattle.four_state.specs.declared.bit.Bit.{Bit}
use Rattle.design_model.specs.Design.{Design}
use Rattle.design_model.specs.Machine.{machine}
use Rattle.design_model.specs.Run.{IsRun, Run, settled}
use Rattle.design_model.specs.StepLaws.{IsLeft, LeftStaysLaw}
use Rattle.design_model.proofs.Hits.{step_here}
use Rattle.design_model.proofs.StepLaws.{StepLaws}
use Rattle.design_model.proofs.Times.{StepTo}

module _ (d : Design) (h : Habit) (laws : StepLaws (machine d) h) (r : Run) (is_run : IsRun d h r) (p : ℕ) where
  -- over a step in which it is evaluated, at last on settled values
  evaluated : (t : ℕ) (s : StepTo (machine d) h (settled d r t) (settled d r (suc t))) → EvaluatesSettled (machine d) p s.start s.events → IsLeft d p (settled d r (suc t))
  evaluated t s e =
      record {
        entry = e.entry;
        wakes = λ c wake. e.settled c wake ∙ ap (λ f. f c) s.ends;
        leaves = λ c target. sym (ap (λ f. f c) s.ends) ∙ e.leaves c target;
      }

  -- and over one in which nothing that it is sensitive to changes
  idle : (t : ℕ) (s : StepTo (machine d) h (settled d r t) (settled d r (suc t))) → IsIdle (machine d) p s.start s.events → IsLeft d p (settled d r t) → IsLeft d p (settled d r (suc t))
  idle t s e left =
      record {
        entry = left.entry;
        wakes = λ c wake. left.wakes c wake ∙ sym (sym (ap (λ f. f c) s.ends) ∙ e.kept c wake.0 ∙ ap (λ f. f c) s.starts);
        leaves = λ c target.
            sym (ap (λ f. f c) s.ends) ∙ laws.write h s.start s.events s.is_step p c (inl target) ∙ ap (λ (vs : List (Values Bit)). put_all s.start.values (outputs (machine d) p vs) c) e.not_evaluated ∙ ap (λ f. f c) s.starts ∙ left.leaves c target;
      }

  one : (t : ℕ) → IsLeft d p (settled d r t) → IsLeft d p (settled d r (suc t))
  one t left = ⊎_elim (λ same. subst (IsLeft d p) (sym same) left) (λ here. stepped here.to) (step_here d h r is_run t)
    where
      stepped : StepTo (machine d) h (settled d r t) (settled d r (suc t)) → IsLeft d p (settled d r (suc t))
      stepped s = ⊎_elim (λ e. evaluated t s e) (λ e. idle t s e left) (laws.idle h s.start s.events s.is_step p)

  more : (n t : ℕ) → IsLeft d p (settled d r t) → IsLeft d p (settled d r (t + n))
  more zero t left = let same : t ≡ t + 0 = omega arith in subst (λ u. IsLeft d p (settled d r u)) same left
  more (suc n) t left = let same : suc t + n ≡ t + suc n = omega arith in subst (λ u. IsLeft d p (settled d r u)) same (more n (suc t) (one t left))

pub left_stays_law : (d : Design) (h : Habit) → StepLaws (machine d) h → LeftStaysLaw d h
left_stays_law d h laws r t u p is_run le left =
    let there : t + (u - t) ≡ u = omega (arith, le) in
    subst (λ v. IsLeft d p (settled d r v)) there (more d h laws r is_run p (u - t) t left)
