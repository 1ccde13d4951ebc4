-- The settled law: the last evaluation of a level-sensitive process reads settled values.
use Rattle.std.proofs.Common.{◌≡◌, ◌⊎◌, inl, inr, ⊎_elim, ℕ, true, false, true≢false, List, [], ◌∷◌, ◌++◌, refl, sym, subst, ap, ◌∙◌}
use Rattle.std.proofs.lemmas.Bool.{cases_Bool, eq-eqb}
use Rattle.event_machine.specs.Cell.{Cell, Values, Write, join, put_all}
use Rattle.event_machine.specs.Machine.{IsCombinational, IsLawful, IsWakeCell, Machine, Outcome, output, wakes}
use Rattle.event_machine.specs.State.{IsSettled, State}
use Rattle.event_machine.specs.Event.{Evaluate, Event, IsLegal, end_state, is_evaluation, state_after, event_writes}
use Rattle.event_machine.specs.Habit.{Habit}
use Rattle.event_machine.specs.Step.{IsStep, evaluations, outputs}
use Rattle.event_machine.specs.Laws.{OwnWriteLaw, WakingLaw, ComputedLaw, EvaluatesSettled, IdleLaw, IsIdle, SettledLaw}
use Rattle.event_machine.proofs.Writes.{Changes-cases, WritesCell-left, or_right, put_all_other, wakes_level}
use Rattle.event_machine.proofs.Inputs.{AreWrites}
use Rattle.event_machine.proofs.Rest.{settled_writes}
use Rattle.event_machine.proofs.Acts.{NoEvaluations, end_state-append, is_evaluation_is, last_evaluation, legal_after, no_evaluations, once_written}
use Rattle.event_machine.proofs.Leaves.{AreWrites_end_state, due_blocking, end_state_leaves, value_after, value_after_put_all, value_after_written, write_law}

module _ {V : Type 0} (m : Machine V) (lawful : IsLawful m) (p : ℕ) where
  -- after another event than its evaluation, p is woken if it was or if the event wakes it
  pub stays_woken : (s : State V) (e : Event V) → is_evaluation p e ≡ false → s.woken p ≡ true → (state_after m s e).woken p ≡ true
  stays_woken s e other is = rw (other, is) refl

  pub gets_woken : (s : State V) (e : Event V) → is_evaluation p e ≡ false → wakes m p s.values (event_writes m s e) ≡ true → (state_after m s e).woken p ≡ true
  gets_woken s e other is = rw (other, is) (or_right (s.woken p) true refl)

  stays_woken_all : (es : List (Event V)) (s : State V) → NoEvaluations p es → s.woken p ≡ true → (end_state m s es).woken p ≡ true
  stays_woken_all [] s none is = is
  stays_woken_all (e ∷ es) s none is = stays_woken_all es (state_after m s e) none.1 (stays_woken s e none.0 is)

  -- along events without an evaluation of p that leave it not woken, its wake cells keep their values
  unwoken_keeps : (es : List (Event V)) (s : State V) → NoEvaluations p es → (end_state m s es).woken p ≡ false → (c : Cell) → m.level p c.thing ≡ true → (end_state m s es).values c ≡ s.values c
  unwoken_keeps [] s none quiet c level = refl
  unwoken_keeps (e ∷ es) s none quiet c level =
      unwoken_keeps es (state_after m s e) none.1 quiet c level
      ∙ ⊎_elim
      (λ changes. absurd (true≢false (sym (stays_woken_all es (state_after m s e) none.1 (gets_woken s e none.0 (wakes_level m lawful p s.values (event_writes m s e) c level changes))) ∙ quiet)))
      (λ kept. kept)
      (Changes-cases m lawful s.values (event_writes m s e) c)

  -- p's own evaluation changes none of its wake cells
  evaluation_keeps : (s : State V) (c : Cell) → m.blocking p c ≡ false → (state_after m s (Evaluate p)).values c ≡ s.values c
  evaluation_keeps s c not_own = put_all_other s.values _ c (λ h. true≢false (sym (lawful.blocking_kept p s.values c h) ∙ not_own))

  LastEvaluation : List (Event V) → Type 0
  LastEvaluation es = (before : List (Event V)) × (after : List (Event V)) × (es ≡ before ++ Evaluate p ∷ after) × NoEvaluations p after

  last_evaluation_of : (es : List (Event V)) → LastEvaluation es ⊎ NoEvaluations p es
  unfolding LastEvaluation
  last_evaluation_of [] = inr tt
  last_evaluation_of (e ∷ es) = go (cases_Bool (is_evaluation p e)) (last_evaluation_of es)
    where
      go : (is_evaluation p e ≡ true) ⊎ (is_evaluation p e ≡ false) → LastEvaluation es ⊎ NoEvaluations p es → LastEvaluation (e ∷ es) ⊎ NoEvaluations p (e ∷ es)
      go here (inl later) = inl (e ∷ later.0, later.1, ap (λ (l : List (Event V)). e ∷ l) later.2, later.3)
      go (inl here) (inr none) = inl ([], es, ap (λ (x : Event V). x ∷ es) (is_evaluation_is p e here), none)
      go (inr other) (inr none) = inr (other, none)

  evaluates_settled : (h : Habit) (s : State V) (es : List (Event V)) → IsStep m h s es → LastEvaluation es → EvaluatesSettled m p s es
  unfolding LastEvaluation
  evaluates_settled h s es step last =
      record {
        earlier = evaluations m p s last.0;
        entry = entry.values;
        evaluated = ap (evaluations m p s) last.2 ∙ last_evaluation m p last.0 last.1 s last.3;
        settled = λ d wakes_at.
            sym
            (ap (λ (x : State V). x.values d) ends
            ∙ unwoken_keeps last.1 (state_after m entry (Evaluate p)) last.3 (ap (λ (x : State V). x.woken p) (sym ends) ∙ step.ends.none_woken p) d wakes_at.0
            ∙ evaluation_keeps entry d wakes_at.1);
        leaves = λ d blocks.
            ap (λ (x : State V). x.values d) (ap (end_state m s) last.2 ∙ end_state-append m last.0 (Evaluate p ∷ last.1) s)
            ∙ end_state_leaves m lawful p d (inl blocks) (Evaluate p ∷ last.1) entry are (legal_after m last.0 (Evaluate p ∷ last.1) s (subst (IsLegal m s) last.2 step.legal)) (subst IsSettled ends step.ends) (due_blocking m lawful p d (inl blocks) entry are blocks)
            ∙ ap (λ (l : List (Write V)). put_all entry.values l d) (once_written m p [] last.1 entry tt last.3);
      }
    where
      entry : State V
      entry = end_state m s last.0

      ends : end_state m s es ≡ end_state m (state_after m entry (Evaluate p)) last.1
      ends = ap (end_state m s) last.2 ∙ end_state-append m last.0 (Evaluate p ∷ last.1) s

      are : AreWrites m entry
      are = AreWrites_end_state m lawful last.0 s (settled_writes m s step.starts)

  evaluated_or_idle : (h : Habit) (s : State V) (es : List (Event V)) → IsStep m h s es → LastEvaluation es ⊎ NoEvaluations p es → EvaluatesSettled m p s es ⊎ IsIdle m p s es
  unfolding LastEvaluation
  evaluated_or_idle h s es step (inr none) = inr (record { not_evaluated = no_evaluations m p es s none; kept = unwoken_keeps es s none (step.ends.none_woken p) })
  evaluated_or_idle h s es step (inl last) = inl (evaluates_settled h s es step last)

pub waking_law : {V : Type 0} (m : Machine V) → IsLawful m → WakingLaw m
waking_law m lawful s e c p changes level other =
    gets_woken m lawful p s e other (wakes_level m lawful p s.values (event_writes m s e) c level changes)

pub own_write_law : {V : Type 0} (m : Machine V) → OwnWriteLaw m
own_write_law m s p = rw (eq-eqb p p refl) refl

pub idle_law : {V : Type 0} (m : Machine V) → IsLawful m → IdleLaw m
idle_law m lawful h s es step p = evaluated_or_idle m lawful p h s es step (last_evaluation_of m lawful p es)

pub settled_law : {V : Type 0} (m : Machine V) → IsLawful m → SettledLaw m
settled_law m lawful h s es step p c wake changes =
    ⊎_elim (λ evaluated. evaluated) (λ idle. absurd (changes (idle.kept c wake.0))) (idle_law m lawful h s es step p)

-- what is written does not depend on what was there
module _ {V : Type 0} (m : Machine V) (p : ℕ) (c : Cell) (made : IsCombinational m p c) where
  same_output : (u v : Values V) → ((d : Cell) → IsWakeCell m p d → u d ≡ v d) → put_all u (output m p u) c ≡ put_all v (output m p v) c
  same_output u v agree =
      value_after_put_all c u (output m p u)
      ∙ value_after_written c (u c) (v c) (output m p u) (WritesCell-left c (m.evaluate p u).blocking (join (m.evaluate p u).nonblocking) (made.writes u))
      ∙ ap (λ (o : Outcome V). value_after c (v c) (o.blocking ++ join o.nonblocking)) (made.reads u v agree)
      ∙ sym (value_after_put_all c v (output m p v))

pub computed_law : {V : Type 0} (m : Machine V) → IsLawful m → ComputedLaw m
computed_law m lawful h s es step p c made before =
    ⊎_elim
    (λ evaluated. evaluated.leaves c target ∙ same_output m p c made evaluated.entry (end_state m s es).values evaluated.settled)
    (λ idle.
    write_law m lawful h s es step p c (inl target)
    ∙ ap (λ (l : List (Values _)). put_all s.values (outputs m p l) c) idle.not_evaluated
    ∙ before idle.not_evaluated
    ∙ same_output m p c made s.values (end_state m s es).values (λ d wake. sym (idle.kept d wake.0)))
    (idle_law m lawful h s es step p)
  where
    target : m.blocking p c ≡ true
    target = lawful.blocking_kept p s.values c (made.writes s.values)
