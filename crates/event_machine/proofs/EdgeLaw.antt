-- The edge law: a clean block is evaluated exactly once, on the values of the step's start except for early things and its trigger.
use Rattle.std.proofs.Common.{◌≡◌, ◌≢◌, ◌⊎◌, inl, ⊎_elim, ℕ, true, false, true≢false, List, [], ◌∷◌, ◌++◌, refl, sym, ap, subst, ◌∙◌, append-nil}
use Rattle.std.proofs.lemmas.Bool.{cases_Bool}
use Rattle.event_machine.specs.Cell.{Cell, Changes, UpdatesCell, Values, Write, put_all}
use Rattle.event_machine.specs.Machine.{IsLawful, Machine, output, wakes}
use Rattle.event_machine.specs.State.{IsSettled, State}
use Rattle.event_machine.specs.Event.{Activate, Apply, CanOccur, Evaluate, Event, IsLegal, Move, end_state, is_evaluation, state_after, event_writes}
use Rattle.event_machine.specs.Habit.{Habit, IsNoWakingMove, NoWakingMoves}
use Rattle.event_machine.specs.Step.{IsStep, evaluations, outputs}
use Rattle.event_machine.specs.Told.{IsAsTold, IsToldCell, IsToldInput, Told}
use Rattle.event_machine.specs.MayMove.{IsClean}
use Rattle.event_machine.specs.Early.{IsEarly}
use Rattle.event_machine.specs.Laws.{EvaluatesOnce}
use Rattle.event_machine.proofs.Writes.{AreOldToNew, Changes-WritesCell, Changes-cases, no_edge, single_changes, wakes_why}
use Rattle.event_machine.proofs.Inputs.{AllOldToNew, AreWrites, AreWrites-kept, EndsAsTold, IsMove, IsToldSoFar, input_still, so_far_kept, told_values}
use Rattle.event_machine.proofs.Rest.{ComesFromMayMove, ComesFromMayMove-kept, event_may, settled_from_may, settled_writes, woken_cases}
use Rattle.event_machine.proofs.Acts.{NoEvaluations, is_evaluation_is, one_evaluation_at}
use Rattle.event_machine.proofs.Leaves.{write_law}
use Rattle.event_machine.proofs.Pending.{IsPending, pending_kept, trigger_changes, trigger_edge, trigger_stays, woken_by_trigger}
use Rattle.event_machine.proofs.Habits.{MovesFreeInputs, WaitsForQuiet, waits_for_quiet}

settled_pending : {V : Type 0} (m : Machine V) (t : Told V) (single : Cell → Type 0) (h : Habit) (b : ℕ) (c : Cell) (s : State V) → IsSettled s → s.values c ≡ t.old c → IsPending m t single h b c s.values s
settled_pending m t single h b c s settled old =
    record {
      others = λ d n not_early. refl;
      woken = λ p n is. absurd (true≢false (sym is ∙ settled.none_woken p));
      active = λ d has. absurd (subst (λ us. UpdatesCell us d) settled.none_active has);
      queued = λ d has. absurd (subst (λ us. UpdatesCell us d) settled.none_queued has);
      phase = inl (old, settled.none_woken b);
    }

-- reported inputs have their old or new value at each event
told_at : {V : Type 0} (m : Machine V) (lawful : IsLawful m) (t : Told V) (before after : List (Event V)) (s : State V) → AreWrites m s → IsLegal m s (before ++ after) → IsToldSoFar m lawful t s → EndsAsTold m lawful t (end_state m s (before ++ after)).values → (d : Cell) → IsToldInput m t d → ((end_state m s before).values d ≡ t.old d) ⊎ ((end_state m s before).values d ≡ t.new d)
told_at m lawful t [] after s are legal so_far ends = told_values m lawful t after s are legal so_far ends
told_at m lawful t (e ∷ before) after s are legal so_far ends =
    told_at m lawful t before after (state_after m s e) (AreWrites-kept m lawful s e are) legal.1 (so_far_kept m lawful t s e are so_far) ends

module _ {V : Type 0} (m : Machine V) (lawful : IsLawful m) (t : Told V) (single : Cell → Type 0) (told_single : (c : Cell) → IsToldInput m t c → single c) (h : Habit) (b : ℕ) (c : Cell) (clean : IsClean m t single b c) where
  changes_trigger : t.old c ≢ t.new c
  changes_trigger = trigger_changes m lawful t single told_single h b c clean

  -- once the trigger has moved and the block is not woken, it is evaluated no more
  evaluated_no_more : (es : List (Event V)) (s : State V) → s.values c ≡ t.new c → s.woken b ≡ false → ComesFromMayMove m t single s → IsLegal m s es → AllOldToNew t single m s es → NoEvaluations b es
  evaluated_no_more [] s moved not_woken_now from_may legal old_new = tt
  evaluated_no_more (e ∷ es) s moved not_woken_now from_may legal old_new = (
    other,
    evaluated_no_more
        es
        (state_after m s e)
        (trigger_stays m lawful t single told_single h b c clean s e old_new.0 moved)
        still_not_woken
        (ComesFromMayMove-kept m lawful t single told_single s e from_may legal.0 old_new.0)
        legal.1
        old_new.1,
  )
    where
      other : is_evaluation b e ≡ false
      other =
          ⊎_elim
          (λ is. absurd (true≢false (sym (subst (CanOccur m s) (is_evaluation_is b e is) legal.0) ∙ not_woken_now)))
          (λ is. is)
          (cases_Bool (is_evaluation b e))

      not_now : wakes m b s.values (event_writes m s e) ≡ true → ⊥
      not_now now =
          let why = wakes_why m lawful t single b s.values (event_writes m s e) old_new.0 now in
          let may = event_may m lawful t single told_single s e why.0 from_may legal.0 old_new.0 (Changes-WritesCell s.values (event_writes m s e) why.0 why.1) in
          let at_trigger = subst (Changes s.values (event_writes m s e)) (woken_by_trigger m lawful t single told_single h b c clean why.0 may why.2) why.1 in
          changes_trigger (sym (single_changes m lawful t single s.values (event_writes m s e) c clean.is_single changes_trigger old_new.0 at_trigger).0 ∙ moved)

      still_not_woken : (state_after m s e).woken b ≡ false
      still_not_woken =
          ⊎_elim
          (λ is. absurd (⊎_elim (λ before. true≢false (sym before ∙ not_woken_now)) not_now (woken_cases m s e b is).1))
          (λ is. is)
          (cases_Bool ((state_after m s e).woken b))

  -- without a waking Move an input trigger does not move
  event_no_move : (s : State V) (e : Event V) → m.is_input c ≡ true → AreWrites m s → IsNoWakingMove m s e → AreOldToNew t single s.values (event_writes m s e) → Changes s.values (event_writes m s e) c → ⊥
  unfolding IsMove
  event_no_move s (Move ws) input are none old_new changes =
      let by = trigger_edge m lawful t single told_single h b c clean in
      no_edge m lawful t single b s.values ws c by.0 clean.is_single by.1 by.2 old_new none changes
  event_no_move s (Evaluate p) input are none old_new changes = input_still m lawful s (Evaluate p) c are input (Changes-WritesCell s.values _ c changes)
  event_no_move s Activate input are none old_new changes = changes
  event_no_move s Apply input are none old_new changes = input_still m lawful s Apply c are input (Changes-WritesCell s.values _ c changes)

  no_waking_stays : (es : List (Event V)) (s : State V) → m.is_input c ≡ true → AreWrites m s → NoWakingMoves m s es → AllOldToNew t single m s es → (end_state m s es).values c ≡ s.values c
  no_waking_stays [] s input are none old_new = refl
  no_waking_stays (e ∷ es) s input are none old_new =
      no_waking_stays es (state_after m s e) input (AreWrites-kept m lawful s e are) none.1 old_new.1
      ∙ ⊎_elim
      (λ changes. absurd (event_no_move s e input are none.0 old_new.0 changes))
      (λ kept. kept)
      (Changes-cases m lawful s.values (event_writes m s e) c)

  module _ (start : Values V) where
    -- the block is evaluated once, and what holds on entry
    pub record HasOneEvaluation (s : State V) (es : List (Event V)) : Type 0 where
      pub before : List (Event V)
      pub after : List (Event V)
      pub splits : es ≡ before ++ Evaluate b ∷ after
      pub is_first : NoEvaluations b before
      pub is_last : NoEvaluations b after
      pub trigger : (end_state m s before).values c ≡ t.new c
      pub others : (d : Cell) → d.thing ≢ c.thing → (IsEarly m t single h b c d.thing → ⊥) → (end_state m s before).values d ≡ start d

    -- the events begin with the block's evaluation
    at_evaluation : (s : State V) (e : Event V) (es : List (Event V)) → is_evaluation b e ≡ true → IsPending m t single h b c start s → ComesFromMayMove m t single s → IsLegal m s (e ∷ es) → AllOldToNew t single m s (e ∷ es) → HasOneEvaluation s (e ∷ es)
    at_evaluation s e es is pending from_may legal old_new =
        record {
          before = [];
          after = es;
          splits = ap (λ (x : Event V). x ∷ es) (is_evaluation_is b e is);
          is_first = tt;
          is_last = evaluated_no_more es (state_after m s e) (trigger_stays m lawful t single told_single h b c clean s e old_new.0 moved) not_woken_now (ComesFromMayMove-kept m lawful t single told_single s e from_may legal.0 old_new.0) legal.1 old_new.1;
          trigger = moved;
          others = pending.others;
        }
      where
        moved : s.values c ≡ t.new c
        moved =
            ⊎_elim
            (λ before. absurd (true≢false (sym (subst (CanOccur m s) (is_evaluation_is b e is) legal.0) ∙ before.1)))
            (λ after. after.0)
            pending.phase

        not_woken_now : (state_after m s e).woken b ≡ false
        not_woken_now = rw is refl

    one_evaluation_later : (s : State V) (e : Event V) (es : List (Event V)) → is_evaluation b e ≡ false → HasOneEvaluation (state_after m s e) es → HasOneEvaluation s (e ∷ es)
    one_evaluation_later s e es other one_evaluation =
        record {
          before = e ∷ one_evaluation.before;
          after = one_evaluation.after;
          splits = ap (λ (l : List (Event V)). e ∷ l) one_evaluation.splits;
          is_first = (other, one_evaluation.is_first);
          is_last = one_evaluation.is_last;
          trigger = one_evaluation.trigger;
          others = one_evaluation.others;
        }

    -- at an event by the habit the block is evaluated, or it stays pending
    at_event : (s : State V) (e : Event V) (es : List (Event V)) → (m.is_input c ≡ true → MovesFreeInputs m h e) → IsPending m t single h b c start s → ComesFromMayMove m t single s → IsLegal m s (e ∷ es) → AllOldToNew t single m s (e ∷ es) → (IsPending m t single h b c start (state_after m s e) → ComesFromMayMove m t single (state_after m s e) → HasOneEvaluation (state_after m s e) es) → HasOneEvaluation s (e ∷ es)
    at_event s e es free pending from_may legal old_new later =
        ⊎_elim
        (λ is. at_evaluation s e es is pending from_may legal old_new)
        (λ other.
        one_evaluation_later
        s
        e
        es
        other
        (later
        (pending_kept m lawful t single told_single h b c clean start s e pending legal.0 old_new.0 free other)
        (ComesFromMayMove-kept m lawful t single told_single s e from_may legal.0 old_new.0)))
        (cases_Bool (is_evaluation b e))

    -- at the step's end the block is not pending
    not_at_end : (s : State V) → IsPending m t single h b c start s → IsSettled s → s.values c ≡ t.new c → ⊥
    not_at_end s pending settled ends =
        ⊎_elim
        (λ before. changes_trigger (sym before.0 ∙ ends))
        (λ after. true≢false (sym after.1 ∙ settled.none_woken b))
        pending.phase

    -- from a state where the block is pending, it is evaluated once: with a trigger that is no input, whatever the habit
    evaluated_once_free : (es : List (Event V)) (s : State V) → m.is_input c ≡ false → IsPending m t single h b c start s → ComesFromMayMove m t single s → IsLegal m s es → AllOldToNew t single m s es → IsSettled (end_state m s es) → (end_state m s es).values c ≡ t.new c → HasOneEvaluation s es
    evaluated_once_free [] s no_input pending from_may legal old_new settled ends = absurd (not_at_end s pending settled ends)
    evaluated_once_free (e ∷ es) s no_input pending from_may legal old_new settled ends =
        at_event s e es (λ input. absurd (true≢false (sym input ∙ no_input))) pending from_may legal old_new
        (λ pending_on from_may_on. evaluated_once_free es (state_after m s e) no_input pending_on from_may_on legal.1 old_new.1 settled ends)

    -- with a trigger that is an input, by the habit
    evaluated_once_by : (es : List (Event V)) (s : State V) → m.is_input c ≡ true → AreWrites m s → IsPending m t single h b c start s → ComesFromMayMove m t single s → IsLegal m s es → AllOldToNew t single m s es → WaitsForQuiet m h s es → IsSettled (end_state m s es) → (end_state m s es).values c ≡ t.new c → HasOneEvaluation s es
    evaluated_once_by [] s input are pending from_may legal old_new habit settled ends = absurd (not_at_end s pending settled ends)
    evaluated_once_by (e ∷ es) s input are pending from_may legal old_new (WaitsForQuiet.quiet quiet none) settled ends =
        absurd
        (⊎_elim
        (λ before. changes_trigger (sym before.0 ∙ sym (no_waking_stays (e ∷ es) s input are none old_new) ∙ ends))
        (λ after. true≢false (sym after.1 ∙ quiet.0 b))
        pending.phase)
    evaluated_once_by (e ∷ es) s input are pending from_may legal old_new (WaitsForQuiet.waits free later) settled ends =
        at_event s e es (λ is. free) pending from_may legal old_new
        (λ pending_on from_may_on. evaluated_once_by es (state_after m s e) input (AreWrites-kept m lawful s e are) pending_on from_may_on legal.1 old_new.1 later settled ends)

  -- a clean block is evaluated once in a step in which the single cells go from old to new
  pub one_evaluation : (s : State V) (es : List (Event V)) → IsStep m h s es → IsAsTold m t s es → IsToldCell m t c → AllOldToNew t single m s es → HasOneEvaluation s.values s es
  one_evaluation s es step as_told told old_new =
      ⊎_elim
      (λ input. evaluated_once_by s.values es s input (settled_writes m s step.starts) pending from_may step.legal old_new (waits_for_quiet m h es s step.habit) step.ends (as_told c told).1)
      (λ no_input. evaluated_once_free s.values es s no_input pending from_may step.legal old_new step.ends (as_told c told).1)
      (cases_Bool (m.is_input c))
    where
      pending : IsPending m t single h b c s.values s
      pending = settled_pending m t single h b c s step.starts (as_told c told).0

      from_may : ComesFromMayMove m t single s
      from_may = settled_from_may m t single s step.starts

  pub evaluates_once : (s : State V) (es : List (Event V)) → IsStep m h s es → IsAsTold m t s es → HasOneEvaluation s.values s es → EvaluatesOnce m t single h b c s es
  unfolding IsToldSoFar EndsAsTold
  evaluates_once s es step as_told at =
      record {
        entry = (end_state m s at.before).values;
        evaluated = evaluated;
        trigger = at.trigger;
        inputs =
            told_at m lawful t at.before (Evaluate b ∷ at.after) s (settled_writes m s step.starts)
            (subst (IsLegal m s) at.splits step.legal)
            (λ d input unmoved. (as_told d (input.1, inl input.0)).0)
            (λ d input. sym (ap (λ (l : List (Event V)). (end_state m s l).values d) at.splits) ∙ (as_told d (input.1, inl input.0)).1);
        others = at.others;
        leaves = λ d target.
            write_law m lawful h s es step b d target
            ∙ ap (λ (l : List (Values V)). put_all s.values (outputs m b l) d) evaluated
            ∙ ap (λ (l : List (Write V)). put_all s.values l d) (append-nil (output m b (end_state m s at.before).values));
      }
    where
      evaluated : evaluations m b s es ≡ (end_state m s at.before).values ∷ []
      evaluated = ap (evaluations m b s) at.splits ∙ one_evaluation_at m b at.before at.after s at.is_first at.is_last
