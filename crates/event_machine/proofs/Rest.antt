-- The rest law: what changes in a step may move.
use Rattle.std.proofs.Common.{◌≡◌, ◌≢◌, ◌⊎◌, inl, inr, ⊎_elim, ℕ, Bool, true, false, not, ◌||◌, true≢false, List, [], ◌∷◌, ◌++◌, refl, sym, subst, ◌∙◌}
use Rattle.std.proofs.lemmas.Bool.{and_parts, or_cases, not-true}
use Rattle.event_machine.specs.Cell.{Cell, Changes, UpdatesCell, Values, Write, WritesCell, put}
use Rattle.event_machine.specs.Machine.{IsLawful, Machine, wakes}
use Rattle.event_machine.specs.State.{IsSettled, State}
use Rattle.event_machine.specs.Event.{Activate, Apply, CanMove, CanOccur, Evaluate, Event, IsLegal, Move, end_state, is_evaluation, mark, state_after, event_writes}
use Rattle.event_machine.specs.Habit.{Habit}
use Rattle.event_machine.specs.Step.{IsStep}
use Rattle.event_machine.specs.Told.{IsAsTold, IsMovingInput, IsToldInput, Told}
use Rattle.event_machine.specs.MayMove.{MayMove, MayWake}
use Rattle.event_machine.specs.Laws.{NoEventLaw}
use Rattle.event_machine.proofs.Writes.{AreOldToNew, Changes-WritesCell, UpdatesCell-append, may_wake_thing, put_all_other, wakes_why}
use Rattle.event_machine.proofs.Inputs.{AllOldToNew, AreWrites, EndsAsTold, IsToldSoFar, UpdatesCell-rest, WritesCell-first, events_old_new}

-- who is woken, and what is to be updated, comes from what may move
pub record ComesFromMayMove {V : Type 0} (m : Machine V) (t : Told V) (single : Cell → Type 0) (s : State V) : Type 0 where
  pub woken : (p : ℕ) → s.woken p ≡ true → (x : ℕ) × MayMove m t single x × MayWake m t single x p
  pub active : (c : Cell) → UpdatesCell s.active c → MayMove m t single c.thing
  pub queued : (c : Cell) → UpdatesCell s.queued c → MayMove m t single c.thing

-- a process woken after an event was woken before it, or the event's writes wake it
pub woken_cases : {V : Type 0} (m : Machine V) (s : State V) (e : Event V) (p : ℕ) → (state_after m s e).woken p ≡ true → (is_evaluation p e ≡ false) × ((s.woken p ≡ true) ⊎ (wakes m p s.values (event_writes m s e) ≡ true))
woken_cases m s e p is =
    let both = and_parts (not (is_evaluation p e)) (s.woken p || wakes m p s.values (event_writes m s e)) is in
    (not-true (is_evaluation p e) both.0, or_cases (s.woken p) _ both.1)

module _ {V : Type 0} (m : Machine V) (lawful : IsLawful m) (t : Told V) (single : Cell → Type 0) (told_single : (c : Cell) → IsToldInput m t c → single c) where
  -- what a Move writes is a moving input
  pub move_moving : (moved : Cell → Bool) (v : Values V) (ws : List (Write V)) (c : Cell) → CanMove m moved v ws → AreOldToNew t single v ws → WritesCell ws c → IsMovingInput m t c
  move_moving moved v [] c can old_new h = absurd h
  move_moving moved v (w ∷ ws) c can old_new (inl here) = subst (IsMovingInput m t) here (can.0, changes)
    where
      changes : t.is_told w.cell.thing ≡ true → t.old w.cell ≢ t.new w.cell
      changes told same =
          let as_told = old_new.0 (told_single w.cell (can.0, told)) can.2 in
          can.2 (as_told.0 ∙ same ∙ sym as_told.1)
  move_moving moved v (w ∷ ws) c can old_new (inr later) = move_moving (mark moved w) (put v w) ws c can.3 old_new.1 later

  -- what an event writes may move
  pub event_may : (s : State V) (e : Event V) (c : Cell) → ComesFromMayMove m t single s → CanOccur m s e → AreOldToNew t single s.values (event_writes m s e) → WritesCell (event_writes m s e) c → MayMove m t single c.thing
  event_may s (Move ws) c from_may can old_new h = MayMove.of_input c (move_moving s.moved s.values ws c can.1 old_new h)
  event_may s (Evaluate p) c from_may can old_new h =
      let by = from_may.woken p can in
      MayMove.of_target by.0 p c by.1 by.2 (inl (lawful.blocking_kept p s.values c h))
  event_may s Activate c from_may can old_new h = absurd h
  event_may s Apply c from_may can old_new h = from_may.active c (WritesCell-first s.active c h)

  woken_kept : (s : State V) (e : Event V) → ComesFromMayMove m t single s → CanOccur m s e → AreOldToNew t single s.values (event_writes m s e) → (p : ℕ) → (state_after m s e).woken p ≡ true → (x : ℕ) × MayMove m t single x × MayWake m t single x p
  woken_kept s e from_may can old_new p is = go (woken_cases m s e p is).1
    where
      go : (s.woken p ≡ true) ⊎ (wakes m p s.values (event_writes m s e) ≡ true) → (x : ℕ) × MayMove m t single x × MayWake m t single x p
      go (inl before) = from_may.woken p before
      go (inr now) =
          let why = wakes_why m lawful t single p s.values (event_writes m s e) old_new now in
          (why.0.thing, event_may s e why.0 from_may can old_new (Changes-WritesCell s.values (event_writes m s e) why.0 why.1), may_wake_thing m t single why.0 p why.2)

  pub ComesFromMayMove-kept : (s : State V) (e : Event V) → ComesFromMayMove m t single s → CanOccur m s e → AreOldToNew t single s.values (event_writes m s e) → ComesFromMayMove m t single (state_after m s e)
  ComesFromMayMove-kept s (Move ws) from_may can old_new = record { woken = woken_kept s (Move ws) from_may can old_new; active = from_may.active; queued = from_may.queued }
  ComesFromMayMove-kept s (Evaluate p) from_may can old_new =
      record {
        woken = woken_kept s (Evaluate p) from_may can old_new;
        active = from_may.active;
        queued = λ c h. ⊎_elim (from_may.queued c) (new c) (UpdatesCell-append s.queued (m.evaluate p s.values).nonblocking c h);
      }
    where
      new : (c : Cell) → UpdatesCell (m.evaluate p s.values).nonblocking c → MayMove m t single c.thing
      new c h =
          let by = from_may.woken p can in
          MayMove.of_target by.0 p c by.1 by.2 (inr (lawful.nonblocking_kept p s.values c h))
  ComesFromMayMove-kept s Activate from_may can old_new = record { woken = woken_kept s Activate from_may can old_new; active = from_may.queued; queued = λ c h. absurd h }
  ComesFromMayMove-kept s Apply from_may can old_new =
      record {
        woken = woken_kept s Apply from_may can old_new;
        active = λ c h. from_may.active c (UpdatesCell-rest s.active c h);
        queued = from_may.queued;
      }

  -- the same at any event of a run
  pub rest_at : (before : List (Event V)) (s : State V) (e : Event V) (after : List (Event V)) (c : Cell) → ComesFromMayMove m t single s → IsLegal m s (before ++ e ∷ after) → AllOldToNew t single m s (before ++ e ∷ after) → Changes (end_state m s before).values (event_writes m (end_state m s before) e) c → MayMove m t single c.thing
  rest_at [] s e after c from_may legal old_new changes = event_may s e c from_may legal.0 old_new.0 (Changes-WritesCell s.values (event_writes m s e) c changes)
  rest_at (b ∷ before) s e after c from_may legal old_new changes =
      rest_at before (state_after m s b) e after c (ComesFromMayMove-kept s b from_may legal.0 old_new.0) legal.1 old_new.1 changes

  -- what may not move keeps its value
  pub unchanged_at : (before : List (Event V)) (s : State V) (after : List (Event V)) (c : Cell) → ComesFromMayMove m t single s → IsLegal m s (before ++ after) → AllOldToNew t single m s (before ++ after) → (MayMove m t single c.thing → ⊥) → (end_state m s before).values c ≡ s.values c
  unchanged_at [] s after c from_may legal old_new never = refl
  unchanged_at (e ∷ before) s after c from_may legal old_new never =
      unchanged_at before (state_after m s e) after c (ComesFromMayMove-kept s e from_may legal.0 old_new.0) legal.1 old_new.1 never
      ∙ put_all_other s.values (event_writes m s e) c (λ h. never (event_may s e c from_may legal.0 old_new.0 h))

-- a settled state has nothing woken and nothing to update
pub settled_from_may : {V : Type 0} (m : Machine V) (t : Told V) (single : Cell → Type 0) (s : State V) → IsSettled s → ComesFromMayMove m t single s
settled_from_may m t single s settled =
    record {
      woken = λ p is. absurd (true≢false (sym is ∙ settled.none_woken p));
      active = λ c h. absurd (subst (λ us. UpdatesCell us c) settled.none_active h);
      queued = λ c h. absurd (subst (λ us. UpdatesCell us c) settled.none_queued h);
    }

pub settled_writes : {V : Type 0} (m : Machine V) (s : State V) → IsSettled s → AreWrites m s
settled_writes m s settled =
    record {
      active = λ c h. absurd (subst (λ us. UpdatesCell us c) settled.none_active h);
      queued = λ c h. absurd (subst (λ us. UpdatesCell us c) settled.none_queued h);
    }

pub step_old_new : {V : Type 0} (m : Machine V) → IsLawful m → (h : Habit) (t : Told V) (s : State V) (es : List (Event V)) → IsStep m h s es → IsAsTold m t s es → AllOldToNew t (IsToldInput m t) m s es
unfolding IsToldSoFar EndsAsTold
step_old_new m lawful h t s es step as_told =
    events_old_new m lawful t es s (settled_writes m s step.starts) step.legal (λ c told unmoved. (as_told c (told.1, inl told.0)).0) (λ c told. (as_told c (told.1, inl told.0)).1)

-- where all inputs are reported and none changes, no event can be the first
no_events : {V : Type 0} (m : Machine V) → IsLawful m → (h : Habit) (t : Told V) (s : State V) (es : List (Event V)) → IsStep m h s es → IsAsTold m t s es → ((c : Cell) → m.is_input c ≡ true → (t.is_told c.thing ≡ true) × (t.old c ≡ t.new c)) → es ≡ []
no_events m lawful h t s [] step as_told still = refl
no_events m lawful h t s (Move [] ∷ es) step as_told still = absurd (step.legal.0.0 refl)
no_events m lawful h t s (Move (w ∷ ws) ∷ es) step as_told still =
    let can = step.legal.0.1 in
    let old_new = step_old_new m lawful h t s (Move (w ∷ ws) ∷ es) step as_told in
    let told = still w.cell can.0 in
    let moves = old_new.0.0 (can.0, told.0) can.2 in
    absurd (can.2 (moves.0 ∙ told.1 ∙ sym moves.1))
no_events m lawful h t s (Evaluate p ∷ es) step as_told still = absurd (true≢false (sym step.legal.0 ∙ step.starts.none_woken p))
no_events m lawful h t s (Activate ∷ es) step as_told still = absurd (step.legal.0.1 step.starts.none_queued)
no_events m lawful h t s (Apply ∷ es) step as_told still = absurd (step.legal.0 step.starts.none_active)

pub no_event_law : {V : Type 0} (m : Machine V) → IsLawful m → NoEventLaw m
no_event_law m lawful h t k still = no_events m lawful h t k.start k.events k.is_step k.as_told still
