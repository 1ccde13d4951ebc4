-- Before a clean block is evaluated, only early things and the trigger differ from the step's start.
use Rattle.std.proofs.Common.{◌≡◌, ◌≢◌, ◌⊎◌, inl, inr, ⊎_elim, ℕ, true, false, true≢false, sym, ap, subst, ◌∙◌}
use Rattle.std.proofs.lemmas.Bool.{cases_Bool, cases_eq, eq-eqb}
use Rattle.event_machine.specs.Cell.{Cell, Changes, UpdatesCell, Values, WritesCell}
use Rattle.event_machine.specs.Machine.{Edge, IsLawful, IsTarget, Machine, wakes}
use Rattle.event_machine.specs.State.{State}
use Rattle.event_machine.specs.Event.{Activate, Apply, CanOccur, Evaluate, Event, Move, is_evaluation, state_after, event_writes}
use Rattle.event_machine.specs.Habit.{Habit, is_free_input}
use Rattle.event_machine.specs.Told.{IsMovingInput, IsToldInput, Told}
use Rattle.event_machine.specs.MayMove.{IsClean, MayMove, MayWake}
use Rattle.event_machine.specs.Early.{IsEarly}
use Rattle.event_machine.proofs.Writes.{AreOldToNew, CellMayWake, Changes-WritesCell, Changes-cases, UpdatesCell-append, may_wake_thing, put_all_other, single_changes, wakes_edge, wakes_why}
use Rattle.event_machine.proofs.Inputs.{UpdatesCell-rest, WritesCell-first}
use Rattle.event_machine.proofs.Rest.{move_moving, woken_cases}
use Rattle.event_machine.proofs.Settled.{gets_woken, stays_woken}
use Rattle.event_machine.proofs.Habits.{MovesFreeInputs}

-- the block has not been evaluated since the start, whose values these are
pub record IsPending {V : Type 0} (m : Machine V) (t : Told V) (single : Cell → Type 0) (h : Habit) (b : ℕ) (c : Cell) (start : Values V) (s : State V) : Type 0 where
  -- neither the trigger nor early: as at the start
  pub others : (d : Cell) → d.thing ≢ c.thing → (IsEarly m t single h b c d.thing → ⊥) → s.values d ≡ start d
  -- another process was woken by an early thing, or by the trigger, which then has moved
  pub woken : (p : ℕ) → p ≢ b → s.woken p ≡ true → ((x : ℕ) × IsEarly m t single h b c x × MayWake m t single x p) ⊎ ((s.values c ≡ t.new c) × MayWake m t single c.thing p)
  pub active : (d : Cell) → UpdatesCell s.active d → IsEarly m t single h b c d.thing ⊎ (d ≡ c)
  pub queued : (d : Cell) → UpdatesCell s.queued d → (IsEarly m t single h b c d.thing ⊎ (d ≡ c)) ⊎ (s.values c ≡ t.new c)
  -- the block is woken exactly if its trigger has moved
  pub phase : ((s.values c ≡ t.old c) × (s.woken b ≡ false)) ⊎ ((s.values c ≡ t.new c) × (s.woken b ≡ true))

module _ {V : Type 0} (m : Machine V) (t : Told V) (single : Cell → Type 0) (h : Habit) (b : ℕ) (c : Cell) (clean : IsClean m t single b c) where
  -- what is early may move
  pub early_may_move : (x : ℕ) → IsEarly m t single h b c x → MayMove m t single x
  early_may_move x (IsEarly.of_input d moving free other) = MayMove.of_input d moving
  early_may_move x (IsEarly.of_trigger p d may_wake not_b writes other) = MayMove.of_target c.thing p d clean.can_wake.1 may_wake (inl writes)
  early_may_move x (IsEarly.of_blocking y p d early may_wake not_b writes other) = MayMove.of_target y p d (early_may_move y early) may_wake (inl writes)
  early_may_move x (IsEarly.of_nonblocking y p d early may_wake writes other) = MayMove.of_target y p d (early_may_move y early) may_wake (inr writes)

module _ {V : Type 0} (m : Machine V) (lawful : IsLawful m) (t : Told V) (single : Cell → Type 0) (told_single : (c : Cell) → IsToldInput m t c → single c) (h : Habit) (b : ℕ) (c : Cell) (clean : IsClean m t single b c) where
  abbrev Early : ℕ → Type 0
  Early x = IsEarly m t single h b c x

  -- the trigger's change is an edge that the block lists
  pub trigger_edge : (e : Edge) × (m.edge b e c ≡ true) × (m.is_edge e (t.old c) (t.new c) ≡ true)
  trigger_edge = let by = clean.can_wake.0 in (by.0, by.1, by.2 clean.is_single)

  pub trigger_changes : t.old c ≢ t.new c
  trigger_changes same =
      let e = trigger_edge in
      true≢false (sym e.2 ∙ ap (m.is_edge e.0 (t.old c)) (sym same) ∙ lawful.edge_changes e.0 (t.old c))

  -- a trigger that has moved keeps its value
  pub trigger_stays : (s : State V) (e : Event V) → AreOldToNew t single s.values (event_writes m s e) → s.values c ≡ t.new c → (state_after m s e).values c ≡ t.new c
  trigger_stays s e old_new is =
      ⊎_elim
      (λ changes. absurd (trigger_changes (sym (single_changes m lawful t single s.values (event_writes m s e) c clean.is_single trigger_changes old_new changes).0 ∙ is)))
      (λ kept. kept ∙ is)
      (Changes-cases m lawful s.values (event_writes m s e) c)

  -- what may wake the block at a cell that may move is the trigger
  pub woken_by_trigger : (d : Cell) → MayMove m t single d.thing → CellMayWake m t single d b → d ≡ c
  woken_by_trigger d may (inl level) = absurd (true≢false (sym level ∙ clean.clocked d.thing))
  woken_by_trigger d may (inr by) = clean.alone d (by, may)

  -- a target is early or the trigger, where each target beside the trigger is early
  target_is : (q : ℕ) (d : Cell) → IsTarget m q d → (d.thing ≢ c.thing → Early d.thing) → IsEarly m t single h b c d.thing ⊎ (d ≡ c)
  target_is q d target early =
      ⊎_elim
      (λ same. inr (lawful.target_has_one_bit b q trigger_edge.0 c d trigger_edge.1 target same))
      (λ other. inl (early other))
      (cases_eq d.thing c.thing)

  input_is : (d : Cell) → IsMovingInput m t d → (m.is_input c ≡ true → is_free_input m h d.thing ≡ true) → IsEarly m t single h b c d.thing ⊎ (d ≡ c)
  input_is d moving free =
      ⊎_elim
      (λ same. inr (lawful.input_has_one_bit b trigger_edge.0 c d trigger_edge.1 moving.0 same))
      (λ other. inl (IsEarly.of_input d moving free other))
      (cases_eq d.thing c.thing)

  module _ (start : Values V) where
    -- what an event other than the block's evaluation writes is early or the trigger
    writes_pending : (s : State V) (e : Event V) → IsPending m t single h b c start s → CanOccur m s e → AreOldToNew t single s.values (event_writes m s e) → (m.is_input c ≡ true → MovesFreeInputs m h e) → is_evaluation b e ≡ false → (d : Cell) → WritesCell (event_writes m s e) d → IsEarly m t single h b c d.thing ⊎ (d ≡ c)
    writes_pending s (Move ws) pending can old_new free other d has =
        input_is d (move_moving m lawful t single told_single s.moved s.values ws d can.1 old_new has) (λ input. free input d has)
    writes_pending s (Evaluate p) pending can old_new free other d has = go (pending.woken p not_b can)
      where
        not_b : p ≢ b
        not_b same = true≢false (sym (eq-eqb p b same) ∙ other)

        blocks : m.blocking p d ≡ true
        blocks = lawful.blocking_kept p s.values d has

        go : ((x : ℕ) × IsEarly m t single h b c x × MayWake m t single x p) ⊎ ((s.values c ≡ t.new c) × MayWake m t single c.thing p) → IsEarly m t single h b c d.thing ⊎ (d ≡ c)
        go (inl by) = target_is p d (inl blocks) (λ n. IsEarly.of_blocking by.0 p d by.1 by.2 not_b blocks n)
        go (inr by) = target_is p d (inl blocks) (λ n. IsEarly.of_trigger p d by.1 not_b blocks n)
    writes_pending s Activate pending can old_new free other d has = absurd has
    writes_pending s Apply pending can old_new free other d has = pending.active d (WritesCell-first s.active d has)

    -- the parts of the invariant, kept by such an event
    module _ (s : State V) (e : Event V) (pending : IsPending m t single h b c start s) (can : CanOccur m s e) (old_new : AreOldToNew t single s.values (event_writes m s e)) (free : m.is_input c ≡ true → MovesFreeInputs m h e) (other : is_evaluation b e ≡ false) where
      others_kept : (d : Cell) → d.thing ≢ c.thing → (IsEarly m t single h b c d.thing → ⊥) → (state_after m s e).values d ≡ start d
      others_kept d n not_early = put_all_other s.values (event_writes m s e) d unwritten ∙ pending.others d n not_early
        where
          unwritten : WritesCell (event_writes m s e) d → ⊥
          unwritten has = ⊎_elim not_early (λ is. n (ap (λ (x : Cell). x.thing) is)) (writes_pending s e pending can old_new free other d has)

      cell_may : (d : Cell) → IsEarly m t single h b c d.thing ⊎ (d ≡ c) → MayMove m t single d.thing
      cell_may d (inl early) = early_may_move m t single h b c clean d.thing early
      cell_may d (inr is) = subst (λ (x : Cell). MayMove m t single x.thing) (sym is) clean.can_wake.1

      new_after : Changes s.values (event_writes m s e) c → (s.values c ≡ t.old c) × ((state_after m s e).values c ≡ t.new c)
      new_after changes = single_changes m lawful t single s.values (event_writes m s e) c clean.is_single trigger_changes old_new changes

      woken_kept : (p : ℕ) → p ≢ b → (state_after m s e).woken p ≡ true → ((x : ℕ) × IsEarly m t single h b c x × MayWake m t single x p) ⊎ (((state_after m s e).values c ≡ t.new c) × MayWake m t single c.thing p)
      woken_kept p n is = go (woken_cases m s e p is).1
        where
          by_cell : (d : Cell) → Changes s.values (event_writes m s e) d → CellMayWake m t single d p → IsEarly m t single h b c d.thing ⊎ (d ≡ c) → ((x : ℕ) × IsEarly m t single h b c x × MayWake m t single x p) ⊎ (((state_after m s e).values c ≡ t.new c) × MayWake m t single c.thing p)
          by_cell d changes may_wake (inl early) = inl (d.thing, early, may_wake_thing m t single d p may_wake)
          by_cell d changes may_wake (inr is) =
              inr (
                (new_after (subst (Changes s.values (event_writes m s e)) is changes)).1,
                may_wake_thing m t single c p (subst (λ x. CellMayWake m t single x p) is may_wake),
              )

          go : (s.woken p ≡ true) ⊎ (wakes m p s.values (event_writes m s e) ≡ true) → ((x : ℕ) × IsEarly m t single h b c x × MayWake m t single x p) ⊎ (((state_after m s e).values c ≡ t.new c) × MayWake m t single c.thing p)
          go (inl before) = ⊎_elim (λ by. inl by) (λ by. inr (trigger_stays s e old_new by.0, by.1)) (pending.woken p n before)
          go (inr now) =
              let why = wakes_why m lawful t single p s.values (event_writes m s e) old_new now in
              by_cell why.0 why.1 why.2 (writes_pending s e pending can old_new free other why.0 (Changes-WritesCell s.values (event_writes m s e) why.0 why.1))

      -- where the trigger does not change, the event does not wake the block
      not_woken : (Changes s.values (event_writes m s e) c → ⊥) → wakes m b s.values (event_writes m s e) ≡ true → ⊥
      not_woken kept now =
          let why = wakes_why m lawful t single b s.values (event_writes m s e) old_new now in
          let may = cell_may why.0 (writes_pending s e pending can old_new free other why.0 (Changes-WritesCell s.values (event_writes m s e) why.0 why.1)) in
          kept (subst (Changes s.values (event_writes m s e)) (woken_by_trigger why.0 may why.2) why.1)

      phase_kept : (((state_after m s e).values c ≡ t.old c) × ((state_after m s e).woken b ≡ false)) ⊎ (((state_after m s e).values c ≡ t.new c) × ((state_after m s e).woken b ≡ true))
      phase_kept = go pending.phase (Changes-cases m lawful s.values (event_writes m s e) c)
        where
          not_woken_now : s.woken b ≡ false → (Changes s.values (event_writes m s e) c → ⊥) → (state_after m s e).woken b ≡ false
          not_woken_now was kept =
              ⊎_elim
              (λ is. absurd (⊎_elim (λ before. true≢false (sym before ∙ was)) (not_woken kept) (woken_cases m s e b is).1))
              (λ is. is)
              (cases_Bool ((state_after m s e).woken b))

          go : ((s.values c ≡ t.old c) × (s.woken b ≡ false)) ⊎ ((s.values c ≡ t.new c) × (s.woken b ≡ true)) → Changes s.values (event_writes m s e) c ⊎ ((state_after m s e).values c ≡ s.values c) → (((state_after m s e).values c ≡ t.old c) × ((state_after m s e).woken b ≡ false)) ⊎ (((state_after m s e).values c ≡ t.new c) × ((state_after m s e).woken b ≡ true))
          go (inl before) (inl changes) =
              let by = trigger_edge in
              inr ((new_after changes).1, gets_woken m lawful b s e other (wakes_edge m lawful t single b s.values (event_writes m s e) c by.0 clean.is_single by.1 by.2 old_new changes))
          go (inl before) (inr kept) =
              inl (kept ∙ before.0, not_woken_now before.1 (λ changes. trigger_changes (sym before.0 ∙ sym kept ∙ (new_after changes).1)))
          go (inr after) change = inr (trigger_stays s e old_new after.0, stays_woken m lawful b s e other after.1)

      queued_kept : (d : Cell) → (IsEarly m t single h b c d.thing ⊎ (d ≡ c)) ⊎ (s.values c ≡ t.new c) → (IsEarly m t single h b c d.thing ⊎ (d ≡ c)) ⊎ ((state_after m s e).values c ≡ t.new c)
      queued_kept d (inl early) = inl early
      queued_kept d (inr moved) = inr (trigger_stays s e old_new moved)

    pub pending_kept : (s : State V) (e : Event V) → IsPending m t single h b c start s → CanOccur m s e → AreOldToNew t single s.values (event_writes m s e) → (m.is_input c ≡ true → MovesFreeInputs m h e) → is_evaluation b e ≡ false → IsPending m t single h b c start (state_after m s e)
    pending_kept s (Move ws) pending can old_new free other =
        record {
          others = others_kept s (Move ws) pending can old_new free other;
          woken = woken_kept s (Move ws) pending can old_new free other;
          active = pending.active;
          queued = λ d has. queued_kept s (Move ws) pending can old_new free other d (pending.queued d has);
          phase = phase_kept s (Move ws) pending can old_new free other;
        }
    pending_kept s (Evaluate p) pending can old_new free other =
        record {
          others = others_kept s (Evaluate p) pending can old_new free other;
          woken = woken_kept s (Evaluate p) pending can old_new free other;
          active = pending.active;
          queued = λ d has. queued_kept s (Evaluate p) pending can old_new free other d (⊎_elim (pending.queued d) (new d) (UpdatesCell-append s.queued (m.evaluate p s.values).nonblocking d has));
          phase = phase_kept s (Evaluate p) pending can old_new free other;
        }
      where
        not_b : p ≢ b
        not_b same = true≢false (sym (eq-eqb p b same) ∙ other)

        new : (d : Cell) → UpdatesCell (m.evaluate p s.values).nonblocking d → (IsEarly m t single h b c d.thing ⊎ (d ≡ c)) ⊎ (s.values c ≡ t.new c)
        new d has =
            let queues = lawful.nonblocking_kept p s.values d has in
            ⊎_elim
            (λ by. inl (target_is p d (inr queues) (λ n. IsEarly.of_nonblocking by.0 p d by.1 by.2 queues n)))
            (λ by. inr by.0)
            (pending.woken p not_b can)
    pending_kept s Activate pending can old_new free other =
        record {
          others = others_kept s Activate pending can old_new free other;
          woken = woken_kept s Activate pending can old_new free other;
          active = λ d has. ⊎_elim (λ early. early) (not_moved d) (pending.queued d has);
          queued = λ d has. absurd has;
          phase = phase_kept s Activate pending can old_new free other;
        }
      where
        -- while the block is woken no queued update becomes active
        not_moved : (d : Cell) → s.values c ≡ t.new c → IsEarly m t single h b c d.thing ⊎ (d ≡ c)
        not_moved d moved =
            ⊎_elim
            (λ before. absurd (trigger_changes (sym before.0 ∙ moved)))
            (λ after. absurd (true≢false (sym after.1 ∙ can.0.0 b)))
            pending.phase
    pending_kept s Apply pending can old_new free other =
        record {
          others = others_kept s Apply pending can old_new free other;
          woken = woken_kept s Apply pending can old_new free other;
          active = λ d has. pending.active d (UpdatesCell-rest s.active d has);
          queued = λ d has. queued_kept s Apply pending can old_new free other d (pending.queued d has);
          phase = phase_kept s Apply pending can old_new free other;
        }
