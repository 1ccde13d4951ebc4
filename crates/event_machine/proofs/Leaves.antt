-- What a process leaves: the updates that wait count as written, and so each cell has at the end what its writer wrote, in order.
use Rattle.std.proofs.Common.{◌≡◌, ◌⊎◌, inl, inr, ⊎_elim, ℕ, Bool, true, false, if◌then◌else◌, true≢false, List, [], ◌∷◌, ◌++◌, refl, sym, ap, subst, ◌∙◌, append_assoc, append-nil}
use Rattle.std.proofs.lemmas.Bool.{cases_Bool, eq-eqb}
use Rattle.event_machine.specs.Cell.{Cell, Update, UpdatesCell, Values, Write, WritesCell, join, put, put_all, same_cell}
use Rattle.event_machine.specs.Machine.{IsLawful, IsTarget, Machine, output}
use Rattle.event_machine.specs.State.{IsSettled, State}
use Rattle.event_machine.specs.Event.{Activate, Apply, CanOccur, Evaluate, Event, IsLegal, Move, end_state, first, is_evaluation, rest, state_after}
use Rattle.event_machine.specs.Laws.{WriteLaw}
use Rattle.event_machine.proofs.Writes.{WritesCell-join, WritesCell-split, join-append, join_first, put_all_other, same_cell_is, same_cell_not}
use Rattle.event_machine.proofs.Inputs.{AreWrites, AreWrites-kept, move_inputs}
use Rattle.event_machine.proofs.Rest.{settled_writes}
use Rattle.event_machine.proofs.Acts.{is_evaluation_is, written_by, written_is}

module _ {V : Type 0} (c : Cell) where
  -- the value of the cell value_after these writes, from x
  pub value_after : V → List (Write V) → V
  value_after x [] = x
  value_after x (w ∷ ws) = value_after (if same_cell w.cell c then w.value else x) ws

  pub value_after_put_all : (v : Values V) (ws : List (Write V)) → put_all v ws c ≡ value_after (v c) ws
  unfolding value_after put
  value_after_put_all v [] = refl
  value_after_put_all v (w ∷ ws) = value_after_put_all (put v w) ws

  value_after-append : (x : V) (ws us : List (Write V)) → value_after x (ws ++ us) ≡ value_after (value_after x ws) us
  unfolding value_after
  value_after-append x [] us = refl
  value_after-append x (w ∷ ws) us = value_after-append (if same_cell w.cell c then w.value else x) ws us

  value_after_none : (x : V) (ws : List (Write V)) → (WritesCell ws c → ⊥) → value_after x ws ≡ x
  unfolding value_after
  value_after_none x [] none = refl
  value_after_none x (w ∷ ws) none = rw (same_cell_not w.cell c (λ is. none (inl is))) (value_after_none x ws (λ h. none (inr h)))

  -- what is written does not depend on what was there
  pub value_after_written : (x y : V) (ws : List (Write V)) → WritesCell ws c → value_after x ws ≡ value_after y ws
  unfolding value_after
  value_after_written x y [] h = absurd h
  value_after_written x y (w ∷ ws) (inl is) = rw (same_cell_is w.cell c is) refl
  value_after_written x y (w ∷ ws) (inr h) = value_after_written (if same_cell w.cell c then w.value else x) (if same_cell w.cell c then w.value else y) ws h

  -- the value that the cell is due to have once the waiting updates are written
  pub due : State V → V
  due s = value_after (s.values c) (join s.active ++ join s.queued)

  due_now : (s : State V) → (UpdatesCell s.active c → ⊥) → (UpdatesCell s.queued c → ⊥) → due s ≡ s.values c
  unfolding due
  due_now s a b = value_after_none (s.values c) _ (λ h. ⊎_elim (λ k. a (WritesCell-join c s.active k)) (λ k. b (WritesCell-join c s.queued k)) (WritesCell-split c (join s.active) (join s.queued) h))

  pub due_settled : (s : State V) → IsSettled s → due s ≡ s.values c
  due_settled s settled =
      due_now s (λ h. subst (λ us. UpdatesCell us c) settled.none_active h) (λ h. subst (λ us. UpdatesCell us c) settled.none_queued h)

module _ {V : Type 0} (m : Machine V) (lawful : IsLawful m) (p : ℕ) (c : Cell) (target : IsTarget m p c) where
  -- an event that is no evaluation of the writer does not change what the cell is due to have
  other_due : (s : State V) (e : Event V) → CanOccur m s e → is_evaluation p e ≡ false → due c (state_after m s e) ≡ due c s
  unfolding due
  other_due s (Move ws) can other =
      ap (λ (x : V). value_after c x (join s.active ++ join s.queued)) (put_all_other s.values ws c (λ h. lawful.inputs_kept p c (move_inputs m s.moved s.values ws c can.1 h) target))
  other_due s (Evaluate q) can other =
      ap (λ (x : V). value_after c x (join s.active ++ join (s.queued ++ (m.evaluate q s.values).nonblocking))) (put_all_other s.values _ c (λ h. differ (inl (lawful.blocking_kept q s.values c h))))
      ∙ ap (λ (l : List (Write V)). value_after c (s.values c) (join s.active ++ l)) (join-append s.queued (m.evaluate q s.values).nonblocking)
      ∙ ap (value_after c (s.values c)) (sym (append_assoc (join s.active) (join s.queued) (join (m.evaluate q s.values).nonblocking)))
      ∙ value_after-append c (s.values c) (join s.active ++ join s.queued) (join (m.evaluate q s.values).nonblocking)
      ∙ value_after_none c _ (join (m.evaluate q s.values).nonblocking) (λ h. differ (inr (lawful.nonblocking_kept q s.values c (WritesCell-join c (m.evaluate q s.values).nonblocking h))))
    where
      differ : IsTarget m q c → ⊥
      differ by = true≢false (sym (eq-eqb q p (lawful.one_writer q p c by target)) ∙ other)
  other_due s Activate can other =
      ap (value_after c (s.values c)) (append-nil (join s.queued))
      ∙ ap (λ (us : List (Update V)). value_after c (s.values c) (join us ++ join s.queued)) (sym can.0.1)
  other_due s Apply can other =
      ap (λ (x : V). value_after c x (join (rest s.active) ++ join s.queued)) (value_after_put_all c s.values (first s.active))
      ∙ sym (value_after-append c (s.values c) (first s.active) (join (rest s.active) ++ join s.queued))
      ∙ ap (value_after c (s.values c)) (sym (append_assoc (first s.active) (join (rest s.active)) (join s.queued)) ∙ ap (λ (l : List (Write V)). l ++ join s.queued) (join_first s.active))

  -- no update of a cell that is written by blocking writes waits
  none_waits : m.blocking p c ≡ true → (q : ℕ) → m.nonblocking q c ≡ true → ⊥
  none_waits blocks q queues =
      lawful.not_both p c blocks (subst (λ r. m.nonblocking r c ≡ true) (lawful.one_writer q p c (inr queues) (inl blocks)) queues)

  -- the writer's evaluation makes its output due
  evaluation_due : (s : State V) → AreWrites m s → due c (state_after m s (Evaluate p)) ≡ value_after c (due c s) (output m p s.values)
  unfolding due
  evaluation_due s are = go (cases_Bool (m.blocking p c))
    where
      blocking : List (Write V)
      blocking = (m.evaluate p s.values).blocking

      updates : List (Update V)
      updates = (m.evaluate p s.values).nonblocking

      waiting : List (Write V)
      waiting = join s.active ++ join s.queued

      all_waiting : join s.active ++ join (s.queued ++ updates) ≡ waiting ++ join updates
      all_waiting =
          ap (λ (l : List (Write V)). join s.active ++ l) (join-append s.queued updates)
          ∙ sym (append_assoc (join s.active) (join s.queued) (join updates))

      start : value_after c (put_all s.values blocking c) (join s.active ++ join (s.queued ++ updates)) ≡ value_after c (value_after c (value_after c (s.values c) blocking) waiting) (join updates)
      start =
          ap (λ (x : V). value_after c x (join s.active ++ join (s.queued ++ updates))) (value_after_put_all c s.values blocking)
          ∙ ap (value_after c (value_after c (s.values c) blocking)) all_waiting
          ∙ value_after-append c (value_after c (s.values c) blocking) waiting (join updates)

      end : value_after c (value_after c (s.values c) waiting) (blocking ++ join updates) ≡ value_after c (value_after c (value_after c (s.values c) waiting) blocking) (join updates)
      end = value_after-append c (value_after c (s.values c) waiting) blocking (join updates)

      go : (m.blocking p c ≡ true) ⊎ (m.blocking p c ≡ false) → value_after c (put_all s.values blocking c) (join s.active ++ join (s.queued ++ updates)) ≡ value_after c (value_after c (s.values c) waiting) (blocking ++ join updates)
      go (inl blocks) = start ∙ ap (λ (x : V). value_after c x (join updates)) swap ∙ sym end
        where
          none : (x : V) → value_after c x waiting ≡ x
          none x =
              value_after_none c x waiting
              (λ h. ⊎_elim
              (λ k. let by = are.active c (WritesCell-join c s.active k) in none_waits blocks by.0 by.1)
              (λ k. let by = are.queued c (WritesCell-join c s.queued k) in none_waits blocks by.0 by.1)
              (WritesCell-split c (join s.active) (join s.queued) h))

          swap : value_after c (value_after c (s.values c) blocking) waiting ≡ value_after c (value_after c (s.values c) waiting) blocking
          swap = none (value_after c (s.values c) blocking) ∙ ap (λ (x : V). value_after c x blocking) (sym (none (s.values c)))
      go (inr not) = start ∙ ap (λ (x : V). value_after c x (join updates)) swap ∙ sym end
        where
          none : (x : V) → value_after c x blocking ≡ x
          none x = value_after_none c x blocking (λ h. true≢false (sym (lawful.blocking_kept p s.values c h) ∙ not))

          swap : value_after c (value_after c (s.values c) blocking) waiting ≡ value_after c (value_after c (s.values c) waiting) blocking
          swap = ap (λ (x : V). value_after c x waiting) (none (s.values c)) ∙ sym (none (value_after c (s.values c) waiting))

  pub event_due : (s : State V) (e : Event V) → AreWrites m s → CanOccur m s e → due c (state_after m s e) ≡ value_after c (due c s) (if is_evaluation p e then output m p s.values else [])
  unfolding value_after
  event_due s e are can =
      ⊎_elim
      (λ is.
      subst (λ (b : Bool). due c (state_after m s e) ≡ value_after c (due c s) (if b then output m p s.values else [])) (sym is)
      (subst (λ (x : Event V). due c (state_after m s x) ≡ value_after c (due c s) (output m p s.values)) (sym (is_evaluation_is p e is)) (evaluation_due s are)))
      (λ other.
      subst (λ (b : Bool). due c (state_after m s e) ≡ value_after c (due c s) (if b then output m p s.values else [])) (sym other) (other_due s e can other))
      (cases_Bool (is_evaluation p e))

  pub end_state_due : (es : List (Event V)) (s : State V) → AreWrites m s → IsLegal m s es → due c (end_state m s es) ≡ value_after c (due c s) (written_by m p s es)
  unfolding value_after
  end_state_due [] s are legal = refl
  end_state_due (e ∷ es) s are legal =
      end_state_due es (state_after m s e) (AreWrites-kept m lawful s e are) legal.1
      ∙ ap (λ (x : V). value_after c x (written_by m p (state_after m s e) es)) (event_due s e are legal.0)
      ∙ sym (value_after-append c (due c s) (if is_evaluation p e then output m p s.values else []) (written_by m p (state_after m s e) es))

  -- from a state where no update of the cell waits
  pub end_state_leaves : (es : List (Event V)) (s : State V) → AreWrites m s → IsLegal m s es → IsSettled (end_state m s es) → due c s ≡ s.values c → (end_state m s es).values c ≡ put_all s.values (written_by m p s es) c
  end_state_leaves es s are legal settled now =
      sym (due_settled c (end_state m s es) settled)
      ∙ end_state_due es s are legal
      ∙ ap (λ (x : V). value_after c x (written_by m p s es)) now
      ∙ sym (value_after_put_all c s.values (written_by m p s es))

  -- a cell that is written by blocking writes is due to have the value that it has
  pub due_blocking : (s : State V) → AreWrites m s → m.blocking p c ≡ true → due c s ≡ s.values c
  due_blocking s are blocks =
      due_now c s
      (λ h. let by = are.active c h in none_waits blocks by.0 by.1)
      (λ h. let by = are.queued c h in none_waits blocks by.0 by.1)

pub AreWrites_end_state : {V : Type 0} (m : Machine V) (lawful : IsLawful m) (es : List (Event V)) (s : State V) → AreWrites m s → AreWrites m (end_state m s es)
AreWrites_end_state m lawful [] s are = are
AreWrites_end_state m lawful (e ∷ es) s are = AreWrites_end_state m lawful es (state_after m s e) (AreWrites-kept m lawful s e are)

pub write_law : {V : Type 0} (m : Machine V) → IsLawful m → WriteLaw m
write_law m lawful h s es step p c target =
    end_state_leaves m lawful p c target es s (settled_writes m s step.starts) step.legal step.ends (due_settled c s step.starts)
    ∙ ap (λ (l : List (Write _)). put_all s.values l c) (written_is m p es s)
