-- What the environment does in a step: each reported input cell changes at most once, from its old to its new value.
use Rattle.std.specs.Prelude.{⊤}
use Rattle.std.proofs.Common.{◌≡◌, ◌⊎◌, inl, inr, ⊎_elim, ℕ, Bool, true, false, true≢false, List, [], ◌∷◌, refl, sym, ap, subst, ◌∙◌}
use Rattle.std.proofs.lemmas.Bool.{cases_Bool}
use Rattle.event_machine.specs.Cell.{Cell, Update, UpdatesCell, Values, Write, WritesCell, put, put_all}
use Rattle.event_machine.specs.Machine.{IsLawful, Machine}
use Rattle.event_machine.specs.State.{State}
use Rattle.event_machine.specs.Event.{Activate, Apply, CanMove, CanOccur, Evaluate, Event, IsLegal, Move, end_state, first, mark, mark_all, rest, state_after, event_writes}
use Rattle.event_machine.specs.Told.{IsToldInput, Told}
use Rattle.event_machine.proofs.Writes.{AreOldToNew, UpdatesCell-append, cases_cell, put_all_other, put_other, put_same, same_cell_is, same_cell_not}

module _ {V : Type 0} where
  pub WritesCell-first : (us : List (Update V)) (c : Cell) → WritesCell (first us) c → UpdatesCell us c
  WritesCell-first [] c h = absurd h
  WritesCell-first (u ∷ us) c h = inl h

  pub UpdatesCell-rest : (us : List (Update V)) (c : Cell) → UpdatesCell (rest us) c → UpdatesCell us c
  UpdatesCell-rest [] c h = h
  UpdatesCell-rest (u ∷ us) c h = inr h

  mark_same : (moved : Cell → Bool) (w : Write V) (c : Cell) → w.cell ≡ c → mark moved w c ≡ true
  unfolding mark
  mark_same moved w c e = rw (same_cell_is w.cell c e)

  mark_other : (moved : Cell → Bool) (w : Write V) (c : Cell) → (w.cell ≡ c → ⊥) → mark moved w c ≡ moved c
  unfolding mark
  mark_other moved w c n = rw (same_cell_not w.cell c n)

  mark_stays : (moved : Cell → Bool) (w : Write V) (c : Cell) → moved c ≡ true → mark moved w c ≡ true
  mark_stays moved w c is = ⊎_elim (mark_same moved w c) (λ n. mark_other moved w c n ∙ is) (cases_cell w.cell c)

  mark_all_stays : (moved : Cell → Bool) (ws : List (Write V)) (c : Cell) → moved c ≡ true → mark_all moved ws c ≡ true
  mark_all_stays moved [] c is = is
  mark_all_stays moved (w ∷ ws) c is = mark_all_stays (mark moved w) ws c (mark_stays moved w c is)

  -- what is unmarked after the writes was unmarked before them and is not written
  unmarked : (moved : Cell → Bool) (ws : List (Write V)) (c : Cell) → mark_all moved ws c ≡ false → (moved c ≡ false) × (WritesCell ws c → ⊥)
  unmarked moved [] c is = (is, λ h. h)
  unmarked moved (w ∷ ws) c is = go (cases_cell w.cell c) (unmarked (mark moved w) ws c is)
    where
      go : (w.cell ≡ c) ⊎ (w.cell ≡ c → ⊥) → (mark moved w c ≡ false) × (WritesCell ws c → ⊥) → (moved c ≡ false) × (WritesCell (w ∷ ws) c → ⊥)
      go (inl here) later = absurd (true≢false (sym (mark_same moved w c here) ∙ later.0))
      go (inr other) later = (sym (mark_other moved w c other) ∙ later.0, ⊎_elim other later.1)

-- a Move writes inputs alone
pub move_inputs : {V : Type 0} (m : Machine V) (moved : Cell → Bool) (v : Values V) (ws : List (Write V)) (c : Cell) → CanMove m moved v ws → WritesCell ws c → m.is_input c ≡ true
move_inputs m moved v [] c can h = absurd h
move_inputs m moved v (w ∷ ws) c can (inl here) = subst (λ (d : Cell). m.is_input d ≡ true) here can.0
move_inputs m moved v (w ∷ ws) c can (inr later) = move_inputs m (mark moved w) (put v w) ws c can.3 later

-- each update in the lists is a nonblocking write of some process
pub record AreWrites {V : Type 0} (m : Machine V) (s : State V) : Type 0 where
  pub active : (c : Cell) → UpdatesCell s.active c → (p : ℕ) × (m.nonblocking p c ≡ true)
  pub queued : (c : Cell) → UpdatesCell s.queued c → (p : ℕ) × (m.nonblocking p c ≡ true)

module _ {V : Type 0} (m : Machine V) (lawful : IsLawful m) where
  pub AreWrites-kept : (s : State V) (e : Event V) → AreWrites m s → AreWrites m (state_after m s e)
  AreWrites-kept s (Move ws) are = record { active = are.active; queued = are.queued }
  AreWrites-kept s (Evaluate p) are =
      record {
        active = are.active;
        queued = λ c h. ⊎_elim (are.queued c) (λ k. (p, lawful.nonblocking_kept p s.values c k)) (UpdatesCell-append s.queued (m.evaluate p s.values).nonblocking c h);
      }
  AreWrites-kept s Activate are = record { active = are.queued; queued = λ c h. absurd h }
  AreWrites-kept s Apply are = record { active = λ c h. are.active c (UpdatesCell-rest s.active c h); queued = are.queued }

  -- a Move alone writes an input
  unfoldable pub IsMove : Event V → Type 0
  IsMove (Move ws) = ⊤
  IsMove (Evaluate p) = ⊥
  IsMove Activate = ⊥
  IsMove Apply = ⊥

  pub input_still : (s : State V) (e : Event V) (c : Cell) → AreWrites m s → m.is_input c ≡ true → WritesCell (event_writes m s e) c → IsMove e
  unfolding IsMove
  input_still s (Move ws) c are input h = tt
  input_still s (Evaluate p) c are input h = lawful.inputs_kept p c input (inl (lawful.blocking_kept p s.values c h))
  input_still s Activate c are input h = h
  input_still s Apply c are input h =
      let by = are.active c (WritesCell-first s.active c h) in
      lawful.inputs_kept by.0 c input (inr by.1)

  moved_kept : (moved : Cell → Bool) (v : Values V) (ws : List (Write V)) (c : Cell) → CanMove m moved v ws → moved c ≡ true → put_all v ws c ≡ v c
  moved_kept moved v [] c can is = refl
  moved_kept moved v (w ∷ ws) c can is = moved_kept (mark moved w) (put v w) ws c can.3 (mark_stays moved w c is) ∙ put_other v w c other
    where
      other : w.cell ≡ c → ⊥
      other here = true≢false (sym is ∙ ap moved (sym here) ∙ can.1)

  -- an input that has moved keeps its value at an event, and has moved after it
  event_keeps : (s : State V) (e : Event V) (c : Cell) → AreWrites m s → CanOccur m s e → m.is_input c ≡ true → s.moved c ≡ true → ((state_after m s e).values c ≡ s.values c) × ((state_after m s e).moved c ≡ true)
  unfolding IsMove
  event_keeps s (Move ws) c are can input is = (moved_kept s.moved s.values ws c can.1 is, mark_all_stays s.moved ws c is)
  event_keeps s (Evaluate p) c are can input is = (put_all_other _ _ c (input_still s (Evaluate p) c are input), is)
  event_keeps s Activate c are can input is = (refl, is)
  event_keeps s Apply c are can input is = (put_all_other _ _ c (input_still s Apply c are input), is)

  pub moved_stays : (es : List (Event V)) (s : State V) (c : Cell) → AreWrites m s → IsLegal m s es → m.is_input c ≡ true → s.moved c ≡ true → (end_state m s es).values c ≡ s.values c
  moved_stays [] s c are legal input is = refl
  moved_stays (e ∷ es) s c are legal input is =
      let kept = event_keeps s e c are legal.0 input is in
      moved_stays es (state_after m s e) c (AreWrites-kept s e are) legal.1 input kept.1 ∙ kept.0

-- along these events each single cell that changes does so from its old to its new value
abbrev pub AllOldToNew : {V : Type 0} → Told V → (Cell → Type 0) → Machine V → State V → List (Event V) → Type 0
AllOldToNew t single m s [] = ⊤
AllOldToNew t single m s (e ∷ es) = AreOldToNew t single s.values (event_writes m s e) × AllOldToNew t single m (state_after m s e) es

pub untouched_old_new : {V : Type 0} (t : Told V) (single : Cell → Type 0) (v : Values V) (ws : List (Write V)) → ((c : Cell) → WritesCell ws c → single c → ⊥) → AreOldToNew t single v ws
untouched_old_new t single v [] none = tt
untouched_old_new t single v (w ∷ ws) none =
    (λ one differ. absurd (none w.cell (inl refl) one), untouched_old_new t single (put v w) ws (λ c h. none c (inr h)))

module _ {V : Type 0} (m : Machine V) (lawful : IsLawful m) (t : Told V) where
  -- a reported input that has not moved has its old value
  unfoldable pub IsToldSoFar : State V → Type 0
  IsToldSoFar s = (c : Cell) → IsToldInput m t c → s.moved c ≡ false → s.values c ≡ t.old c

  unfoldable pub EndsAsTold : Values V → Type 0
  EndsAsTold v = (c : Cell) → IsToldInput m t c → v c ≡ t.new c

  move_old_new : (moved : Cell → Bool) (v : Values V) (ws : List (Write V)) → CanMove m moved v ws → ((c : Cell) → IsToldInput m t c → moved c ≡ false → v c ≡ t.old c) → ((c : Cell) → IsToldInput m t c → mark_all moved ws c ≡ true → put_all v ws c ≡ t.new c) → AreOldToNew t (IsToldInput m t) v ws
  move_old_new moved v [] can so_far ends = tt
  move_old_new moved v (w ∷ ws) can so_far ends = (
    λ told differ. (
      so_far w.cell told can.1,
      sym (put_same v w w.cell refl)
          ∙ sym (moved_kept m lawful (mark moved w) (put v w) ws w.cell can.3 (mark_same moved w w.cell refl))
          ∙ ends w.cell told (mark_all_stays (mark moved w) ws w.cell (mark_same moved w w.cell refl)),
    ),
    move_old_new (mark moved w) (put v w) ws can.3 (λ c told is. next c told is (cases_cell w.cell c)) ends,
  )
    where
      next : (c : Cell) → IsToldInput m t c → mark moved w c ≡ false → (w.cell ≡ c) ⊎ (w.cell ≡ c → ⊥) → put v w c ≡ t.old c
      next c told is (inl here) = absurd (true≢false (sym (mark_same moved w c here) ∙ is))
      next c told is (inr other) = put_other v w c other ∙ so_far c told (sym (mark_other moved w c other) ∙ is)

  -- the end of the step, seen from a state: what has moved has its new value
  Ends : State V → Type 0
  Ends s = (c : Cell) → IsToldInput m t c → s.moved c ≡ true → s.values c ≡ t.new c

  ends_at : (es : List (Event V)) (s : State V) → AreWrites m s → IsLegal m s es → EndsAsTold (end_state m s es).values → Ends s
  unfolding EndsAsTold Ends
  ends_at es s are legal ends c told is = sym (moved_stays m lawful es s c are legal told.0 is) ∙ ends c told

  event_old_new : (s : State V) (e : Event V) → AreWrites m s → CanOccur m s e → IsToldSoFar s → Ends (state_after m s e) → AreOldToNew t (IsToldInput m t) s.values (event_writes m s e)
  unfolding IsToldSoFar Ends IsMove
  event_old_new s (Move ws) are can so_far ends = move_old_new s.moved s.values ws can.1 so_far ends
  event_old_new s (Evaluate p) are can so_far ends = untouched_old_new t _ _ _ (λ c h told. input_still m lawful s (Evaluate p) c are told.0 h)
  event_old_new s Activate are can so_far ends = tt
  event_old_new s Apply are can so_far ends = untouched_old_new t _ _ _ (λ c h told. input_still m lawful s Apply c are told.0 h)

  pub so_far_kept : (s : State V) (e : Event V) → AreWrites m s → IsToldSoFar s → IsToldSoFar (state_after m s e)
  unfolding IsToldSoFar IsMove
  so_far_kept s (Move ws) are so_far c told is =
      let before = unmarked s.moved ws c is in
      put_all_other s.values ws c before.1 ∙ so_far c told before.0
  so_far_kept s (Evaluate p) are so_far c told is = put_all_other _ _ c (input_still m lawful s (Evaluate p) c are told.0) ∙ so_far c told is
  so_far_kept s Activate are so_far c told is = so_far c told is
  so_far_kept s Apply are so_far c told is = put_all_other _ _ c (input_still m lawful s Apply c are told.0) ∙ so_far c told is

  -- reported inputs change as reported, at each event
  pub events_old_new : (es : List (Event V)) (s : State V) → AreWrites m s → IsLegal m s es → IsToldSoFar s → EndsAsTold (end_state m s es).values → AllOldToNew t (IsToldInput m t) m s es
  events_old_new [] s are legal so_far ends = tt
  events_old_new (e ∷ es) s are legal so_far ends =
      let next = AreWrites-kept m lawful s e are in (
        event_old_new s e are legal.0 so_far (ends_at es (state_after m s e) next legal.1 ends),
        events_old_new es (state_after m s e) next legal.1 (so_far_kept s e are so_far) ends,
      )

  -- at each moment a reported input has its old or its new value
  pub told_values : (es : List (Event V)) (s : State V) → AreWrites m s → IsLegal m s es → IsToldSoFar s → EndsAsTold (end_state m s es).values → (c : Cell) → IsToldInput m t c → (s.values c ≡ t.old c) ⊎ (s.values c ≡ t.new c)
  unfolding IsToldSoFar Ends
  told_values es s are legal so_far ends c told =
      ⊎_elim (λ is. inr (ends_at es s are legal ends c told is)) (λ is. inl (so_far c told is)) (cases_Bool (s.moved c))
