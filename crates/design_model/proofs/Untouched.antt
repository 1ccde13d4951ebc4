-- A cell that neither the environment nor a process writes keeps its value over a step.
use Rattle.std.proofs.Common.{◌≡◌, ◌⊎◌, inl, inr, ⊎_elim, ℕ, Bool, true, false, List, [], ◌∷◌, ◌++◌, refl, subst, ◌∙◌}
use Rattle.std.proofs.lemmas.Bool.{and_parts, eqb-true}
use Rattle.event_machine.specs.Cell.{Cell, Update, UpdatesCell, Values, Write, WritesCell, put, put_all, same_cell}
use Rattle.event_machine.specs.Machine.{IsLawful, IsTarget, Machine}
use Rattle.event_machine.specs.State.{State}
use Rattle.event_machine.specs.Event.{Activate, Apply, CanMove, CanOccur, Evaluate, Event, IsLegal, Move, end_state, first, mark, rest, state_after, event_writes}
use Rattle.event_machine.specs.Habit.{Habit}
use Rattle.event_machine.specs.Step.{IsStep}

-- what is not written stays
pub put_other : {V : Type 0} (v : Values V) (ws : List (Write V)) (c : Cell) → (WritesCell ws c → ⊥) → put_all v ws c ≡ v c
unfolding put
put_other v [] c h = refl
put_other v (w ∷ ws) c h = put_other (put v w) ws c (λ later. h (inr later)) ∙ here (same_cell w.cell c) refl
  where
    here : (b : Bool) → same_cell w.cell c ≡ b → put v w c ≡ v c
    here true e = absurd (h (inl (λ i. record { thing = eqb-true w.cell.thing c.thing (and_parts _ _ e).0 i; place = eqb-true w.cell.place c.place (and_parts _ _ e).1 i })))
    here false e = rw e refl

UpdatesCell-halves : {V : Type 0} (us ws : List (Update V)) (c : Cell) → UpdatesCell (us ++ ws) c → UpdatesCell us c ⊎ UpdatesCell ws c
UpdatesCell-halves [] ws c h = inr h
UpdatesCell-halves (u ∷ us) ws c (inl e) = inl (inl e)
UpdatesCell-halves (u ∷ us) ws c (inr h) = ⊎_elim (λ a. inl (inr a)) (λ b. inr b) (UpdatesCell-halves us ws c h)

module _ {V : Type 0} (m : Machine V) (lawful : IsLawful m) (c : Cell) (no_input : m.is_input c ≡ true → ⊥) (no_target : (p : ℕ) → IsTarget m p c → ⊥) where
  -- no update that waits writes the cell
  record IsAway (s : State V) : Type 0 where
    active : UpdatesCell s.active c → ⊥
    queued : UpdatesCell s.queued c → ⊥

  moves_away : (moved : Cell → Bool) (v : Values V) (ws : List (Write V)) → CanMove m moved v ws → WritesCell ws c → ⊥
  moves_away moved v [] can h = h
  moves_away moved v (w ∷ ws) can (inl e) = no_input (subst (λ x. m.is_input x ≡ true) e can.0)
  moves_away moved v (w ∷ ws) can (inr h) = moves_away (mark moved w) (put v w) ws can.3 h

  first_away : (us : List (Update V)) → (UpdatesCell us c → ⊥) → WritesCell (first us) c → ⊥
  first_away [] h x = x
  first_away (u ∷ us) h x = h (inl x)

  rest_away : (us : List (Update V)) → (UpdatesCell us c → ⊥) → UpdatesCell (rest us) c → ⊥
  rest_away [] h x = x
  rest_away (u ∷ us) h x = h (inr x)

  writes_away : (s : State V) (e : Event V) → CanOccur m s e → IsAway s → WritesCell (event_writes m s e) c → ⊥
  writes_away s (Move ws) can away h = moves_away s.moved s.values ws can.1 h
  writes_away s (Evaluate p) can away h = no_target p (inl (lawful.blocking_kept p s.values c h))
  writes_away s Activate can away h = h
  writes_away s Apply can away h = first_away s.active away.active h

  away_kept : (s : State V) (e : Event V) → IsAway s → IsAway (state_after m s e)
  away_kept s (Move ws) away = record { active = away.active; queued = away.queued }
  away_kept s (Evaluate p) away =
      record {
        active = away.active;
        queued = λ h. ⊎_elim away.queued (λ x. no_target p (inr (lawful.nonblocking_kept p s.values c x))) (UpdatesCell-halves s.queued (m.evaluate p s.values).nonblocking c h);
      }
  away_kept s Activate away = record { active = away.queued; queued = λ h. h }
  away_kept s Apply away = record { active = rest_away s.active away.active; queued = away.queued }

  stays_over : (s : State V) (es : List (Event V)) → IsLegal m s es → IsAway s → (end_state m s es).values c ≡ s.values c
  stays_over s [] legal away = refl
  stays_over s (e ∷ es) legal away = stays_over (state_after m s e) es legal.1 (away_kept s e away) ∙ put_other s.values (event_writes m s e) c (writes_away s e legal.0 away)

  pub untouched : (h : Habit) (s : State V) (es : List (Event V)) → IsStep m h s es → (end_state m s es).values c ≡ s.values c
  untouched h s es step = stays_over s es step.legal (record { active = λ x. subst (λ us. UpdatesCell us c) step.starts.none_active x; queued = λ x. subst (λ us. UpdatesCell us c) step.starts.none_queued x })
