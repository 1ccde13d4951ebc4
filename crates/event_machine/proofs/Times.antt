-- How often a cell is written along events: each write that an event schedules is made once.
use Rattle.std.proofs.Common.{◌≡◌, ◌⊎◌, inl, inr, ℕ, suc, ◌+◌, ◌≤◌, List, [], ◌∷◌, ◌++◌, refl, sym, ap, subst, ◌∙◌, arith}
use Rattle.std.proofs.lemmas.Bool.{cases_eq}
use Rattle.event_machine.specs.Cell.{Cell, Update, Values, Write, WritesCell, join, put, put_all, times}
use Rattle.event_machine.specs.Machine.{Machine, output}
use Rattle.event_machine.specs.State.{State}
use Rattle.event_machine.specs.Event.{Activate, Apply, CanOccur, Evaluate, Event, IsLegal, Move, end_state, first, rest, state_after, event_writes}
use Rattle.event_machine.specs.Told.{Told}
use Rattle.event_machine.proofs.Writes.{AreOldToNew, cases_cell, join-append, join_first, put_all_other, put_other, put_same, same_cell_is, same_cell_not}
use Rattle.event_machine.proofs.Inputs.{AllOldToNew, untouched_old_new}

module _ {V : Type 0} (c : Cell) where
  pub times_here : (w : Write V) (ws : List (Write V)) → w.cell ≡ c → times c (w ∷ ws) ≡ suc (times c ws)
  times_here w ws is = rw (same_cell_is w.cell c is) (omega arith)

  pub times_there : (w : Write V) (ws : List (Write V)) → (w.cell ≡ c → ⊥) → times c (w ∷ ws) ≡ times c ws
  times_there w ws other = rw (same_cell_not w.cell c other) (omega arith)

  -- what is never written is not in the list, and the other way round
  pub unwritten_never : (ws : List (Write V)) → (WritesCell ws c → ⊥) → times c ws ≡ 0
  unwritten_never [] none = refl
  unwritten_never (w ∷ ws) none = times_there w ws (λ is. none (inl is)) ∙ unwritten_never ws (λ h. none (inr h))

  pub never_unwritten : (ws : List (Write V)) → times c ws ≡ 0 → WritesCell ws c → ⊥
  never_unwritten [] never h = h
  never_unwritten (w ∷ ws) never h = go (cases_cell w.cell c) h (never_unwritten ws)
    where
      go : (w.cell ≡ c) ⊎ (w.cell ≡ c → ⊥) → (w.cell ≡ c) ⊎ WritesCell ws c → (times c ws ≡ 0 → WritesCell ws c → ⊥) → ⊥
      go (inl is) has in_rest = let e = times_here w ws is in omega arith
      go (inr other) (inl is) in_rest = other is
      go (inr other) (inr later) in_rest = in_rest (sym (times_there w ws other) ∙ never) later

  pub times-append : (xs ys : List (Write V)) → times c (xs ++ ys) ≡ times c xs + times c ys
  times-append [] ys = omega arith
  times-append (x ∷ xs) ys = let e = times-append xs ys in omega arith

  times_join-append : (us vs : List (Update V)) → times c (join (us ++ vs)) ≡ times c (join us) + times c (join vs)
  times_join-append us vs = ap (times c) (join-append us vs) ∙ times-append (join us) (join vs)

  times_join_first : (us : List (Update V)) → times c (first us) + times c (join (rest us)) ≡ times c (join us)
  times_join_first us = sym (times-append (first us) (join (rest us))) ∙ ap (times c) (join_first us)

  -- the writes of the cell that wait in the lists
  unfoldable pub waiting : State V → ℕ
  waiting s = times c (join s.active) + times c (join s.queued)

  -- the writes of the cell that an event schedules
  abbrev pub scheduled : Machine V → State V → Event V → ℕ
  scheduled m s (Move ws) = times c ws
  scheduled m s (Evaluate p) = times c (output m p s.values)
  scheduled m s Activate = 0
  scheduled m s Apply = 0

  abbrev pub scheduled_all : Machine V → State V → List (Event V) → ℕ
  scheduled_all m s [] = 0
  scheduled_all m s (e ∷ es) = scheduled m s e + scheduled_all m (state_after m s e) es

  abbrev pub times_all : Machine V → State V → List (Event V) → ℕ
  times_all m s [] = 0
  times_all m s (e ∷ es) = times c (event_writes m s e) + times_all m (state_after m s e) es

  -- what is scheduled is written or waits
  event_keeps_count : (m : Machine V) (s : State V) (e : Event V) → CanOccur m s e → times c (event_writes m s e) + waiting (state_after m s e) ≡ waiting s + scheduled m s e
  unfolding waiting
  event_keeps_count m s (Move ws) can = omega arith
  event_keeps_count m s (Evaluate p) can =
      let a = times_join-append s.queued (m.evaluate p s.values).nonblocking in
      let b = times-append (m.evaluate p s.values).blocking (join (m.evaluate p s.values).nonblocking) in
      omega arith
  event_keeps_count m s Activate can = let e : times c (join s.active) ≡ 0 = ap (λ (us : List (Update V)). times c (join us)) can.0.1 in omega arith
  event_keeps_count m s Apply can = let e = times_join_first s.active in omega arith

  pub count_all : (m : Machine V) (es : List (Event V)) (s : State V) → IsLegal m s es → times_all m s es + waiting (end_state m s es) ≡ waiting s + scheduled_all m s es
  count_all m [] s legal = omega arith
  count_all m (e ∷ es) s legal =
      let here = event_keeps_count m s e legal.0 in
      let later = count_all m es (state_after m s e) legal.1 in
      omega arith

  -- a list that writes the cell at most once takes it from the value before to the value after
  once_old_new : (t : Told V) (v : Values V) (ws : List (Write V)) → times c ws ≤ 1 → v c ≡ t.old c → put_all v ws c ≡ t.new c → AreOldToNew t (λ d. d ≡ c) v ws
  once_old_new t v [] once old new = tt
  once_old_new t v (w ∷ ws) once old new = go (cases_cell w.cell c) (once_old_new t (put v w) ws)
    where
      go : (w.cell ≡ c) ⊎ (w.cell ≡ c → ⊥) → (times c ws ≤ 1 → put v w c ≡ t.old c → put_all (put v w) ws c ≡ t.new c → AreOldToNew t (λ d. d ≡ c) (put v w) ws) → AreOldToNew t (λ d. d ≡ c) v (w ∷ ws)
      go (inl is) in_rest =
          let e = times_here w ws is in
          let gone : WritesCell ws c → ⊥ = never_unwritten ws (omega arith) in
          let becomes : w.value ≡ t.new c = sym (put_same v w c is) ∙ sym (put_all_other (put v w) ws c gone) ∙ new in (
            λ one differ. (ap v one ∙ old ∙ ap t.old (sym one), becomes ∙ ap t.new (sym one)),
            untouched_old_new t (λ d. d ≡ c) (put v w) ws (λ d has one. gone (subst (WritesCell ws) one has)),
          )
      go (inr other) in_rest =
          let e = times_there w ws other in
          (λ one differ. absurd (other one), in_rest (omega arith) (put_other v w c other ∙ old) new)

  -- events that never write the cell leave it
  never_all : (t : Told V) (m : Machine V) (es : List (Event V)) (s : State V) → times_all m s es ≡ 0 → AllOldToNew t (λ d. d ≡ c) m s es × ((end_state m s es).values c ≡ s.values c)
  never_all t m [] s never = (tt, refl)
  never_all t m (e ∷ es) s never =
      let gone : WritesCell (event_writes m s e) c → ⊥ = never_unwritten (event_writes m s e) (omega arith) in
      let later = never_all t m es (state_after m s e) (omega arith) in (
        (untouched_old_new t (λ d. d ≡ c) s.values (event_writes m s e) (λ d has one. gone (subst (WritesCell (event_writes m s e)) one has)), later.0),
        later.1 ∙ put_all_other s.values (event_writes m s e) c gone,
      )

  -- events that write the cell at most once take it from the value before to the value after
  pub once_all : (t : Told V) (m : Machine V) (es : List (Event V)) (s : State V) → times_all m s es ≤ 1 → s.values c ≡ t.old c → (end_state m s es).values c ≡ t.new c → AllOldToNew t (λ d. d ≡ c) m s es
  once_all t m [] s once old new = tt
  once_all t m (e ∷ es) s once old new = go (cases_eq (times_all m (state_after m s e) es) 0) (once_all t m es (state_after m s e))
    where
      go : (times_all m (state_after m s e) es ≡ 0) ⊎ (times_all m (state_after m s e) es ≡ 0 → ⊥) → (times_all m (state_after m s e) es ≤ 1 → (state_after m s e).values c ≡ t.old c → (end_state m (state_after m s e) es).values c ≡ t.new c → AllOldToNew t (λ d. d ≡ c) m (state_after m s e) es) → AllOldToNew t (λ d. d ≡ c) m s (e ∷ es)
      go (inl never) in_rest =
          let later = never_all t m es (state_after m s e) never in
          (once_old_new t s.values (event_writes m s e) (omega arith) old (sym later.1 ∙ new), later.0)
      go (inr some) in_rest =
          let gone : WritesCell (event_writes m s e) c → ⊥ = never_unwritten (event_writes m s e) (omega arith) in (
            untouched_old_new t (λ d. d ≡ c) s.values (event_writes m s e) (λ d has one. gone (subst (WritesCell (event_writes m s e)) one has)),
            in_rest (omega arith) (put_all_other s.values (event_writes m s e) c gone ∙ old) new,
          )
