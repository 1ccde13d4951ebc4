-- Which process can wake and which is clean, by tables, are those of the definitions.
use Rattle.std.proofs.Common.{◌≡◌, ⊎_elim, ◌∙◌, ℕ, ◌<◌, Bool, true, false, not, cond, ◌==◌, ◌&&◌, List, Option, Some, None, refl, sym, ap, subst, eq-eqb}
use Rattle.std.specs.List.{Contains, list_all}
use Rattle.std.proofs.lemmas.Bool.{and_from, and_parts, both_ways, cases_Bool, cases_eq, false≢true, ne_eqb, not_from_false, not-true}
use Rattle.event_machine.specs.Cell.{Cell}
use Rattle.event_machine.specs.Machine.{Edge as MachineEdge, Negedge, Posedge}
use Rattle.design_model.specs.four_state.declared.edge.Edge.{Edge}
use Rattle.design_model.specs.four_state.declared.edge.Edge.TheVariants.{Neg, Pos}
use Rattle.design_model.specs.Design.{Design, In, cell, process_at}
use Rattle.design_model.specs.Lawful.{IsLawfulDesign}
use Rattle.design_model.specs.Machine.{events_of, machine, same_edge}
use Rattle.design_model.specs.Shows.{BoundDump}
use Rattle.design_model.specs.MayMove.{CanWakeAt, CanWakeSome, IsCleanAt, IsSingleAt, told_at}
use Rattle.early_sets.specs.index_sets.Rows.{row_at}
use Rattle.wake_laws.specs.OfDesign.{AreTablesOf}
use Rattle.early_sets.specs.Edges.{may_be}
use Rattle.wake_laws.specs.Laws.{AreNotes, AreSingle, AreWakes, IsSettled, WakesLaw}
use Rattle.early_sets.specs.Reached.{Reached}
use Rattle.early_sets.specs.Has.{is_in}
use Rattle.early_sets.specs.WakeState.{WakeState, can_wake_by, edges_at, first_signal, is_single, nothing_left, trigger_by, waker_of, wakes_only_by}
use Rattle.early_sets.proofs.Membership.{is_in_from, is_in_gives}
use Rattle.wake_laws.proofs.EdgeLists.{Listed, all_from, all_gives, first_gives, first_none, listed_by, listed_of, no_level}
use Rattle.wake_laws.proofs.MovesLaw.{edge_place, is_fall, is_rise, fall_is, lowest, moves_by, moves_of, reached_below, rise_is}

module _ (d : Design) (lawful : IsLawfulDesign d) (dump : BoundDump) (t : ℕ) (w : WakeState) (tables : AreTablesOf d w.tables) (notes : AreNotes d dump t w) (single : AreSingle d dump t w) (settled : IsSettled w) where
  abbrev R : ℕ → Type 0
  R x = Reached w.tables (edges_at w) nothing_left (Contains w.noted) x

  -- the list of edges of a process
  abbrev Events : ℕ → List Listed
  Events p = events_of (process_at d p)

  moved : (x : ℕ) → is_in w.moves x ≡ true → R x
  moved x h = (settled.moves_are x).0 (is_in_gives w.moves x h)

  is_moved : (x : ℕ) → R x → is_in w.moves x ≡ true
  is_moved x m = let c = (settled.moves_are x).1 m in is_in_from w.moves x c.0 c.1 c.2

  -- an edge of the list by which a process can wake
  wakes_of : (p : ℕ) (e : Edge) (s : ℕ) → In (e, s) (Events p) → can_wake_by w (e, s) ≡ true → CanWakeAt d dump t (cell s 0) p
  wakes_of p Pos s i h =
      let both = and_parts (is_in w.moves s) (may_be (edges_at w s) Pos) h in
      let m = moved s both.0 in
      ((Posedge, listed_of (process_at d p) (Pos, s) Posedge i refl, rise_is d lawful dump t w tables notes single s m both.1), moves_of d lawful dump t w tables notes single s m)
  wakes_of p Neg s i h =
      let both = and_parts (is_in w.moves s) (may_be (edges_at w s) Neg) h in
      let m = moved s both.0 in
      ((Negedge, listed_of (process_at d p) (Neg, s) Negedge i refl, fall_is d lawful dump t w tables notes single s m both.1), moves_of d lawful dump t w tables notes single s m)

  can_be : (s : ℕ) → R s → (e : Edge) (m : MachineEdge) → same_edge e m ≡ true → (IsSingleAt d dump t (cell s 0) → (machine d).is_edge m ((told_at dump t).old (cell s 0)) ((told_at dump t).new (cell s 0)) ≡ true) → may_be (edges_at w s) e ≡ true
  can_be s r Pos Posedge same f = is_rise d lawful dump t w tables notes single s r f
  can_be s r Neg Negedge same f = is_fall d lawful dump t w tables notes single s r f
  can_be s r Pos Negedge same f = absurd (false≢true same)
  can_be s r Neg Posedge same f = absurd (false≢true same)

  -- a cell by which a process can wake is the lowest bit of a signal of its list
  record WakesBy (p : ℕ) (c : Cell) : Type 0 where
    listed : Listed
    is_listed : In listed (Events p)
    is_cell : c ≡ cell listed.1 0
    can : can_wake_by w listed ≡ true

  wakes_by : (p : ℕ) (c : Cell) → CanWakeAt d dump t c p → WakesBy p c
  wakes_by p c ((m, listed, f), moves) =
      let e = listed_by (process_at d p) m c listed in
      let low : c ≡ cell e.0.1 0 = lowest c e.0.1 (sym e.3) (edge_place (process_at d p) m c listed) in
      let r : R e.0.1 = subst R (sym e.3) (moves_by d lawful dump t w tables notes single c.thing moves) in
      let f' = subst (λ b. IsSingleAt d dump t b → (machine d).is_edge m ((told_at dump t).old b) ((told_at dump t).new b) ≡ true) low f in
      record { listed = e.0; is_listed = e.1; is_cell = low; can = and_from (is_in w.moves e.0.1) _ (is_moved e.0.1 r) (can_be e.0.1 r e.0.0 m e.2 f') }

  waker_some : (p s : ℕ) → first_signal (can_wake_by w) (Events p) ≡ Some s → CanWakeAt d dump t (cell s 0) p
  waker_some p s h = let r = first_gives (can_wake_by w) (Events p) s h in subst (λ y. CanWakeAt d dump t (cell y 0) p) r.3 (wakes_of p r.0.0 r.0.1 r.1 r.2)

  waker_none : (p : ℕ) → first_signal (can_wake_by w) (Events p) ≡ None → CanWakeSome d dump t p → ⊥
  waker_none p h (c, can) = let b = wakes_by p c can in both_ways _ (first_none (can_wake_by w) (Events p) b.listed h b.is_listed) b.can

  -- the test that a process can wake by no other event signal
  abbrev is_other : ℕ → Listed → Bool
  is_other s e = not (not (e.1 == s) && can_wake_by w e)

  only_by : (p s : ℕ) → list_all (is_other s) (Events p) ≡ true → (c : Cell) → CanWakeAt d dump t c p → c ≡ cell s 0
  only_by p s h c can =
      let b = wakes_by p c can in
      let passed : is_other s b.listed ≡ true = all_gives (is_other s) (Events p) b.listed h b.is_listed in
      ⊎_elim
      (λ same. b.is_cell ∙ ap (λ y. cell y 0) same)
      (λ other. absurd (both_ways _ (not-true _ passed) (and_from (not (b.listed.1 == s)) _ (not_from_false _ (ne_eqb b.listed.1 s other)) b.can)))
      (cases_eq b.listed.1 s)

  by_only : (p s : ℕ) → ((c : Cell) → CanWakeAt d dump t c p → c ≡ cell s 0) → list_all (is_other s) (Events p) ≡ true
  by_only p s only =
      all_from (is_other s) (Events p) (λ e i.
      ⊎_elim
      (λ can.
      let same : e.1 ≡ s = ap (λ c. c.thing) (only (cell e.1 0) (wakes_of p e.0 e.1 i can)) in
      not_from_false _ (ap (λ b. not b && can_wake_by w e) (eq-eqb e.1 s same)))
      (λ can_not. passes (not (e.1 == s)) (can_wake_by w e) can_not)
      (cases_Bool (can_wake_by w e)))
    where
      passes : (x y : Bool) → y ≡ false → not (x && y) ≡ true
      passes true y h = not_from_false y h
      passes false y h = refl

  -- an event signal is of the design
  waker_below : (p s : ℕ) → CanWakeAt d dump t (cell s 0) p → s < w.tables.things
  waker_below p s can = reached_below d lawful dump t w tables notes s (moves_by d lawful dump t w tables notes single s can.1)

  level_none : (p s : ℕ) → CanWakeAt d dump t (cell s 0) p → (x : ℕ) → (machine d).level p x ≡ false
  level_none p s can x = let b = wakes_by p (cell s 0) can in no_level (process_at d p) b.listed b.is_listed x

  clean_by : (p s : ℕ) → CanWakeAt d dump t (cell s 0) p → is_single w s ≡ true → list_all (is_other s) (Events p) ≡ true → IsCleanAt d dump t p (cell s 0)
  clean_by p s can told only =
      record {
        clocked = level_none p s can;
        can_wake = can;
        alone = only_by p s only;
        is_single = single.sound s (waker_below p s can) told;
      }

  row_of : (p : ℕ) → row_at w.tables.events p ≡ Events p
  row_of p = tables.events_are p

  waker_is : (p : ℕ) (o : Option ℕ) → waker_of w p ≡ o → first_signal (can_wake_by w) (Events p) ≡ o
  waker_is p o h = ap (first_signal (can_wake_by w)) (sym (row_of p)) ∙ h

  only_is : (p s : ℕ) → wakes_only_by w p s ≡ list_all (is_other s) (Events p)
  only_is p s = ap (list_all (is_other s)) (row_of p)

  cond_some : (b : Bool) (x y : ℕ) → cond b (Some x) None ≡ Some y → (b ≡ true) × (x ≡ y)
  cond_some true x y h = let same : x ≡ y = cc in (refl, same)
  cond_some false x y h = absurd (cc)

  cond_none : (b : Bool) (x : ℕ) → cond b (Some x) None ≡ None → b ≡ false
  cond_none true x h = absurd (cc)
  cond_none false x h = refl

  trigger_some : (p s : ℕ) (o : Option ℕ) → waker_of w p ≡ o → trigger_by w p o ≡ Some s → IsCleanAt d dump t p (cell s 0)
  trigger_some p s None is h = absurd (cc)
  trigger_some p s (Some x) is h =
      let r = cond_some (is_single w x && wakes_only_by w p x) x s h in
      let both = and_parts (is_single w x) (wakes_only_by w p x) r.0 in
      subst (λ y. IsCleanAt d dump t p (cell y 0)) r.1 (clean_by p x (waker_some p x (waker_is p (Some x) is)) both.0 (sym (only_is p x) ∙ both.1))

  trigger_none : (p : ℕ) (o : Option ℕ) → waker_of w p ≡ o → trigger_by w p o ≡ None → (c : Cell) → IsCleanAt d dump t p c → ⊥
  trigger_none p None is h c clean = waker_none p (waker_is p None is) (c, clean.can_wake)
  trigger_none p (Some x) is h c clean =
      let can = waker_some p x (waker_is p (Some x) is) in
      let same : cell x 0 ≡ c = clean.alone (cell x 0) can in
      let one : IsSingleAt d dump t (cell x 0) = subst (IsSingleAt d dump t) (sym same) clean.is_single in
      let told : is_single w x ≡ true = single.complete x (moves_by d lawful dump t w tables notes single x can.1) one in
      let only : wakes_only_by w p x ≡ true = only_is p x ∙ by_only p x (λ e can'. clean.alone e can' ∙ sym same) in
      both_ways _ (cond_none _ x h) (and_from (is_single w x) (wakes_only_by w p x) told only)

  pub wakes_are : AreWakes d dump t w
  wakes_are =
      record {
        moves = λ x. (λ c. moves_of d lawful dump t w tables notes single x ((settled.moves_are x).0 c), λ m. (settled.moves_are x).1 (moves_by d lawful dump t w tables notes single x m));
        wakes = λ p s h. waker_some p s (waker_is p (Some s) h);
        no_wakes = λ p h. waker_none p (waker_is p None h);
        trigger = λ p s h. trigger_some p s (waker_of w p) refl h;
        no_trigger = λ p h. trigger_none p (waker_of w p) refl h;
      }

pub wakes_law : (d : Design) → IsLawfulDesign d → WakesLaw d
wakes_law d lawful dump t w tables notes single settled = wakes_are d lawful dump t w tables notes single settled
