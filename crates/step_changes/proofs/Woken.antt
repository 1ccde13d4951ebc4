-- The processes that may be woken.
use Rattle.std.proofs.Common.{◌≡◌, inl, inr, ℕ, ◌<◌, true, false, ◌++◌, List, length, Option, Some, None, refl, sym, ap, subst, ◌∙◌, arith}
use Rattle.std.specs.Prelude.{is_some}
use Rattle.std.specs.List.{Contains, list_any}
use Rattle.std.proofs.lemmas.Bool.{and_from, and_parts, both_ways, cases_lt, false≢true}
use Rattle.std.proofs.lemmas.List.{get_or_past}
use Rattle.event_machine.specs.Cell.{Cell}
use Rattle.event_machine.specs.Habit.{Habit}
use Rattle.event_machine.specs.Machine.{Edge as MachineEdge, Negedge, Posedge}
use Rattle.event_machine.specs.MayMove.{of_input, of_target}
use Rattle.four_state.specs.declared.edge.Edge.{Edge}
use Rattle.four_state.specs.declared.edge.Edge.TheVariants.{Neg, Pos}
use Rattle.step_values.specs.design_model.Design.{Design, In, IsClocked, cell, no_signal, process_at, signal_at}
use Rattle.step_values.specs.design_model.Machine.{events_of, is_level, lists_edge, same_edge}
use Rattle.step_values.specs.design_model.MayMove.{MayMoveAt}
use Rattle.step_values.specs.design_model.Shows.{BoundDump}
use Rattle.step_values.specs.design_model.Tree.{Process, assign, clocked, comb}
use Rattle.early_sets.specs.Edges.{may_be}
use Rattle.early_sets.specs.Has.{is_in}
use Rattle.early_sets.specs.Reached.{MayWakeBy, Reached}
use Rattle.early_sets.specs.Rounds.{HasMoves}
use Rattle.early_sets.specs.WakeState.{WakeState, can_wake_by, edges_at, first_signal, nothing_left, waker_of}
use Rattle.early_sets.proofs.Membership.{is_in_from, is_in_gives}
use Rattle.index_sets.specs.Rows.{row_at}
use Rattle.process_order.proofs.Distinct.{contains_in, in_contains, in_either}
use Rattle.process_order.specs.replay_model.Sets.{AreSets}
use Rattle.process_order.specs.replay_model.Tables.{AreTables, Tables}
use Rattle.process_order.proofs.replay_model.Bits.{any_in, in_any}
use Rattle.step_wakes.specs.replay_sets.SetsOf.{sets_of}
use Rattle.step_wakes.specs.wake_laws.OfDesign.{AreTablesOf}
use Rattle.step_wakes.proofs.wake_laws.EdgeLists.{Listed, first_gives, first_none, listed_by, listed_of}
use Rattle.step_changes.specs.Changes.{WokenLaw}

-- what is no Clocked lists no edge
no_edge : (q : Process) (e : MachineEdge) (c : Cell) → (IsClocked q → ⊥) → lists_edge q e c ≡ true → ⊥
no_edge (assign i x t counted) e c never h = false≢true h
no_edge (comb i wakes s) e c never h = false≢true h
no_edge (clocked i events s) e c never h = never tt

-- a Clocked is woken by no level
no_level : (q : Process) (x : ℕ) → IsClocked q → is_level q x ≡ false
no_level (assign i y t counted) x is = absurd is
no_level (comb i wakes s) x is = absurd is
no_level (clocked i events s) x is = refl

module _ (d : Design) (h : Habit) (dump : BoundDump) (t : ℕ) (tables : Tables) (w : WakeState) (early : ℕ → List ℕ) (of : AreTablesOf d w.tables) (tabled : AreTables d dump.bound tables) (sets : AreSets d h dump t (sets_of w early)) (found : HasMoves w) where
  input_below : (x : ℕ) → (signal_at d x).input ≡ true → x < length d.signals
  input_below x i = elim (cases_lt x (length d.signals)) [
    | inl l ↦ l
    | inr past ↦ absurd (false≢true (sym (ap (λ s. s.input) (get_or_past d.signals x no_signal past)) ∙ i))
  ]

  -- what may move is of the design
  below : (x : ℕ) → MayMoveAt d dump t x → x < w.tables.things
  below x (of_input c moving) = let l = input_below c.thing (and_parts (signal_at d c.thing).input _ moving.0).0 in let all = of.things_are in omega (arith, l, all)
  below x (of_target y p c may wakes (inl blocking)) = w.tables.blocking_within.below p c.thing ((of.blocking_is p c.thing).1 (c, refl, blocking))
  below x (of_target y p c may wakes (inr nonblocking)) = w.tables.nonblocking_within.below p c.thing ((of.nonblocking_is p c.thing).1 (c, refl, nonblocking))

  moving_below : (x : ℕ) → is_in w.moves x ≡ true → x < w.tables.things
  moving_below x m = below x ((sets.moves x).0 m)

  abbrev R : ℕ → Type 0
  R x = Reached w.tables (edges_at w) nothing_left (Contains w.noted) x

  is_moving : (x : ℕ) → R x → is_in w.moves x ≡ true
  is_moving x r = let c = (found.moves x).1 r in is_in_from w.moves x c.0 c.1 c.2

  -- ---- the Assigns and Combs

  settles : (p : ℕ) → In p (tables.order ++ tables.last) → IsClocked (process_at d p) → ⊥
  settles p i = ((tabled.others p).0 (in_either p tables.order tables.last i)).1

  touched : (p : ℕ) → In p (tables.order ++ tables.last) → In p w.woken → list_any (is_in w.moves) (tables.watched p) ≡ true
  touched p i woken =
      let r = (found.woken p).0 (in_contains p w.woken woken) in
      let m = is_moving r.0 r.1 in
      let l = moving_below r.0 m in
      in_any (is_in w.moves) (tables.watched p) r.0 ((tabled.watched p r.0).1 ((of.level_is r.0 p l).0 (level r.0 l r.2))) m
    where
      level : (x : ℕ) → x < w.tables.things → MayWakeBy w.tables (edges_at w) x p → Contains (row_at w.tables.level x) p
      level x l (inl c) = c
      level x l (inr (inl c)) = absurd (no_edge (process_at d p) _ (cell x 0) (settles p i) ((of.rising_is x p l).0 c.1))
      level x l (inr (inr c)) = absurd (no_edge (process_at d p) _ (cell x 0) (settles p i) ((of.falling_is x p l).0 c.1))

  touching : (p : ℕ) → list_any (is_in w.moves) (tables.watched p) ≡ true → In p w.woken
  touching p is =
      let x = any_in (is_in w.moves) (tables.watched p) is in
      let reached : R x.0 = (found.moves x.0).0 (is_in_gives w.moves x.0 x.2) in
      let level = (of.level_is x.0 p (moving_below x.0 x.2)).1 ((tabled.watched p x.0).0 x.1) in
      contains_in p w.woken ((found.woken p).1 (x.0, reached, inl level))

  -- ---- the Clocked

  abbrev Events : ℕ → List Listed
  Events p = events_of (process_at d p)

  waker_is : (p : ℕ) (o : Option ℕ) → waker_of w p ≡ o → first_signal (can_wake_by w) (Events p) ≡ o
  waker_is p o e = ap (first_signal (can_wake_by w)) (sym (of.events_are p)) ∙ e

  -- an edge by which the process can wake
  wakes_by : (p : ℕ) (e : Listed) → In e (Events p) → can_wake_by w e ≡ true → is_some (waker_of w p) ≡ true
  wakes_by p e i can = go (waker_of w p) refl
    where
      go : (o : Option ℕ) → waker_of w p ≡ o → is_some o ≡ true
      go (Some s) is = refl
      go None is = absurd (both_ways (can_wake_by w e) (first_none (can_wake_by w) (Events p) e (waker_is p None is) i) can)

  rise : (x : ℕ) (e : Edge) → same_edge e Posedge ≡ true → (edges_at w x).rise ≡ true → may_be (edges_at w x) e ≡ true
  rise x Pos same can = can
  rise x Neg same can = absurd (false≢true same)

  fall : (x : ℕ) (e : Edge) → same_edge e Negedge ≡ true → (edges_at w x).fall ≡ true → may_be (edges_at w x) e ≡ true
  fall x Pos same can = absurd (false≢true same)
  fall x Neg same can = can

  waking : (p x : ℕ) (e : Listed) → In e (Events p) → e.1 ≡ x → is_in w.moves x ≡ true → may_be (edges_at w x) e.0 ≡ true → is_some (waker_of w p) ≡ true
  waking p x e i same moves can =
      wakes_by p e i (and_from (is_in w.moves e.1) _ (subst (λ y. is_in w.moves y ≡ true) (sym same) moves) (subst (λ y. may_be (edges_at w y) e.0 ≡ true) (sym same) can))

  has_waker : (p : ℕ) → In p tables.clocked → In p w.woken → is_some (waker_of w p) ≡ true
  has_waker p i woken = let r = (found.woken p).0 (in_contains p w.woken woken) in by r.0 (is_moving r.0 r.1) (moving_below r.0 (is_moving r.0 r.1)) r.2
    where
      by : (x : ℕ) → is_in w.moves x ≡ true → x < w.tables.things → MayWakeBy w.tables (edges_at w) x p → is_some (waker_of w p) ≡ true
      by x m l (inl c) = absurd (both_ways _ (no_level (process_at d p) x ((tabled.clocked p).0 i).1) ((of.level_is x p l).0 c))
      by x m l (inr (inl c)) =
          let e = listed_by (process_at d p) Posedge (cell x 0) ((of.rising_is x p l).0 c.1) in
          waking p x e.0 e.1 e.3 m (rise x e.0.0 e.2 c.0)
      by x m l (inr (inr c)) =
          let e = listed_by (process_at d p) Negedge (cell x 0) ((of.falling_is x p l).0 c.1) in
          waking p x e.0 e.1 e.3 m (fall x e.0.0 e.2 c.0)

  woken_by : (p : ℕ) (e : Edge) (x : ℕ) → In (e, x) (Events p) → can_wake_by w (e, x) ≡ true → In p w.woken
  woken_by p Pos x i can =
      let both = and_parts (is_in w.moves x) (may_be (edges_at w x) Pos) can in
      let row = (of.rising_is x p (moving_below x both.0)).1 (listed_of (process_at d p) (Pos, x) Posedge i refl) in
      contains_in p w.woken ((found.woken p).1 (x, (found.moves x).0 (is_in_gives w.moves x both.0), inr (inl (both.1, row))))
  woken_by p Neg x i can =
      let both = and_parts (is_in w.moves x) (may_be (edges_at w x) Neg) can in
      let row = (of.falling_is x p (moving_below x both.0)).1 (listed_of (process_at d p) (Neg, x) Negedge i refl) in
      contains_in p w.woken ((found.woken p).1 (x, (found.moves x).0 (is_in_gives w.moves x both.0), inr (inr (both.1, row))))

  with_waker : (p : ℕ) → is_some (waker_of w p) ≡ true → In p w.woken
  with_waker p some = go (waker_of w p) refl some
    where
      go : (o : Option ℕ) → waker_of w p ≡ o → is_some o ≡ true → In p w.woken
      go None is some = absurd (false≢true some)
      go (Some s) is some = let r = first_gives (can_wake_by w) (Events p) s (waker_is p (Some s) is) in woken_by p r.0.0 r.0.1 r.1 r.2

pub woken_are : WokenLaw
woken_are d h dump t tables w early of tabled sets found = record {
  settling = λ p i. (touched d h dump t tables w early of tabled sets found p i, touching d h dump t tables w early of tabled sets found p);
  clocked = λ p i. (has_waker d h dump t tables w early of tabled sets found p i, with_waker d h dump t tables w early of tabled sets found p);
}
