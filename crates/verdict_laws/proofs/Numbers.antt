-- What is in doubt is a signal or a memory of the design, at a time before the last that the dump lists.
use Rattle.std.proofs.Common.{◌∙◌, ◌≡◌, ◌<◌, ◌+◌, ◌&&◌, ◌==◌, ⊎_elim, ℕ, Bool, true, List, [], ◌∷◌, length, inl, inr, refl, subst, arith}
use Rattle.std.specs.Prelude.{nat_lt}
use Rattle.std.specs.List.{list_all, list_any}
use Rattle.std.proofs.lemmas.Bool.{and_parts, eqb-true, ltb-true, or_cases, false≢true}
use Rattle.event_machine.specs.Cell.{Cell}
use Rattle.event_machine.specs.Habit.{Habit}
use Rattle.event_machine.specs.Machine.{Edge as MachineEdge}
use Rattle.four_state.specs.declared.edge.Edge.{Edge}
use Rattle.design_model.specs.Design.{Design, In, IsThing, Thing, a_word, body_at, owner, process_at, signal_at}
use Rattle.design_model.specs.Doubt.{BlockDoubt, IsInDoubt, IsPointOn, unclear_at_start, read_early, not_clean, unclear_signal, unclear_word, own_target, of_block, of_signal}
use Rattle.design_model.specs.Execution.{execution, execution_start}
use Rattle.design_model.specs.Lawful.{IsLawfulDesign, is_alias}
use Rattle.design_model.specs.Machine.{events_of, lists_edge, same_edge}
use Rattle.design_model.specs.Points.{IsNameOf}
use Rattle.mark_laws.specs.cover_points.design_machines.state_machines.Drawn.{IsOfDesign, IsPointWith}
use Rattle.mark_laws.specs.cover_points.design_machines.state_machines.Machines.{StateMachines}
use Rattle.mark_laws.specs.cover_points.design_machines.state_machines.declared.drawn.Drawn.{Drawn}
use Rattle.design_model.specs.Reads.{PartialMap, ReadsFrom}
use Rattle.design_model.specs.Shows.{BoundDump, InSome, IsListed, IsWindow, IsWindowOf, last_time}
use Rattle.design_model.specs.Tree.{Process, assign, clocked, comb}
use Rattle.design_model.specs.declared.point.Point.{Point}
use Rattle.design_model.specs.declared.point.Point.TheVariants as point
use Rattle.design_model.proofs.BlockVisits.{upto_thing}
use Rattle.design_model.proofs.ReadThings.{execute_things}
use Rattle.model_laws.proofs.States.{owner_below}

member_passes : {A : Type 0} (p : A → Bool) (x : A) (xs : List A) → list_all p xs ≡ true → In x xs → p x ≡ true
member_passes p x [] h k = absurd k
member_passes p x (y ∷ ys) h (inl e) = subst (λ z. p z ≡ true) e (and_parts (p y) (list_all p ys) h).0
member_passes p x (y ∷ ys) h (inr k) = member_passes p x ys (and_parts (p y) (list_all p ys) h).1 k

-- the last time is listed, and the window is before it
last_listed : (u : ℕ) (us : List ℕ) → In (last_time u us) (u ∷ us)
last_listed u [] = inl refl
last_listed u (x ∷ us) = inr (last_listed x us)

pub window_before : (dump : BoundDump) (n t : ℕ) → ((u : ℕ) → IsListed dump u → u < n) → IsWindow dump t → t < n
window_before dump n t below is = within dump.stretches below is
  where
    within_one : (ts : List ℕ) → ((u : ℕ) → In u ts → u < n) → IsWindowOf ts t → t < n
    within_one [] h w = absurd w
    within_one (u ∷ us) h w = omega (arith, w.1, h (last_time u us) (last_listed u us))

    within : (tss : List (List ℕ)) → ((u : ℕ) → InSome (In u) tss → u < n) → InSome (λ ts. IsWindowOf ts t) tss → t < n
    within [] h w = absurd w
    within (ts ∷ []) h w = within_one ts h w
    within (ts ∷ us ∷ tss) h (inl w) = within_one ts (λ u k. h u (inl k)) w
    within (ts ∷ us ∷ tss) h (inr w) = within (us ∷ tss) (λ u k. h u (inr k)) w

module _ (d : Design) (lawful : IsLawfulDesign d) where
  abbrev Below : ℕ → Type 0
  Below s = s < length d.signals + length d.memories

  of_thing : (x : Thing) (s : ℕ) → IsThing d x → owner x ≡ s → Below s
  of_thing x s is owns = subst Below owns (owner_below d x is)

  -- what a body reads is a thing
  read_thing : (K : PartialMap) (p : ℕ) (x : Thing) → ReadsFrom d K (body_at d p) x → IsThing d x
  read_thing K p x (inl visits) =
      upto_thing d K x (execution d (body_at d p) visits.0).visits (execute_things d (body_at d p) (lawful.bodies p) (execution_start visits.0) tt) visits.2
  read_thing K p x (inr mentioned) = mentioned.2

  -- what a Clocked lists an edge of is a signal
  listed_edge : (events : List (Edge × ℕ)) (e : MachineEdge) (s : ℕ) → list_all (λ (f : Edge × ℕ). nat_lt f.1 (length d.signals) && ((signal_at d f.1).width == 1)) events ≡ true → list_any (λ (f : Edge × ℕ). same_edge f.0 e && (f.1 == s)) events ≡ true → s < length d.signals
  listed_edge [] e s all any = absurd (false≢true any)
  listed_edge (f ∷ fs) e s all any =
      let parts = and_parts (nat_lt f.1 (length d.signals) && ((signal_at d f.1).width == 1)) (list_all (λ (g : Edge × ℕ). nat_lt g.1 (length d.signals) && ((signal_at d g.1).width == 1)) fs) all in
      ⊎_elim
      (λ here. omega (arith, eqb-true f.1 s (and_parts (same_edge f.0 e) (f.1 == s) here).1, ltb-true f.1 (length d.signals) (and_parts (nat_lt f.1 (length d.signals)) _ parts.0).0))
      (λ there. listed_edge fs e s parts.1 there)
      (or_cases (same_edge f.0 e && (f.1 == s)) (list_any (λ (g : Edge × ℕ). same_edge g.0 e && (g.1 == s)) fs) any)

  edge_signal : (x : Process) (e : MachineEdge) (c : Cell) → list_all (λ (f : Edge × ℕ). nat_lt f.1 (length d.signals) && ((signal_at d f.1).width == 1)) (events_of x) ≡ true → lists_edge x e c ≡ true → c.thing < length d.signals
  edge_signal (assign i x t counted) e c all lists = absurd (false≢true lists)
  edge_signal (comb i wakes s) e c all lists = absurd (false≢true lists)
  edge_signal (clocked i events s) e c all lists = listed_edge events e c.thing all (and_parts (c.place == 0) _ lists).1

  named_signal : (i : ℕ) (name : List ℕ) (s : ℕ) → IsNameOf d i name s → Below s
  named_signal i name s (inl own) = omega (arith, own.0)
  named_signal i name s (inr other) =
      let alias = and_parts (nat_lt other.0.instance (length d.instances)) (nat_lt other.0.signal (length d.signals)) (member_passes (is_alias d) other.0 d.aliases lawful.aliases other.1) in
      omega (arith, ltb-true other.0.signal (length d.signals) alias.1, other.4)

  drawn_signal : (e : Drawn) → IsOfDesign d e → Below e.signal
  drawn_signal e of_design = omega (arith, of_design.signal.0)

  -- a point on a signal is on one of the design
  point_signal : (ms : StateMachines) (x : Point) (s : ℕ) → IsPointWith d ms x → IsPointOn x s → Below s
  point_signal ms (point.Toggle q i rise) s is on = omega (arith, is.0, on)
  point_signal ms (point.State i name q state x) s (inl is) on = subst Below on (named_signal i name q is.2.2)
  point_signal ms (point.State i name q state x) s (inr is) on = subst Below (is.3.2 ∙ on) (drawn_signal is.0 is.2)
  point_signal ms (point.Arc i name q from to x y) s (inl is) on = subst Below on (named_signal i name q is.2.2)
  point_signal ms (point.Arc i name q from to x y) s (inr is) on = subst Below (is.3.2 ∙ on) (drawn_signal is.0 is.2)
  point_signal ms (point.Line p n at w) s is on = absurd on
  point_signal ms (point.Logic p n at op c) s is on = absurd on
  point_signal ms (point.Word m i write) s is on = absurd on

  module _ (h : Habit) (dump : BoundDump) (t s p : ℕ) where
    block_number : BlockDoubt d h dump t s p → Below s
    block_number (unclear_at_start doubt) = of_thing doubt.thing s doubt.is_thing doubt.of_owner
    block_number (read_early doubt) = of_thing doubt.thing s (read_thing _ p doubt.thing doubt.is_read) doubt.of_owner
    block_number (not_clean doubt) =
        let edge = doubt.can_wake.0 in
        omega (arith, edge_signal (process_at d p) edge.0 doubt.event (lawful.events p) edge.1, doubt.of_signal)
    block_number (unclear_signal doubt) = omega (arith, doubt.wake_bit.0)
    block_number (unclear_word doubt) = owner_below d (a_word s doubt.word) doubt.is_thing
    block_number (own_target doubt) = omega (arith, lawful.comb_writes p s doubt.is_comb doubt.target)

  -- what is in doubt is a number of the design
  pub doubt_number : (h : Habit) (dump : BoundDump) (ms : StateMachines) (x : Point) (t s : ℕ) → IsPointWith d ms x → IsInDoubt d h dump x t s → s < length d.signals + length d.memories
  doubt_number h dump ms x t s is_point (of_block p in_window of_point is_open doubt) = block_number h dump t s p doubt
  doubt_number h dump ms x t s is_point (of_signal in_window on moves unclear) = point_signal ms x s is_point on
