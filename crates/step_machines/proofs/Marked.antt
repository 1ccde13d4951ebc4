-- The marks of the machines of a step, one machine and one signal after the other.
use Rattle.std.proofs.Common.{◌≡◌, ◌∙◌, ◌≤◌, ◌<◌, ◌+◌, ◌++◌, ℕ, ◌==◌, ◌&&◌, ◌||◌, not, nat_lt, Bool, true, false, List, [], ◌∷◌, length, get_or, refl, sym, ap, arith}
use Rattle.std.specs.List.{Contains}
use Rattle.std.proofs.lemmas.Bool.{eqb-true, eq-eqb, lt-ltb, ltb-true}
use Rattle.step_parts.specs.body_calls.Own.{is_in}
use Rattle.step_parts.specs.replay_model.Step.{Closing, all_run, before_of, known_bits}
use Rattle.step_parts.proofs.step_changes.early_sets.Membership.{is_in_from, is_in_is}
use Rattle.body_replay.specs.Store.{Kept}
use Rattle.cover_points.specs.Listed.{IsPointList}
use Rattle.cover_points.specs.MachinePoints.{machine_of}
use Rattle.cover_points.specs.Visits.{IsMachinePointAt}
use Rattle.cover_points.specs.declared.listing.Points.{Points}
use Rattle.cover_points.specs.declared.machine_point.MachinePoint.{MachinePoint}
use Rattle.cover_points.specs.declared.machine_point.MachinePoint.TheVariants.{Arc, State}
use Rattle.cover_points.specs.design_machines.Machines.{machine_at}
use Rattle.cover_points.specs.design_machines.declared.machine.Machine.{Machine}
use Rattle.design_model.specs.Design.{Design}
use Rattle.cover_points.specs.design_machines.state_machines.Machines.{StateMachines}
use Rattle.machine_index.specs.Index.{HasSignal}
use Rattle.machine_marks.specs.Marked.{Chances, MarksEach, MarksMachine, MarksStates, chances_in, chances_of, is_of_machine, is_state_of, marked_if}
use Rattle.machine_marks.proofs.Tests.{and_or, lt_more}
use Rattle.machine_laws.specs.Followed.{MarksMachines, is_state, step_chances}
use Rattle.point_marks.specs.declared.verdict.Verdict.{Verdict}
use Rattle.step_machines.specs.Marked.{MarksAll, MarksThing, own_machine}
use Rattle.step_machines.proofs.Fits.{is_of, is_state_in, placed_at, signal_inside}
use Rattle.step_machines.proofs.Joined.{either, joined, none_marked, restated}

or_false : (a : Bool) → (a || false) ≡ a
or_false true = refl
or_false false = refl

or_true : (a : Bool) → (a || true) ≡ true
or_true true = refl
or_true false = refl

and_false : (a : Bool) → (a && false) ≡ false
and_false true = refl
and_false false = refl

and_true : (a : Bool) → (a && true) ≡ a
and_true true = refl
and_true false = refl

or_assoc : (a b c : Bool) → (a || (b || c)) ≡ ((a || b) || c)
or_assoc true b c = refl
or_assoc false b c = refl

or_swap : (a b c : Bool) → ((a || b) || c) ≡ ((a || c) || b)
or_swap true b c = refl
or_swap false true true = refl
or_swap false true false = refl
or_swap false false true = refl
or_swap false false false = refl

-- the test of a list with one number more
in_more : (xs : List ℕ) (k m : ℕ) → is_in (xs ++ k ∷ []) m ≡ (is_in xs m || (k == m))
in_more [] k m = or_false (k == m)
in_more (y ∷ ys) k m = ap (λ b. (y == m) || b) (in_more ys k m) ∙ or_assoc (y == m) (is_in ys m) (k == m)

-- ---- the machines of one signal

-- the machines with these numbers are marked, which have this signal
abbrev pub MarksNumbers : Closing → Points → List ℕ → ℕ → List Verdict → List Verdict → Type 0
MarksNumbers st ps ks s before after = MarksEach ps (λ p v. marked_if (is_in ks (machine_of p)) s st.time (step_chances st (own_machine ps p) p) v) before after

module _ (st : Closing) (ms : StateMachines) (ps : Points) (list : IsPointList st.design ms ps) where
  module _ (k s : ℕ) (signal : (machine_at ps.machines.items k).signal ≡ s) where
    abbrev x : Machine
    x = machine_at ps.machines.items k

    own : (n : ℕ) (p : MachinePoint) → IsMachinePointAt ps n p → (v : Verdict) (b : Bool) → (k == machine_of p) ≡ b
        → marked_if (is_of_machine k (length x.values) p) x.signal st.time (step_chances st x p) v ≡ marked_if (k == machine_of p) s st.time (step_chances st (own_machine ps p) p) v
    own n p at v true e =
        ap (λ b. marked_if b x.signal st.time (step_chances st x p) v) (is_of st.design ms ps list k n p at) ∙ ap (λ z. marked_if (k == machine_of p) z st.time (step_chances st x p) v) signal
        ∙ ap (λ j. marked_if (k == machine_of p) s st.time (step_chances st (machine_at ps.machines.items j) p) v) (eqb-true k (machine_of p) e)
    own n p at v false e =
        ap (λ b. marked_if b x.signal st.time (step_chances st x p) v) (is_of st.design ms ps list k n p at ∙ e) ∙ sym (ap (λ b. marked_if b s st.time (step_chances st (own_machine ps p) p) v) e)

    pub one_number : (ks : List ℕ) (before middle after : List Verdict) → MarksNumbers st ps ks s before middle
        → MarksMachine st.listed ps k x st.time (known_bits st.design (before_of st) x.signal) (known_bits st.design (all_run st).kept x.signal) middle after → MarksNumbers st ps (ks ++ k ∷ []) s before after
    one_number ks before middle after a b = joined ps _ _ _ before middle after a b (λ n p at v. (
        let c = step_chances st (own_machine ps p) p in
        own n p at (marked_if (is_in ks (machine_of p)) s st.time c v) (k == machine_of p) refl ∙ either (is_in ks (machine_of p)) (k == machine_of p) s st.time c v
        ∙ ap (λ b. marked_if b s st.time c v) (sym (in_more ks k (machine_of p)))))

  pub no_number : (s : ℕ) (vs : List Verdict) → MarksNumbers st ps [] s vs vs
  no_number s vs = none_marked ps _ vs (λ n p at v. refl)

  -- once all that have the signal are marked
  pub all_numbers : (ks : List ℕ) (s : ℕ) (before after : List Verdict) → ((k : ℕ) → Contains ks k → HasSignal ps.machines.items k s) → ((k : ℕ) → HasSignal ps.machines.items k s → Contains ks k)
      → MarksNumbers st ps ks s before after → MarksThing st ps s before after
  all_numbers ks s before after has all h = restated ps _ _ before after h (λ n p at v. ap (λ b. marked_if b s st.time (step_chances st (own_machine ps p) p) v) (sym (same n p at)))
    where
      inside : (n : ℕ) (p : MachinePoint) → IsMachinePointAt ps n p → machine_of p < length ps.machines.items
      inside n (State m i) at = (placed_at st.design ms ps list n (State m i) at).0
      inside n (Arc m i j) at = (placed_at st.design ms ps list n (Arc m i j) at).0

      same : (n : ℕ) (p : MachinePoint) → IsMachinePointAt ps n p → (s == (own_machine ps p).signal) ≡ is_in ks (machine_of p)
      same n p at = is_in_is ks (machine_of p) (s == (own_machine ps p).signal) (λ e. all (machine_of p) (inside n p at, sym (eqb-true s (own_machine ps p).signal e)), λ c. eq-eqb s (own_machine ps p).signal (sym (has (machine_of p) c).1))

  -- what is no signal has no machine
  pub no_signal_marked : (s : ℕ) (vs : List Verdict) → length st.design.signals ≤ s → MarksThing st ps s vs vs
  no_signal_marked s vs past = none_marked ps _ vs (λ n p at v. ap (λ b. marked_if b s st.time (step_chances st (own_machine ps p) p) v) (none n p at (s == (own_machine ps p).signal) refl))
    where
      inside : (n : ℕ) (p : MachinePoint) → IsMachinePointAt ps n p → machine_of p < length ps.machines.items
      inside n (State m i) at = (placed_at st.design ms ps list n (State m i) at).0
      inside n (Arc m i j) at = (placed_at st.design ms ps list n (Arc m i j) at).0

      none : (n : ℕ) (p : MachinePoint) → IsMachinePointAt ps n p → (b : Bool) → (s == (own_machine ps p).signal) ≡ b → (s == (own_machine ps p).signal) ≡ false
      none n p at true e = let l = signal_inside st.design ms ps list (machine_of p) (inside n p at) in let same = eqb-true s (own_machine ps p).signal e in absurd (omega (arith, l, same, past))
      none n p at false e = e

-- ---- the states of all machines

-- the states of the machines below this one are marked
abbrev pub MarksBelow : Design → Points → Kept → ℕ → ℕ → List Verdict → List Verdict → Type 0
MarksBelow d ps kept time i before after =
    MarksEach ps (λ p v. (let x = own_machine ps p in marked_if (is_state p && nat_lt (machine_of p) i) x.signal time (chances_of x.values (known_bits d kept x.signal) (known_bits d kept x.signal) p) v)) before after

module _ (d : Design) (ms : StateMachines) (ps : Points) (list : IsPointList d ms ps) (kept : Kept) (time : ℕ) where
  abbrev mark_of : Machine → Bool → MachinePoint → Verdict → Verdict
  mark_of x b p v = marked_if b x.signal time (chances_of x.values (known_bits d kept x.signal) (known_bits d kept x.signal) p) v

  own_states : (k n : ℕ) (p : MachinePoint) → IsMachinePointAt ps n p → (v : Verdict) (b : Bool) → (k == machine_of p) ≡ b
      → mark_of (machine_at ps.machines.items k) (is_state_of k (length (machine_at ps.machines.items k).values) p) p v ≡ mark_of (own_machine ps p) (is_state p && (k == machine_of p)) p v
  own_states k n p at v true e =
      ap (λ b. mark_of (machine_at ps.machines.items k) b p v) (is_state_in d ms ps list k n p at) ∙ ap (λ j. mark_of (machine_at ps.machines.items j) (is_state p && (k == machine_of p)) p v) (eqb-true k (machine_of p) e)
  own_states k n p at v false e =
      ap (λ b. mark_of (machine_at ps.machines.items k) b p v) (is_state_in d ms ps list k n p at ∙ none) ∙ sym (ap (λ b. mark_of (own_machine ps p) b p v) none)
    where
      none : (is_state p && (k == machine_of p)) ≡ false
      none = ap (λ b. is_state p && b) e ∙ and_false (is_state p)

  pub next_machine : (i : ℕ) (before middle after : List Verdict) → MarksBelow d ps kept time i before middle
      → MarksStates ps i (machine_at ps.machines.items i) time (known_bits d kept (machine_at ps.machines.items i).signal) middle after → MarksBelow d ps kept time (i + 1) before after
  next_machine i before middle after a b = joined ps _ _ _ before middle after a b (λ n p at v. (
      let x = own_machine ps p in
      let c = chances_of x.values (known_bits d kept x.signal) (known_bits d kept x.signal) p in
      own_states i n p at (mark_of x (is_state p && nat_lt (machine_of p) i) p v) (i == machine_of p) refl ∙ either (is_state p && nat_lt (machine_of p) i) (is_state p && (i == machine_of p)) x.signal time c v
      ∙ ap (λ b. marked_if b x.signal time c v) (sym (ap (λ b. is_state p && b) (lt_more (machine_of p) i) ∙ and_or (is_state p) (nat_lt (machine_of p) i) (i == machine_of p)))))

  none_below : (m : ℕ) (b : Bool) → nat_lt m 0 ≡ b → nat_lt m 0 ≡ false
  none_below m true e = absurd (omega (arith, ltb-true m 0 e))
  none_below m false e = e

  pub no_machine_yet : (vs : List Verdict) → MarksBelow d ps kept time 0 vs vs
  no_machine_yet vs = none_marked ps _ vs (λ n p at v. ap (λ b. mark_of (own_machine ps p) b p v) (ap (λ b. is_state p && b) (none_below (machine_of p) (nat_lt (machine_of p) 0) refl) ∙ and_false (is_state p)))

  pub all_machines : (i : ℕ) (before after : List Verdict) → length ps.machines.items ≤ i → MarksBelow d ps kept time i before after → MarksAll d ps kept time before after
  all_machines i before after past h = restated ps _ _ before after h (λ n p at v. ap (λ b. mark_of (own_machine ps p) b p v) (ap (λ b. is_state p && b) (lt-ltb (machine_of p) i (inside n p at)) ∙ and_true (is_state p)))
    where
      inside : (n : ℕ) (p : MachinePoint) → IsMachinePointAt ps n p → machine_of p < i
      inside n (State m j) at = omega (arith, (placed_at d ms ps list n (State m j) at).0, past)
      inside n (Arc m j k) at = omega (arith, (placed_at d ms ps list n (Arc m j k) at).0, past)

-- ---- one signal after the other

module _ (st : Closing) (ps : Points) (told : Bool) where
  -- the machines of these are marked, and the states of all where no state was reported before
  abbrev pub MarksSome : List ℕ → List Verdict → List Verdict → Type 0
  MarksSome ss before after =
      MarksEach ps (λ p v. (let x = own_machine ps p in marked_if (is_in ss x.signal || (is_state p && not told)) x.signal st.time (step_chances st x p) v)) before after

  of_signal : (s t : ℕ) (p : MachinePoint) (v : Verdict) (b : Bool) → (s == t) ≡ b → (c : Chances) → marked_if (s == t) s st.time c v ≡ marked_if (s == t) t st.time c v
  of_signal s t p v true e c = ap (λ z. marked_if (s == t) z st.time c v) (eqb-true s t e)
  of_signal s t p v false e c = ap (λ b. marked_if b s st.time c v) e ∙ sym (ap (λ b. marked_if b t st.time c v) e)

  pub one_thing : (ss : List ℕ) (s : ℕ) (before middle after : List Verdict) → MarksSome ss before middle → MarksThing st ps s middle after → MarksSome (ss ++ s ∷ []) before after
  one_thing ss s before middle after a b = joined ps _ _ _ before middle after a b (λ n p at v. (
      let x = own_machine ps p in
      let c = step_chances st x p in
      let first = is_in ss x.signal || (is_state p && not told) in
      of_signal s x.signal p (marked_if first x.signal st.time c v) (s == x.signal) refl c ∙ either first (s == x.signal) x.signal st.time c v
      ∙ ap (λ b. marked_if b x.signal st.time c v) (or_swap (is_in ss x.signal) (is_state p && not told) (s == x.signal) ∙ ap (λ b. b || (is_state p && not told)) (sym (in_more ss s x.signal)))))

  pub all_things : (ss : List ℕ) (before after : List Verdict) → ((s : ℕ) → st.sets.moves s ≡ is_in ss s) → MarksSome ss before after → MarksMachines st ps told before after
  all_things ss before after moves h = restated ps _ _ before after h (λ n p at v. (
      let x = own_machine ps p in
      ap (λ b. marked_if (b || (is_state p && not told)) x.signal st.time (step_chances st x p) v) (sym (moves x.signal))))

module _ (st : Closing) (ps : Points) where
  pub start_told : (vs : List Verdict) → MarksSome st ps true [] vs vs
  start_told vs = none_marked ps _ vs (λ n p at v. (let x = own_machine ps p in ap (λ b. marked_if b x.signal st.time (step_chances st x p) v) (and_false (is_state p))))

  pub start_untold : st.listed ≡ true → (before after : List Verdict) → MarksAll st.design ps (all_run st).kept st.time before after → MarksSome st ps false [] before after
  start_untold listed before after h = restated ps _ _ before after h (λ n p at v. same p v)
    where
      same : (p : MachinePoint) (v : Verdict)
          → (let x = own_machine ps p in marked_if (is_state p) x.signal st.time (chances_of x.values (known_bits st.design (all_run st).kept x.signal) (known_bits st.design (all_run st).kept x.signal) p) v)
          ≡ (let x = own_machine ps p in marked_if (is_in [] x.signal || (is_state p && not false)) x.signal st.time (step_chances st x p) v)
      same (State k i) v = (let x = own_machine ps (State k i) in
          ap (λ b. marked_if true x.signal st.time (chances_in b x.values (known_bits st.design (before_of st) x.signal) (known_bits st.design (all_run st).kept x.signal) (State k i)) v) (sym listed))
      same (Arc k i j) v = refl

-- an item of a list is in it
pub thing_moves : (xs : List ℕ) (i x : ℕ) → i < length xs → get_or xs i x ≡ x → is_in xs x ≡ true
thing_moves xs i x l e = is_in_from xs x i l e
