-- The run in which y pulses, and what is open on settled values.
use Rattle.std.proofs.Common.{◌≡◌, refl, sym, ap, subst, inl, inr, ℕ, zero, suc, ◌<◌, true, false, [], ◌∷◌, List, arith, lit<, lit≤, Some}
use Rattle.std.specs.Prelude.{nat_le, nat_lt}
use Rattle.std.proofs.lemmas.Bool.{and_parts, eqb-true, false≢true, leb-true, ltb-true}
use Rattle.event_machine.proofs.Habits.{free_habit_law}  -- #keep
use Rattle.event_machine.specs.Cell.{Values, Write, put}
use Rattle.event_machine.specs.Machine.{is_sensitive, wakes}
use Rattle.event_machine.specs.Event.{end_state, mark}
use Rattle.event_machine.specs.Habit.{Free}
use Rattle.event_machine.specs.Step.{IsStep}
use Rattle.four_state.specs.Vector.{extend, truth}
use Rattle.four_state.specs.declared.bit.Bit.{Bit}
use Rattle.four_state.specs.declared.bit.Bit.TheVariants.{One, Zero}
use Rattle.four_state.specs.declared.truth.Truth.TheVariants.{False}
use Rattle.design_model.specs.Tree.{Term, signal}
use Rattle.design_model.specs.Design.{In, IsThing, a_signal, a_word, body_at, cell, signal_bits}
use Rattle.design_model.specs.Value.{head, value}
use Rattle.design_model.specs.Mentions.{body_blocks, mentions}
use Rattle.point_words.specs.declared.node_case.NodeCase.TheVariants.{BothTrue, RightFalse}
use Rattle.design_model.specs.Reads.{Agrees, PartialMap}
use Rattle.design_model.specs.Machine.{machine}
use Rattle.design_model.specs.Run.{IsRun}
use Rattle.design_model.specs.Shows.{Shows}
use Rattle.design_model.specs.Clear.{clear, of_dump}
use Rattle.design_model.specs.Open.{IsFixed, IsOpen, IsSurelyOpen, KnownAtEnd, MayBeAsked, asks}
use Rattle.design_model.specs.ExampleParts.{at, plain}
use Rattle.design_model.proofs.Bound.{clear_bound}
use Rattle.worked_examples.specs.Design.Product.{IsProductExample, both, case_of, product, product_dump, product_events, product_run, product_start, product_values}
use Rattle.worked_examples.proofs.Design.Entry.{at_end}
use Rattle.worked_examples.proofs.Design.OneSet.{node_met, node_sure}
use Rattle.worked_examples.proofs.Design.OneStep.{never_woken, shows_step}
use Rattle.worked_examples.proofs.Design.Parts.{False≢True, One≢Zero, Zero≢One, none_some, not_empty}

-- ---- the run

deaf : (p : ℕ) (v : Values Bit) (ws : List (Write Bit)) → wakes (machine product) (suc p) v ws ≡ false
unfolding is_sensitive
deaf p v [] = refl
deaf p v (w ∷ ws) = deaf p (put v w) ws

none_end : (end_state (machine product) product_start product_events).woken 0 ≡ false → (p : ℕ) → (end_state (machine product) product_start product_events).woken p ≡ false
none_end a zero = a
none_end a (suc p) = never_woken (machine product) (suc p) (deaf p) product_events product_start refl

is_step : IsStep (machine product) Free product_start product_events
unfolding put is_sensitive mark
is_step =
    record {
      starts = record { none_woken = λ p. refl; none_active = refl; none_queued = refl };
      unmoved = λ c. refl;
      legal = ((not_empty _ _, (refl, refl, Zero≢One, tt)), (refl, ((not_empty _ _, (refl, refl, One≢Zero, tt)), (refl, tt))));
      habit = free_habit_law (machine product) product_start product_events;
      ends = record { none_woken = none_end refl; none_active = refl; none_queued = refl };
    }

is_run : IsRun product Free product_run
is_run =
    record {
      starts = record { none_woken = λ p. refl; none_active = refl; none_queued = refl };
      unmoved = λ c. refl;
      nets = λ p c is_assign blocks. absurd (no_assign p is_assign);
      steps = (lit< tt, is_step, tt);
    }
  where
    no_assign : (p : ℕ) → (machine product).is_assign p ≡ true → ⊥
    no_assign zero e = false≢true e
    no_assign (suc p) e = false≢true e

same_end : (s : ℕ) → signal_bits product (end_state (machine product) product_start product_events).values s ≡ signal_bits product (product_values One Zero Zero) s
unfolding put
same_end zero = refl
same_end (suc zero) = refl
same_end (suc (suc zero)) = refl
same_end (suc (suc (suc s))) = refl

does_show : Shows product product_dump product_run
does_show = shows_step product product_dump.bound product_dump.round (product_values Zero One Zero) (product_values One Zero Zero) (product_values Zero Zero Zero) product_start product_events (λ s. refl) same_end

-- ---- what is open

no_words : (m i : ℕ) → IsThing product (a_word m i) → ⊥
no_words m i h = let p = and_parts (nat_le 3 m) (nat_lt m 3) h.0 in omega (arith, leb-true 3 m p.0, ltb-true m 3 p.1)

agrees : Agrees product (KnownAtEnd product Free product_dump 5 0) (product_values One Zero Zero)
agrees = at_end product Free product_dump 5 0 (product_values One Zero Zero) no_words signals
  where
    signals : (s : ℕ) → s < 3 → (bits : List Bit) → clear product Free product_dump 5 (a_signal s) bits → signal_bits product (product_values One Zero Zero) s ≡ bits
    signals zero below bits k = sym (clear_bound product Free product_dump 5 0 bits k refl)
    signals (suc zero) below bits k = sym (clear_bound product Free product_dump 5 1 bits k refl)
    signals (suc (suc zero)) below bits k = sym (clear_bound product Free product_dump 5 2 bits k refl)
    signals (suc (suc (suc s))) below bits k = absurd (omega (arith, below))

abbrev K : PartialMap
K = KnownAtEnd product Free product_dump 5 0

knows_b : KnownAtEnd product Free product_dump 5 0 (a_signal 1) (Zero ∷ [])
knows_b = (refl, (1, of_dump 1 (Zero ∷ []) (lit≤ tt, lit< tt) refl (lit< tt) refl))

fixed_b : IsFixed product (KnownAtEnd product Free product_dump 5 0) (body_at product 0) (signal plain 1)
fixed_b = record { within = λ v a. ((Zero ∷ [], knows_b), tt); unwritten = unwritten }
  where
    unwritten : (x : ℕ) → mentions x (signal plain 1) ≡ true → body_blocks x (body_at product 0) ≡ false
    unwritten x m = subst (λ y. body_blocks y (body_at product 0) ≡ false) (eqb-true 1 x m) refl

b_is : (v : Values Bit) → Agrees product (KnownAtEnd product Free product_dump 5 0) v → truth (value product v (signal plain 1)) ≡ False
b_is v av = ap (λ bs. truth (extend 1 false bs)) (av (a_signal 1) (Zero ∷ []) knows_b)

is_sure : IsSurelyOpen product (KnownAtEnd product Free product_dump 5 0) (body_at product 0) (case_of RightFalse)
is_sure = (both, inr (inl refl), (fixed_b, b_is, tt), node_sure product K (at 11) 1 true 2 both 1 both (inl refl) refl)

both_closed : IsOpen product (KnownAtEnd product Free product_dump 5 0) (body_at product 0) (case_of BothTrue) → ⊥
both_closed h = go (node_met product K (at 11) 1 true 2 both 1 (λ u. MayBeAsked product K (body_at product 0) (asks BothTrue u)) h)
  where
    asked_true : (u : Term) → both ≡ u → MayBeAsked product K (body_at product 0) (asks BothTrue u) → ⊥
    asked_true u e m =
        let f = subst (λ z. MayBeAsked product K (body_at product 0) (asks BothTrue z)) (sym e) m in
        False≢True (f.1.0 fixed_b (product_values One Zero Zero) agrees)

    go : ((u : Term) × In u (both ∷ signal plain 0 ∷ signal plain 1 ∷ []) × ((head u).node ≡ Some 1) × MayBeAsked product K (body_at product 0) (asks BothTrue u)) → ⊥
    go (u, inl e, node, m) = asked_true u e m
    go (u, inr (inl e), node, m) = none_some 1 (subst (λ z. (head z).node ≡ Some 1) (sym e) node)
    go (u, inr (inr (inl e)), node, m) = none_some 1 (subst (λ z. (head z).node ≡ Some 1) (sym e) node)
    go (u, inr (inr (inr none)), node, m) = none

pub product_example : IsProductExample
product_example =
    record {
      run = is_run;
      showing = record { is_run = is_run; shows = record { starts = refl; shows = λ t now le. does_show.shows t now } };
      shows = does_show;
      visited_before = inr (inr (inr (inl refl)));
      reached = ((lit< tt, lit< tt), refl, inr ((λ c. c), (cell 0 0, (lit< tt, lit< tt, (refl, refl)), refl, Zero≢One), inr is_sure));
      surely_open = is_sure;
      not_open = both_closed;
    }
