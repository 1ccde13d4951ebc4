-- By the first round h is no trigger; in the next it is.
use Rattle.std.proofs.Common.{◌≡◌, ◌≢◌, refl, sym, ap, subst, inl, inr, ℕ, zero, suc, ◌<◌, true, false, List, [], ◌∷◌, arith, suc-ne-zero, lit<, lit≤, Some}
use Rattle.std.specs.Prelude.{nat_le, nat_lt}
use Rattle.std.proofs.lemmas.Bool.{and_parts, false≢true, leb-true, ltb-true}
use Rattle.event_machine.specs.Cell.{Cell, Values}
use Rattle.event_machine.specs.Machine.{Posedge}
use Rattle.event_machine.specs.Habit.{Free, Habit}
use Rattle.event_machine.specs.MayMove.{MayMove}
use Rattle.event_machine.specs.Early.{IsEarly}
use Rattle.four_state.specs.Operators.{unary_value}
use Rattle.four_state.specs.Vector.{extend, truth}
use Rattle.four_state.specs.declared.bit.Bit.{Bit}
use Rattle.four_state.specs.declared.bit.Bit.TheVariants.{One, Zero}
use Rattle.four_state.specs.declared.operator.Unary.TheVariants.{BitwiseNot}
use Rattle.four_state.specs.declared.truth.Truth.TheVariants.{True}
use Rattle.design_model.specs.Tree.{Term, signal}
use Rattle.design_model.specs.Design.{In, IsThing, a_signal, a_word, body_at, cell, signal_bits}
use Rattle.design_model.specs.Value.{head, value}
use Rattle.point_words.specs.declared.node_case.NodeCase.TheVariants.{ValueFalse, ValueTrue}
use Rattle.design_model.specs.Execution.{cases}
use Rattle.design_model.specs.Reads.{Agrees, PartialMap}
use Rattle.design_model.specs.Machine.{is_input_cell, machine}
use Rattle.design_model.specs.MayMove.{CanWakeAt, IsCleanAt, IsSingleAt, MayMoveAt, told_at}
use Rattle.design_model.specs.Early.{IsEarlyAt}
use Rattle.design_model.specs.Clear.{clear, of_dump}
use Rattle.design_model.specs.Open.{IsFixed, IsNotClean, IsOpen, IsSurelyOpen, KnownOnEntry, MayBeAsked, asks}
use Rattle.design_model.specs.Doubt.{IsInDoubt, not_clean, of_block}
use Rattle.design_model.specs.ExampleParts.{at, plain}
use Rattle.design_model.proofs.Bound.{clear_bound}
use Rattle.worked_examples.specs.Design.Divided.{divided, divided_dump, divided_values, inverted, inverter, line_q}
use Rattle.worked_examples.proofs.Design.Entry.{on_entry}
use Rattle.worked_examples.proofs.Design.OneSet.{line_sure, node_met, node_sure, one_rise}
use Rattle.worked_examples.proofs.Design.Parts.{False≢True, Zero≢One, none_some, thing_of}
use Rattle.worked_examples.proofs.Design.PathSteps.{node_inside}

-- clk moves, and so may h
clk_moves : (n : ℕ) → MayMoveAt divided (divided_dump n) 5 0
clk_moves n = MayMove.of_input (cell 0 0) (refl, λ s. Zero≢One)

h_moves : (n : ℕ) → MayMoveAt divided (divided_dump n) 5 2
h_moves n = MayMove.of_target 0 0 (cell 2 0) (clk_moves n) (inr (cell 0 0, refl, (Posedge, refl, λ s. refl))) (inr refl)

h_wakes : (n : ℕ) → CanWakeAt divided (divided_dump n) 5 (cell 2 0) 1
h_wakes n = ((Posedge, refl, λ s. refl), h_moves n)

-- the block of h is clean in each round in which clk is single
writer_clean : (n : ℕ) → IsSingleAt divided (divided_dump n) 5 (cell 0 0) → IsCleanAt divided (divided_dump n) 5 0 (cell 0 0)
writer_clean n single =
    record {
      clocked = λ x. refl;
      can_wake = ((Posedge, refl, λ s. refl), clk_moves n);
      alone = λ c wakes. one_rise 0 wakes.0.0 c wakes.0.1;
      is_single = single;
    }

-- by the first round the block of q is not clean
pub is_not_clean : IsNotClean divided (divided_dump 0) 5 1
is_not_clean c clean = false≢true (subst (λ e. is_input_cell divided e ≡ true) (one_rise 2 clean.can_wake.0.0 c clean.can_wake.0.1) clean.is_single.0)

pub doubt_h : IsInDoubt divided Free (divided_dump 0) line_q 5 2
doubt_h = of_block 1 (lit< tt, lit< tt) refl (inl ((cell 2 0, h_wakes 0), inl is_not_clean)) (not_clean (record { event = cell 2 0; of_signal = refl; can_wake = h_wakes 0; not_clean = is_not_clean }))

-- in the next round h is single, and the block of q is clean
pub single_h : IsSingleAt divided (divided_dump 1) 5 (cell 2 0)
single_h = inr (record { told = refl; is_event = refl; writer = 0; writes = inr refl; clocked = λ x. refl; once = refl; cannot_wake_or_clean = inr (cell 0 0, writer_clean 0 (refl, refl)) })

pub is_clean : IsCleanAt divided (divided_dump 1) 5 1 (cell 2 0)
is_clean =
    record {
      clocked = λ x. refl;
      can_wake = h_wakes 1;
      alone = λ c wakes. one_rise 2 wakes.0.0 c wakes.0.1;
      is_single = single_h;
    }

pub line_sure_q : IsSurelyOpen divided (KnownOnEntry divided Free (divided_dump 1) 5 1) (body_at divided 1) line_q
line_sure_q = line_sure divided (KnownOnEntry divided Free (divided_dump 1) 5 1) (at 45) 2 false 3 (signal plain 1)

-- what the block of h knows
clean_h : IsCleanAt divided (divided_dump 1) 5 0 (cell 0 0)
clean_h = writer_clean 1 (inl (refl, refl))

only : (e : Cell) → IsCleanAt divided (divided_dump 1) 5 0 e → e ≡ cell 0 0
only e clean = one_rise 0 clean.can_wake.0.0 e clean.can_wake.0.1

no_blocking : (p : ℕ) (c : Cell) → (machine divided).blocking p c ≡ true → ⊥
no_blocking zero c h = false≢true h
no_blocking (suc zero) c h = false≢true h
no_blocking (suc (suc p)) c h = false≢true h

-- of the inputs clk alone moves
moving_clk : (x k : ℕ) → is_input_cell divided (cell x k) ≡ true → ((divided_dump 1).bound x ≡ true → (told_at (divided_dump 1) 5).old (cell x k) ≢ (told_at (divided_dump 1) 5).new (cell x k)) → x ≢ 0 → ⊥
moving_clk zero k h moves ne = ne refl
moving_clk (suc zero) k h moves ne = moves refl refl
moving_clk (suc (suc zero)) k h moves ne = false≢true h
moving_clk (suc (suc (suc zero))) k h moves ne = false≢true h
moving_clk (suc (suc (suc (suc x)))) k h moves ne = false≢true h

none_early : (h : Habit) (x : ℕ) → IsEarlyAt divided h (divided_dump 1) 5 0 (cell 0 0) x → ⊥
none_early h x (IsEarly.of_input c moving free other) = moving_clk c.thing c.place moving.0 moving.1 other
none_early h x (IsEarly.of_trigger p c may_wake not_b blocks away) = no_blocking p c blocks
none_early h x (IsEarly.of_blocking y p c is may_wake not_b blocks away) = no_blocking p c blocks
none_early h x (IsEarly.of_nonblocking y p c is may_wake queues away) = none_early h y is

no_words : (m i : ℕ) → IsThing divided (a_word m i) → ⊥
no_words m i h = let p = and_parts (nat_le 4 m) (nat_lt m 4) h.0 in omega (arith, leb-true 4 m p.0, ltb-true m 4 p.1)

agrees : Agrees divided (KnownOnEntry divided Free (divided_dump 1) 5 0) (divided_values One One Zero Zero)
agrees = on_entry divided Free (divided_dump 1) 5 0 (cell 0 0) only (divided_values One One Zero Zero) no_words refl others
  where
    others : (s : ℕ) → s < 4 → s ≢ 0 → (IsEarlyAt divided Free (divided_dump 1) 5 0 (cell 0 0) s → ⊥) → (bits : List Bit) → clear divided Free (divided_dump 1) 4 (a_signal s) bits → signal_bits divided (divided_values One One Zero Zero) s ≡ bits
    others zero below ne not_early bits k = absurd (ne refl)
    others (suc zero) below ne not_early bits k = sym (clear_bound divided Free (divided_dump 1) 4 1 bits k refl)
    others (suc (suc zero)) below ne not_early bits k = sym (clear_bound divided Free (divided_dump 1) 4 2 bits k refl)
    others (suc (suc (suc zero))) below ne not_early bits k = sym (clear_bound divided Free (divided_dump 1) 4 3 bits k refl)
    others (suc (suc (suc (suc s)))) below ne not_early bits k = absurd (omega (arith, below))

abbrev K : PartialMap
K = KnownOnEntry divided Free (divided_dump 1) 5 0

knows_h : KnownOnEntry divided Free (divided_dump 1) 5 0 (a_signal 2) (Zero ∷ [])
knows_h = (cell 0 0, clean_h, inr ((λ e. suc-ne-zero 1 (ap thing_of e)), none_early Free 2, (1, of_dump 2 (Zero ∷ []) (lit≤ tt, lit< tt) refl (lit< tt) refl)))

fixed : IsFixed divided (KnownOnEntry divided Free (divided_dump 1) 5 0) (body_at divided 0) inverted
fixed = record { within = λ v a. ((Zero ∷ [], knows_h), node_inside K (Some 1) (cases divided v inverted)); unwritten = λ x m. refl }

truth_is : (v : Values Bit) → Agrees divided (KnownOnEntry divided Free (divided_dump 1) 5 0) v → truth (value divided v inverted) ≡ True
truth_is v av = ap (λ bs. truth (extend 1 false (unary_value BitwiseNot (extend 1 false bs)))) (av (a_signal 2) (Zero ∷ []) knows_h)

pub sure_true : IsSurelyOpen divided (KnownOnEntry divided Free (divided_dump 1) 5 0) (body_at divided 0) (inverter ValueTrue)
sure_true = (inverted, inr (inl refl), (fixed, truth_is, tt), node_sure divided K (at 25) 1 false 2 inverted 1 inverted (inl refl) refl)

pub false_closed : IsOpen divided (KnownOnEntry divided Free (divided_dump 1) 5 0) (body_at divided 0) (inverter ValueFalse) → ⊥
false_closed h = go (node_met divided K (at 25) 1 false 2 inverted 1 (λ u. MayBeAsked divided K (body_at divided 0) (asks ValueFalse u)) h)
  where
    asked_false : (u : Term) → inverted ≡ u → MayBeAsked divided K (body_at divided 0) (asks ValueFalse u) → ⊥
    asked_false u e m =
        let f = subst (λ z. MayBeAsked divided K (body_at divided 0) (asks ValueFalse z)) (sym e) m in
        False≢True (sym (f.0 fixed (divided_values One One Zero Zero) agrees))

    go : ((u : Term) × In u (inverted ∷ signal plain 2 ∷ []) × ((head u).node ≡ Some 1) × MayBeAsked divided K (body_at divided 0) (asks ValueFalse u)) → ⊥
    go (u, inl e, node, m) = asked_false u e m
    go (u, inr (inl e), node, m) = none_some 1 (subst (λ z. (head z).node ≡ Some 1) (sym e) node)
    go (u, inr (inr none), node, m) = none
