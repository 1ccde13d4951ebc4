-- By the first round both event signals can wake the block of q; in the next clk alone.
use Rattle.std.proofs.Common.{◌≡◌, ◌≢◌, ⊎_elim, refl, sym, ap, subst, ◌∙◌, inl, inr, ℕ, zero, suc, ◌<◌, ◌==◌, true, false, List, [], ◌∷◌, arith, suc-ne-zero, lit<, lit≤, Some}
use Rattle.std.specs.Prelude.{nat_le, nat_lt}
use Rattle.std.specs.List.{list_any}
use Rattle.std.proofs.lemmas.Bool.{and_parts, eqb-true, false≢true, leb-true, ltb-true, or_cases}
use Rattle.event_machine.specs.Cell.{Cell, Values}
use Rattle.event_machine.specs.Machine.{Edge, Negedge, Posedge}
use Rattle.event_machine.specs.Habit.{Free, Habit}
use Rattle.event_machine.specs.MayMove.{MayMove}
use Rattle.event_machine.specs.Early.{IsEarly}
use Rattle.four_state.specs.Operators.{unary_value}
use Rattle.four_state.specs.Vector.{extend, truth}
use Rattle.four_state.specs.declared.bit.Bit.{Bit}
use Rattle.four_state.specs.declared.bit.Bit.TheVariants.{One, Zero}
use Rattle.four_state.specs.declared.operator.Unary.TheVariants.{LogicalNot}
use Rattle.design_model.specs.Design.{In, IsThing, a_signal, a_word, body_at, cell, signal_bits}
use Rattle.design_model.specs.Value.{value}
use Rattle.design_model.specs.Execution.{cases}
use Rattle.design_model.specs.Paths.{Path, paths, reaches}
use Rattle.design_model.specs.Reads.{Agrees, PartialMap}
use Rattle.design_model.specs.Machine.{is_input_cell, machine}
use Rattle.design_model.specs.MayMove.{CanWakeAt, IsCleanAt, IsSingleAt, MayMoveAt, told_at}
use Rattle.design_model.specs.Early.{IsEarlyAt}
use Rattle.design_model.specs.Clear.{clear, of_dump}
use Rattle.design_model.specs.Open.{FollowsAll, HasAction, IsFixed, IsNotClean, IsOpen, IsOpenPath, IsSurelyOpen, KnownOnEntry, is_true}
use Rattle.design_model.specs.Doubt.{not_clean, of_block}
use Rattle.design_model.proofs.Bound.{clear_bound}
use Rattle.worked_examples.specs.Design.Synced.{IsSyncedExample, line_data, line_reset, no_reset, synced, synced_dump, synced_values}
use Rattle.worked_examples.proofs.Design.Entry.{on_entry}
use Rattle.worked_examples.proofs.Design.OneSet.{one_rise}
use Rattle.worked_examples.proofs.Design.Parts.{Zero≢One, path_at, thing_of}
use Rattle.worked_examples.proofs.Design.PathSteps.{is_reaching, node_inside, reaching_found}

-- the event signals of the block of q, by their edges
pos_cell : (c : Cell) → (machine synced).edge 1 Posedge c ≡ true → c ≡ cell 0 0
pos_cell c h =
    let p = and_parts (c.place == 0) _ h in
    λ i. record { thing = ⊎_elim (λ e. sym (eqb-true 0 c.thing e)) (λ e. absurd (false≢true e)) (or_cases (0 == c.thing) false p.1) i; place = eqb-true c.place 0 p.0 i }

neg_cell : (c : Cell) → (machine synced).edge 1 Negedge c ≡ true → c ≡ cell 3 0
neg_cell c h =
    let p = and_parts (c.place == 0) _ h in
    λ i. record { thing = ⊎_elim (λ e. sym (eqb-true 3 c.thing e)) (λ e. absurd (false≢true e)) (or_cases (3 == c.thing) false p.1) i; place = eqb-true c.place 0 p.0 i }

clk_moves : (n : ℕ) → MayMoveAt synced (synced_dump n) 5 0
clk_moves n = MayMove.of_input (cell 0 0) (refl, λ s. Zero≢One)

n_moves : (n : ℕ) → MayMoveAt synced (synced_dump n) 5 3
n_moves n = MayMove.of_target 0 0 (cell 3 0) (clk_moves n) (inr (cell 0 0, refl, (Posedge, refl, λ s. refl))) (inr refl)

clk_wakes : (n p : ℕ) → (machine synced).edge p Posedge (cell 0 0) ≡ true → CanWakeAt synced (synced_dump n) 5 (cell 0 0) p
clk_wakes n p lists = ((Posedge, lists, λ s. refl), clk_moves n)

-- n is no input, so in the first round it is not single
n_wakes : CanWakeAt synced (synced_dump 0) 5 (cell 3 0) 1
n_wakes = ((Negedge, refl, λ s. absurd (false≢true s.0)), n_moves 0)

is_not_clean : IsNotClean synced (synced_dump 0) 5 1
is_not_clean c clean = suc-ne-zero 2 (ap (λ y. y.thing) (clean.alone (cell 3 0) n_wakes ∙ sym (clean.alone (cell 0 0) (clk_wakes 0 1 refl))))

-- the block of n is clean
writer_clean : IsCleanAt synced (synced_dump 0) 5 0 (cell 0 0)
writer_clean =
    record {
      clocked = λ x. refl;
      can_wake = clk_wakes 0 0 refl;
      alone = λ c wakes. one_rise 0 wakes.0.0 c wakes.0.1;
      is_single = (refl, refl);
    }

single_n : IsSingleAt synced (synced_dump 1) 5 (cell 3 0)
single_n = inr (record { told = refl; is_event = refl; writer = 0; writes = inr refl; clocked = λ x. refl; once = refl; cannot_wake_or_clean = inr (cell 0 0, writer_clean) })

by_edge : (e : Edge) (c : Cell) → (machine synced).edge 1 e c ≡ true → (IsSingleAt synced (synced_dump 1) 5 c → (machine synced).is_edge e ((told_at (synced_dump 1) 5).old c) ((told_at (synced_dump 1) 5).new c) ≡ true) → c ≡ cell 0 0
by_edge Posedge c h goes = pos_cell c h
by_edge Negedge c h goes = absurd (falls_not c (neg_cell c h) goes)
  where
    falls_not : (c : Cell) → c ≡ cell 3 0 → (IsSingleAt synced (synced_dump 1) 5 c → (machine synced).is_edge Negedge ((told_at (synced_dump 1) 5).old c) ((told_at (synced_dump 1) 5).new c) ≡ true) → ⊥
    falls_not c is goes = false≢true (subst (λ b. IsSingleAt synced (synced_dump 1) 5 b → (machine synced).is_edge Negedge ((told_at (synced_dump 1) 5).old b) ((told_at (synced_dump 1) 5).new b) ≡ true) is goes single_n)

is_clean : IsCleanAt synced (synced_dump 1) 5 1 (cell 0 0)
is_clean =
    record {
      clocked = λ x. refl;
      can_wake = clk_wakes 1 1 refl;
      alone = λ c wakes. by_edge wakes.0.0 c wakes.0.1 wakes.0.2;
      is_single = inl (refl, refl);
    }

only : (e : Cell) → IsCleanAt synced (synced_dump 1) 5 1 e → e ≡ cell 0 0
only e clean = by_edge clean.can_wake.0.0 e clean.can_wake.0.1 clean.can_wake.0.2

no_blocking : (p : ℕ) (c : Cell) → (machine synced).blocking p c ≡ true → ⊥
no_blocking zero c h = false≢true h
no_blocking (suc zero) c h = false≢true h
no_blocking (suc (suc p)) c h = false≢true h

moving_clk : (x k : ℕ) → is_input_cell synced (cell x k) ≡ true → ((synced_dump 1).bound x ≡ true → (told_at (synced_dump 1) 5).old (cell x k) ≢ (told_at (synced_dump 1) 5).new (cell x k)) → x ≢ 0 → ⊥
moving_clk zero k h moves ne = ne refl
moving_clk (suc zero) k h moves ne = moves refl refl
moving_clk (suc (suc zero)) k h moves ne = moves refl refl
moving_clk (suc (suc (suc zero))) k h moves ne = false≢true h
moving_clk (suc (suc (suc (suc zero)))) k h moves ne = false≢true h
moving_clk (suc (suc (suc (suc (suc x))))) k h moves ne = false≢true h

none_is_early : (h : Habit) (x : ℕ) → IsEarlyAt synced h (synced_dump 1) 5 1 (cell 0 0) x → ⊥
none_is_early h x (IsEarly.of_input c moving free other) = moving_clk c.thing c.place moving.0 moving.1 other
none_is_early h x (IsEarly.of_trigger p c may_wake not_b blocks away) = no_blocking p c blocks
none_is_early h x (IsEarly.of_blocking y p c is may_wake not_b blocks away) = no_blocking p c blocks
none_is_early h x (IsEarly.of_nonblocking y p c is may_wake queues away) = none_is_early h y is

no_words : (m i : ℕ) → IsThing synced (a_word m i) → ⊥
no_words m i h = let p = and_parts (nat_le 5 m) (nat_lt m 5) h.0 in omega (arith, leb-true 5 m p.0, ltb-true m 5 p.1)

agrees : Agrees synced (KnownOnEntry synced Free (synced_dump 1) 5 1) (synced_values One Zero)
agrees = on_entry synced Free (synced_dump 1) 5 1 (cell 0 0) only (synced_values One Zero) no_words refl others
  where
    others : (s : ℕ) → s < 5 → s ≢ 0 → (IsEarlyAt synced Free (synced_dump 1) 5 1 (cell 0 0) s → ⊥) → (bits : List Bit) → clear synced Free (synced_dump 1) 4 (a_signal s) bits → signal_bits synced (synced_values One Zero) s ≡ bits
    others zero below ne not_early bits k = absurd (ne refl)
    others (suc zero) below ne not_early bits k = sym (clear_bound synced Free (synced_dump 1) 4 1 bits k refl)
    others (suc (suc zero)) below ne not_early bits k = sym (clear_bound synced Free (synced_dump 1) 4 2 bits k refl)
    others (suc (suc (suc zero))) below ne not_early bits k = sym (clear_bound synced Free (synced_dump 1) 4 3 bits k refl)
    others (suc (suc (suc (suc zero)))) below ne not_early bits k = sym (clear_bound synced Free (synced_dump 1) 4 4 bits k refl)
    others (suc (suc (suc (suc (suc s))))) below ne not_early bits k = absurd (omega (arith, below))

abbrev K : PartialMap
K = KnownOnEntry synced Free (synced_dump 1) 5 1

knows_n : KnownOnEntry synced Free (synced_dump 1) 5 1 (a_signal 3) (One ∷ [])
knows_n = (cell 0 0, is_clean, inr ((λ e. suc-ne-zero 2 (ap thing_of e)), none_is_early Free 3, (1, of_dump 3 (One ∷ []) (lit≤ tt, lit< tt) refl (lit< tt) refl)))

fixed : IsFixed synced (KnownOnEntry synced Free (synced_dump 1) 5 1) (body_at synced 1) no_reset
fixed = record { within = λ v a. ((One ∷ [], knows_n), node_inside K (Some 1) (cases synced v no_reset)); unwritten = λ x m. refl }

test_is : (v : Values Bit) → Agrees synced (KnownOnEntry synced Free (synced_dump 1) 5 1) v → is_true (truth (value synced v no_reset)) ≡ false
test_is v av = ap (λ bs. is_true (truth (extend 1 false (unary_value LogicalNot (extend 1 false bs))))) (av (a_signal 3) (One ∷ []) knows_n)

-- the path of the reset is closed
closed : FollowsAll synced K (body_at synced 1) (path_at 0 (paths [] (body_at synced 1))) → ⊥
closed f = false≢true (sym (test_is (synced_values One Zero) agrees) ∙ f.1.0 fixed (synced_values One Zero) agrees)

is_not_open : IsOpen synced (KnownOnEntry synced Free (synced_dump 1) 5 1) (body_at synced 1) line_reset → ⊥
is_not_open h = go h.1.is_path
  where
    go : In h.0 (paths [] (body_at synced 1)) → ⊥
    go (inl e) = closed (subst (FollowsAll synced K (body_at synced 1)) (sym e) h.1.follows)
    go (inr (inl e)) = false≢true (subst (λ p. list_any (λ y. is_reaching 3 y.action) p ≡ true) (sym e) (reaching_found 3 h.2.1.0 h.0 h.2.1.1 h.2.1.3))
    go (inr (inr none)) = none

is_surely_open : IsSurelyOpen synced (KnownOnEntry synced Free (synced_dump 1) 5 1) (body_at synced 1) line_data
is_surely_open = (1 ∷ [], λ path o. go path o o.is_path)
  where
    go : (path : Path) → IsOpenPath synced K (body_at synced 1) path → In path (paths [] (body_at synced 1)) → HasAction (λ x. x ≡ reaches 4) (1 ∷ []) path
    go path o (inl e) = absurd (closed (subst (FollowsAll synced K (body_at synced 1)) (sym e) o.follows))
    go path o (inr (inl e)) = subst (HasAction (λ x. x ≡ reaches 4) (1 ∷ [])) e (_, inr (inr (inl refl)), refl, refl)
    go path o (inr (inr none)) = absurd none

pub synced_example : IsSyncedExample
synced_example =
    record {
      by_clk = clk_wakes 0 1 refl;
      by_n = n_wakes;
      not_clean = is_not_clean;
      doubt = of_block 1 (lit< tt, lit< tt) refl (inl ((cell 0 0, clk_wakes 0 1 refl), inl is_not_clean)) (not_clean (record { event = cell 0 0; of_signal = refl; can_wake = clk_wakes 0 1 refl; not_clean = is_not_clean }));
      single = single_n;
      clean = is_clean;
      none_early = none_is_early;
      not_open = is_not_open;
      surely_open = is_surely_open;
      reached = ((lit< tt, lit< tt), refl, inl (cell 0 0, is_clean, inr is_surely_open));
    }
