-- Where the reset stays away the clock alone wakes the block, and the block knows that it is away.
use Rattle.std.proofs.Common.{◌≡◌, ◌≢◌, refl, sym, ap, subst, ◌∙◌, inl, inr, ℕ, zero, suc, ◌<◌, true, false, List, [], ◌∷◌, arith, suc-ne-zero, lit<, lit≤, Some}
use Rattle.std.specs.List.{list_any}
use Rattle.std.proofs.lemmas.Bool.{false≢true}
use Rattle.event_machine.specs.Cell.{Cell, Values}
use Rattle.event_machine.specs.Machine.{Edge, Negedge, Posedge}
use Rattle.event_machine.specs.Habit.{Free, Habit}
use Rattle.event_machine.specs.MayMove.{MayMove}
use Rattle.event_machine.specs.Early.{IsEarly}
use Rattle.four_state.specs.Operators.{unary_value}
use Rattle.four_state.specs.Vector.{extend, truth}
use Rattle.four_state.specs.declared.bit.Bit.{Bit}
use Rattle.four_state.specs.declared.bit.Bit.TheVariants.{One, Zero}
use Rattle.four_state.specs.declared.operator.Unary.TheVariants.{LogicalNot}
use Rattle.design_model.specs.Tree.{Term, signal, unary}
use Rattle.design_model.specs.Design.{In, a_signal, body_at, cell, signal_bits}
use Rattle.design_model.specs.Value.{value}
use Rattle.design_model.specs.Execution.{cases}
use Rattle.design_model.specs.Paths.{Path, paths, reaches}
use Rattle.design_model.specs.Reads.{Agrees, PartialMap}
use Rattle.design_model.specs.Machine.{is_input_cell, machine}
use Rattle.design_model.specs.MayMove.{IsCleanAt, IsSingleAt, told_at}
use Rattle.design_model.specs.Early.{IsEarlyAt}
use Rattle.design_model.specs.Clear.{clear, of_dump}
use Rattle.design_model.specs.Open.{FollowsAll, HasAction, IsFixed, IsOpen, IsOpenPath, IsSurelyOpen, KnownOnEntry, is_true}
use Rattle.design_model.specs.ExampleParts.{counted, plain}
use Rattle.design_model.proofs.Bound.{clear_bound}
use Rattle.worked_examples.specs.Design.Reset.{IsSteadyResetExample, line_data, line_reset, reset, reset_values, steady_dump}
use Rattle.worked_examples.proofs.Design.Entry.{on_entry}
use Rattle.worked_examples.proofs.Design.Parts.{Zero≢One, path_at, thing_of}
use Rattle.worked_examples.proofs.Design.PathSteps.{is_reaching, node_inside, reaching_found}
use Rattle.worked_examples.proofs.Design.ResetDoubt.{neg_cell, no_words, pos_cell}

-- rst_n does not fall, so clk alone can wake the block
by_edge : (e : Edge) (c : Cell) → (machine reset).edge 0 e c ≡ true → (IsSingleAt reset steady_dump 5 c → (machine reset).is_edge e ((told_at steady_dump 5).old c) ((told_at steady_dump 5).new c) ≡ true) → c ≡ cell 0 0
by_edge Posedge c h goes = pos_cell c h
by_edge Negedge c h goes = absurd (falls_not c (neg_cell c h) goes)
  where
    falls_not : (c : Cell) → c ≡ cell 1 0 → (IsSingleAt reset steady_dump 5 c → (machine reset).is_edge Negedge ((told_at steady_dump 5).old c) ((told_at steady_dump 5).new c) ≡ true) → ⊥
    falls_not c is goes = false≢true (subst (λ b. IsSingleAt reset steady_dump 5 b → (machine reset).is_edge Negedge ((told_at steady_dump 5).old b) ((told_at steady_dump 5).new b) ≡ true) is goes (refl, refl))

is_clean : IsCleanAt reset steady_dump 5 0 (cell 0 0)
is_clean =
    record {
      clocked = λ x. refl;
      can_wake = ((Posedge, refl, λ s. refl), MayMove.of_input (cell 0 0) (refl, λ s. Zero≢One));
      alone = λ c wakes. by_edge wakes.0.0 c wakes.0.1 wakes.0.2;
      is_single = (refl, refl);
    }

only : (e : Cell) → IsCleanAt reset steady_dump 5 0 e → e ≡ cell 0 0
only e clean = by_edge clean.can_wake.0.0 e clean.can_wake.0.1 clean.can_wake.0.2

no_blocking : (p : ℕ) (c : Cell) → (machine reset).blocking p c ≡ true → ⊥
no_blocking zero c h = false≢true h
no_blocking (suc p) c h = false≢true h

-- of the inputs the clock alone moves
moving_clk : (x k : ℕ) → is_input_cell reset (cell x k) ≡ true → (steady_dump.bound x ≡ true → (told_at steady_dump 5).old (cell x k) ≢ (told_at steady_dump 5).new (cell x k)) → x ≢ 0 → ⊥
moving_clk zero k h moves ne = ne refl
moving_clk (suc zero) k h moves ne = moves refl refl
moving_clk (suc (suc zero)) k h moves ne = moves refl refl
moving_clk (suc (suc (suc zero))) k h moves ne = false≢true h
moving_clk (suc (suc (suc (suc x)))) k h moves ne = false≢true h

none_is_early : (h : Habit) (x : ℕ) → IsEarlyAt reset h steady_dump 5 0 (cell 0 0) x → ⊥
none_is_early h x (IsEarly.of_input c moving free other) = moving_clk c.thing c.place moving.0 moving.1 other
none_is_early h x (IsEarly.of_trigger p c may_wake not_b blocks away) = no_blocking p c blocks
none_is_early h x (IsEarly.of_blocking y p c is may_wake not_b blocks away) = no_blocking p c blocks
none_is_early h x (IsEarly.of_nonblocking y p c is may_wake queues away) = none_is_early h y is

agrees : Agrees reset (KnownOnEntry reset Free steady_dump 5 0) (reset_values One One One Zero)
agrees = on_entry reset Free steady_dump 5 0 (cell 0 0) only (reset_values One One One Zero) no_words refl others
  where
    others : (s : ℕ) → s < 4 → s ≢ 0 → (IsEarlyAt reset Free steady_dump 5 0 (cell 0 0) s → ⊥) → (bits : List Bit) → clear reset Free steady_dump 4 (a_signal s) bits → signal_bits reset (reset_values One One One Zero) s ≡ bits
    others zero below ne not_early bits k = absurd (ne refl)
    others (suc zero) below ne not_early bits k = sym (clear_bound reset Free steady_dump 4 1 bits k refl)
    others (suc (suc zero)) below ne not_early bits k = sym (clear_bound reset Free steady_dump 4 2 bits k refl)
    others (suc (suc (suc zero))) below ne not_early bits k = sym (clear_bound reset Free steady_dump 4 3 bits k refl)
    others (suc (suc (suc (suc s)))) below ne not_early bits k = absurd (omega (arith, below))

abbrev K : PartialMap
K = KnownOnEntry reset Free steady_dump 5 0

-- !rst_n
abbrev no_reset : Term
no_reset = unary (counted 1) LogicalNot (signal plain 1)

knows_rst_n : KnownOnEntry reset Free steady_dump 5 0 (a_signal 1) (One ∷ [])
knows_rst_n = (cell 0 0, is_clean, inr ((λ e. suc-ne-zero 0 (ap thing_of e)), none_is_early Free 1, (1, of_dump 1 (One ∷ []) (lit≤ tt, lit< tt) refl (lit< tt) refl)))

fixed : IsFixed reset (KnownOnEntry reset Free steady_dump 5 0) (body_at reset 0) no_reset
fixed = record { within = λ v a. ((One ∷ [], knows_rst_n), node_inside K (Some 1) (cases reset v no_reset)); unwritten = λ x m. refl }

test_is : (v : Values Bit) → Agrees reset (KnownOnEntry reset Free steady_dump 5 0) v → is_true (truth (value reset v no_reset)) ≡ false
test_is v av = ap (λ bs. is_true (truth (extend 1 false (unary_value LogicalNot (extend 1 false bs))))) (av (a_signal 1) (One ∷ []) knows_rst_n)

-- the path of the reset is closed
closed : FollowsAll reset K (body_at reset 0) (path_at 0 (paths [] (body_at reset 0))) → ⊥
closed f = false≢true (sym (test_is (reset_values One One One Zero) agrees) ∙ f.1.0 fixed (reset_values One One One Zero) agrees)

is_not_open : IsOpen reset (KnownOnEntry reset Free steady_dump 5 0) (body_at reset 0) line_reset → ⊥
is_not_open h = go h.1.is_path
  where
    go : In h.0 (paths [] (body_at reset 0)) → ⊥
    go (inl e) = closed (subst (FollowsAll reset K (body_at reset 0)) (sym e) h.1.follows)
    go (inr (inl e)) = false≢true (subst (λ p. list_any (λ y. is_reaching 2 y.action) p ≡ true) (sym e) (reaching_found 2 h.2.1.0 h.0 h.2.1.1 h.2.1.3))
    go (inr (inr none)) = none

is_surely_open : IsSurelyOpen reset (KnownOnEntry reset Free steady_dump 5 0) (body_at reset 0) line_data
is_surely_open = (1 ∷ [], λ path o. go path o o.is_path)
  where
    go : (path : Path) → IsOpenPath reset K (body_at reset 0) path → In path (paths [] (body_at reset 0)) → HasAction (λ x. x ≡ reaches 3) (1 ∷ []) path
    go path o (inl e) = absurd (closed (subst (FollowsAll reset K (body_at reset 0)) (sym e) o.follows))
    go path o (inr (inl e)) = subst (HasAction (λ x. x ≡ reaches 3) (1 ∷ [])) e (_, inr (inr (inl refl)), refl, refl)
    go path o (inr (inr none)) = absurd none

pub steady_reset_example : IsSteadyResetExample
steady_reset_example =
    record {
      clean = is_clean;
      none_early = none_is_early;
      not_open = is_not_open;
      surely_open = is_surely_open;
      reached = ((lit< tt, lit< tt), refl, inl (cell 0 0, is_clean, inr is_surely_open));
    }
