-- Clock and reset at one time: where both can wake the block it is not clean; where reset ends it is.
use Rattle.std.proofs.Common.{◌≡◌, ◌≢◌, ⊎_elim, refl, sym, ap, subst, ◌∙◌, inl, inr, ℕ, zero, suc, ◌<◌, ◌==◌, true, false, List, arith, suc-ne-zero, lit<}
use Rattle.std.specs.Prelude.{nat_le, nat_lt}
use Rattle.std.proofs.lemmas.Bool.{and_parts, eqb-true, false≢true, leb-true, ltb-true, or_cases}
use Rattle.event_machine.specs.Cell.{Cell}
use Rattle.event_machine.specs.Machine.{Edge, Negedge, Posedge}
use Rattle.event_machine.specs.Habit.{Free}
use Rattle.event_machine.specs.MayMove.{MayMove}
use Rattle.event_machine.specs.Early.{IsEarly}
use Rattle.four_state.specs.declared.bit.Bit.{Bit}
use Rattle.four_state.specs.declared.bit.Bit.TheVariants.{One, Zero}
use Rattle.design_model.specs.Design.{IsThing, Thing, a_signal, a_word, body_at, cell, signal_bits}
use Rattle.design_model.specs.Execution.{at_line}
use Rattle.design_model.specs.Reads.{Agrees, HasValue}
use Rattle.design_model.specs.Machine.{machine}
use Rattle.design_model.specs.declared.point.Point.{Point}
use Rattle.design_model.specs.MayMove.{CanWakeAt, IsCleanAt, IsSingleAt, told_at}
use Rattle.design_model.specs.Early.{IsEarlyAt}
use Rattle.design_model.specs.Clear.{EntryFrom, clear, clear_before}
use Rattle.design_model.specs.Open.{IsNotClean, IsOpen, IsOpenFor, IsReached, KnownOnEntry}
use Rattle.design_model.specs.Doubt.{read_early, not_clean, of_block}
use Rattle.design_model.specs.ExampleParts.{at}
use Rattle.design_model.proofs.Bound.{clear_bound}
use Rattle.worked_examples.specs.Design.Reset.{IsBothExample, IsReleaseExample, both_dump, line_if, line_reset, release_dump, reset, reset_values}
use Rattle.worked_examples.proofs.Design.Entry.{on_entry}
use Rattle.worked_examples.proofs.Design.TestLine.{test_line_sure}

One≢Zero : One ≢ Zero
One≢Zero = grind arith

Zero≢One : Zero ≢ One
Zero≢One = grind arith

-- the event signals of the block, by their edges
pub pos_cell : (c : Cell) → (machine reset).edge 0 Posedge c ≡ true → c ≡ cell 0 0
pos_cell c h =
    let p = and_parts (c.place == 0) _ h in
    λ i. record { thing = ⊎_elim (λ e. sym (eqb-true 0 c.thing e)) (λ e. absurd (false≢true e)) (or_cases (0 == c.thing) false p.1) i; place = eqb-true c.place 0 p.0 i }

pub neg_cell : (c : Cell) → (machine reset).edge 0 Negedge c ≡ true → c ≡ cell 1 0
neg_cell c h =
    let p = and_parts (c.place == 0) _ h in
    λ i. record { thing = ⊎_elim (λ e. sym (eqb-true 1 c.thing e)) (λ e. absurd (false≢true e)) (or_cases (1 == c.thing) false p.1) i; place = eqb-true c.place 0 p.0 i }

one_zero : cell 1 0 ≡ cell 0 0 → ⊥
one_zero e = suc-ne-zero 0 (ap (λ y. y.thing) e)

-- both
clk_wakes : CanWakeAt reset both_dump 5 (cell 0 0) 0
clk_wakes = ((Posedge, refl, λ s. refl), MayMove.of_input (cell 0 0) (refl, λ s. Zero≢One))

rst_wakes : CanWakeAt reset both_dump 5 (cell 1 0) 0
rst_wakes = ((Negedge, refl, λ s. refl), MayMove.of_input (cell 1 0) (refl, λ s. One≢Zero))

is_not_clean : IsNotClean reset both_dump 5 0
is_not_clean c clean = one_zero (clean.alone (cell 1 0) rst_wakes ∙ sym (clean.alone (cell 0 0) clk_wakes))

each_is_open : (x : Point) → IsOpenFor reset Free both_dump 5 0 x
each_is_open x = inl ((cell 0 0, clk_wakes), inl is_not_clean)

none_is_reached : (x : Point) → IsReached reset Free both_dump 5 0 x → ⊥
none_is_reached x r = ⊎_elim (λ k. is_not_clean k.0 k.1) (λ k. k.0 tt) r.2

pub both_example : IsBothExample
both_example =
    record {
      by_clk = clk_wakes;
      by_rst_n = rst_wakes;
      not_clean = is_not_clean;
      each_open = each_is_open;
      doubt = of_block 0 (lit< tt, lit< tt) refl (each_is_open line_if) (not_clean (record { event = cell 0 0; of_signal = refl; can_wake = clk_wakes; not_clean = is_not_clean }));
      surely_open = test_line_sure reset (KnownOnEntry reset Free both_dump 5 0) (at 5) 1 _ _ _;
      none_reached = none_is_reached;
    }

-- the end of reset
by_edge : (e : Edge) (c : Cell) → (machine reset).edge 0 e c ≡ true → CanWakeAt reset release_dump 5 c 0 → c ≡ cell 0 0
by_edge e c h wakes = go wakes.0.0 wakes.0.1 wakes.0.2
  where
    falls_not : (c : Cell) → c ≡ cell 1 0 → ((IsSingleAt reset release_dump 5 c) → (machine reset).is_edge Negedge ((told_at release_dump 5).old c) ((told_at release_dump 5).new c) ≡ true) → ⊥
    falls_not c is goes = false≢true (subst (λ b. ((IsSingleAt reset release_dump 5 b) → (machine reset).is_edge Negedge ((told_at release_dump 5).old b) ((told_at release_dump 5).new b) ≡ true)) is goes (refl, refl))

    go : (e : Edge) → (machine reset).edge 0 e c ≡ true → ((IsSingleAt reset release_dump 5 c) → (machine reset).is_edge e ((told_at release_dump 5).old c) ((told_at release_dump 5).new c) ≡ true) → c ≡ cell 0 0
    go Posedge h goes = pos_cell c h
    go Negedge h goes = absurd (falls_not c (neg_cell c h) goes)

is_clean : IsCleanAt reset release_dump 5 0 (cell 0 0)
is_clean =
    record {
      clocked = λ x. refl;
      can_wake = ((Posedge, refl, λ s. refl), MayMove.of_input (cell 0 0) (refl, λ s. Zero≢One));
      alone = λ c wakes. by_edge wakes.0.0 c wakes.0.1 wakes;
      is_single = (refl, refl);
    }

only : (e : Cell) → IsCleanAt reset release_dump 5 0 e → e ≡ cell 0 0
only e clean = by_edge clean.can_wake.0.0 e clean.can_wake.0.1 clean.can_wake

rst_early : IsEarlyAt reset Free release_dump 5 0 (cell 0 0) 1
rst_early = IsEarly.of_input (cell 1 0) (refl, λ s. Zero≢One) (λ i. refl) (λ e. absurd (suc-ne-zero 0 e))

pub no_words : (m i : ℕ) → IsThing reset (a_word m i) → ⊥
no_words m i h = let p = and_parts (nat_le 4 m) (nat_lt m 4) h.0 in omega (arith, leb-true 4 m p.0, ltb-true m 4 p.1)

-- on entry rst_n can be old or new
agrees : (b : Bit) → Agrees reset (KnownOnEntry reset Free release_dump 5 0) (reset_values One b One Zero)
agrees b = on_entry reset Free release_dump 5 0 (cell 0 0) only (reset_values One b One Zero) no_words refl others
  where
    others : (s : ℕ) → s < 4 → s ≢ 0 → (IsEarlyAt reset Free release_dump 5 0 (cell 0 0) s → ⊥) → (bits : List Bit) → clear reset Free release_dump 4 (a_signal s) bits → signal_bits reset (reset_values One b One Zero) s ≡ bits
    others zero below ne not_early bits k = absurd (ne refl)
    others (suc zero) below ne not_early bits k = absurd (not_early rst_early)
    others (suc (suc zero)) below ne not_early bits k = sym (clear_bound reset Free release_dump 4 2 bits k refl)
    others (suc (suc (suc zero))) below ne not_early bits k = sym (clear_bound reset Free release_dump 4 3 bits k refl)
    others (suc (suc (suc (suc s)))) below ne not_early bits k = absurd (omega (arith, below))

-- so it is not known
unknown : HasValue (KnownOnEntry reset Free release_dump 5 0) (a_signal 1) → ⊥
unknown k = go k.1.2
  where
    go : EntryFrom reset Free release_dump 5 (clear_before reset Free release_dump 5) 0 k.1.0 (a_signal 1) k.0 → ⊥
    go (inl new) = suc-ne-zero 0 (ap thing_of new.0 ∙ ap (λ y. y.thing) (only k.1.0 k.1.1))
      where
        thing_of : Thing → ℕ
        thing_of (a_signal s) = s
        thing_of (a_word m i) = m
    go (inr old) = old.1 (subst (λ c. IsEarlyAt reset Free release_dump 5 0 c 1) (sym (only k.1.0 k.1.1)) rst_early)

open_reset : IsOpen reset (KnownOnEntry reset Free release_dump 5 0) (body_at reset 0) line_reset
open_reset = (_, record { is_path = inl refl; follows = (tt, ((λ fixed. absurd (unknown (fixed.within (reset_values One Zero One Zero) (agrees Zero)).0)), (tt, (tt, tt)))) }, (_, (_, inr (inr (inl refl)), refl, refl)))

pub release_example : IsReleaseExample
release_example =
    record {
      clean = is_clean;
      early = rst_early;
      surely_open = test_line_sure reset (KnownOnEntry reset Free release_dump 5 0) (at 5) 1 _ _ _;
      reached = ((lit< tt, lit< tt), refl, inl (cell 0 0, is_clean, inl (at_line 1, refl, (reset_values One Zero One Zero, agrees Zero, inl refl))));
      doubt = of_block 0 (lit< tt, lit< tt) refl (inl ((cell 0 0, is_clean.can_wake), inr open_reset)) (read_early (record { thing = a_signal 1; trigger = cell 0 0; of_owner = refl; is_clean = is_clean; is_read = inl (reset_values One Zero One Zero, agrees Zero, inr (tt, inl refl)); is_early = rst_early }));
    }
