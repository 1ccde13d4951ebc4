-- What the block of b knows on entry, and what it writes.
use Rattle.std.proofs.Common.{◌≡◌, ◌≢◌, ⊎_elim, refl, sym, ap, inl, inr, ℕ, zero, suc, ◌<◌, ◌==◌, true, false, [], ◌∷◌, List, arith, suc-ne-zero, lit<, lit≤}
use Rattle.std.specs.Prelude.{nat_le, nat_lt}
use Rattle.std.proofs.lemmas.Bool.{and_parts, eqb-true, false≢true, leb-true, ltb-true, or_cases}
use Rattle.event_machine.specs.Cell.{Cell, Values, put}
use Rattle.event_machine.specs.Machine.{Edge, Negedge, Posedge}
use Rattle.event_machine.specs.Habit.{Free, Habit}
use Rattle.event_machine.specs.MayMove.{MayMove}
use Rattle.event_machine.specs.Early.{IsEarly}
use Rattle.four_state.specs.declared.bit.Bit.{Bit}
use Rattle.four_state.specs.declared.bit.Bit.TheVariants.{One, Zero}
use Rattle.design_model.specs.Tree.{signal}
use Rattle.design_model.specs.Design.{IsThing, Thing, a_signal, a_word, body_at, cell, signal_bits}
use Rattle.design_model.specs.Execution.{at_line, execution}
use Rattle.design_model.specs.Reads.{Agrees}
use Rattle.design_model.specs.Machine.{is_input_cell, machine}
use Rattle.design_model.specs.Shows.{BoundDump}
use Rattle.design_model.specs.MayMove.{IsCleanAt, MayMoveAt}
use Rattle.design_model.specs.Early.{IsEarlyAt}
use Rattle.design_model.specs.Clear.{EntryFrom, IsForced, IsWrittenValue, LeavesValue, all_writes, by_clocked, clear, of_dump}
use Rattle.design_model.specs.Open.{KnownOnEntry}
use Rattle.design_model.specs.ExampleParts.{at, plain}
use Rattle.design_model.proofs.Bound.{clear_bound}
use Rattle.worked_examples.specs.Design.Swap.{IsSwapExample, swap, swap_dump, swap_values}
use Rattle.worked_examples.proofs.Design.Entry.{on_entry}
use Rattle.worked_examples.proofs.Design.OneSet.{line_sure}
use Rattle.worked_examples.proofs.Design.OtherLine.{line_away}
use Rattle.worked_examples.proofs.Design.SwapContradicted.{is_contradicted}

Zero≢One : Zero ≢ One
Zero≢One = grind arith

abbrev thing_of : Thing → ℕ
thing_of (a_signal s) = s
thing_of (a_word m i) = m

clk_cell : (e : Edge) (c : Cell) → (machine swap).edge 1 e c ≡ true → c ≡ cell 0 0
clk_cell Posedge c h =
    let p = and_parts (c.place == 0) _ h in
    λ i. record { thing = ⊎_elim (λ e. sym (eqb-true 0 c.thing e)) (λ e. absurd (false≢true e)) (or_cases (0 == c.thing) false p.1) i; place = eqb-true c.place 0 p.0 i }
clk_cell Negedge c h = absurd (false≢true (and_parts (c.place == 0) false h).1)

no_words : (m i : ℕ) → IsThing swap (a_word m i) → ⊥
no_words m i h = let p = and_parts (nat_le 3 m) (nat_lt m 3) h.0 in omega (arith, leb-true 3 m p.0, ltb-true m 3 p.1)

no_blocking : (p : ℕ) (c : Cell) → (machine swap).blocking p c ≡ true → ⊥
no_blocking zero c h = false≢true h
no_blocking (suc zero) c h = false≢true h
no_blocking (suc (suc p)) c h = false≢true h

input_clk : (x k : ℕ) → is_input_cell swap (cell x k) ≡ true → x ≡ 0
input_clk zero k h = refl
input_clk (suc zero) k h = absurd (false≢true h)
input_clk (suc (suc zero)) k h = absurd (false≢true h)
input_clk (suc (suc (suc x))) k h = absurd (false≢true h)

module _ (b : Bit) where
  abbrev dump : BoundDump
  dump = swap_dump b

  is_clean : IsCleanAt swap (swap_dump b) 5 1 (cell 0 0)
  is_clean =
      record {
        clocked = λ x. refl;
        can_wake = ((Posedge, refl, λ s. refl), MayMove.of_input (cell 0 0) (refl, λ s. Zero≢One));
        alone = λ c wakes. clk_cell wakes.0.0 c wakes.0.1;
        is_single = (refl, refl);
      }

  only : (e : Cell) → IsCleanAt swap (swap_dump b) 5 1 e → e ≡ cell 0 0
  only e clean = clk_cell clean.can_wake.0.0 e clean.can_wake.0.1

  none_is_early : (h : Habit) (x : ℕ) → IsEarlyAt swap h (swap_dump b) 5 1 (cell 0 0) x → ⊥
  none_is_early h x (IsEarly.of_input c moving free other) = other (input_clk c.thing c.place moving.0)
  none_is_early h x (IsEarly.of_trigger p c may_wake not_b blocks away) = no_blocking p c blocks
  none_is_early h x (IsEarly.of_blocking y p c is may_wake not_b blocks away) = no_blocking p c blocks
  none_is_early h x (IsEarly.of_nonblocking y p c is may_wake queues away) = none_is_early h y is

  agrees : Agrees swap (KnownOnEntry swap Free (swap_dump b) 5 1) (swap_values One Zero One)
  agrees = on_entry swap Free (swap_dump b) 5 1 (cell 0 0) only (swap_values One Zero One) no_words refl others
    where
      others : (s : ℕ) → s < 3 → s ≢ 0 → (IsEarlyAt swap Free (swap_dump b) 5 1 (cell 0 0) s → ⊥) → (bits : List Bit) → clear swap Free (swap_dump b) 4 (a_signal s) bits → signal_bits swap (swap_values One Zero One) s ≡ bits
      others zero below ne not_early bits k = absurd (ne refl)
      others (suc zero) below ne not_early bits k = sym (clear_bound swap Free (swap_dump b) 4 1 bits k refl)
      others (suc (suc zero)) below ne not_early bits k = sym (clear_bound swap Free (swap_dump b) 4 2 bits k refl)
      others (suc (suc (suc s))) below ne not_early bits k = absurd (omega (arith, below))

  -- a is known on entry, with the value 0
  knows_a : EntryFrom swap Free (swap_dump b) 5 (clear swap Free (swap_dump b) 4) 1 (cell 0 0) (a_signal 1) (Zero ∷ [])
  knows_a = inr ((λ e. suc-ne-zero 0 (ap thing_of e)), none_is_early Free 1, (1, of_dump 1 (Zero ∷ []) (lit≤ tt, lit< tt) refl (lit< tt) refl))

  -- so b is written 0
  leaves : (v : Values Bit) → Agrees swap (EntryFrom swap Free (swap_dump b) 5 (clear swap Free (swap_dump b) 4) 1 (cell 0 0)) v → LeavesValue swap (clear swap Free (swap_dump b) 4) v (all_writes (execution swap (body_at swap 1) v)) (a_signal 2) (Zero ∷ [])
  unfolding put
  leaves v av = record { decided = inl refl; is = λ old fits. av (a_signal 1) (Zero ∷ []) knows_a }

  written : IsWrittenValue swap Free (swap_dump b) 5 (clear swap Free (swap_dump b) 4) 1 (cell 0 0) (a_signal 2) (Zero ∷ [])
  written =
      record {
        writer = record { is_thing = lit< tt; is_clocked = tt; target = refl };
        is_clean = is_clean;
        within = λ v av. (tt, ((Zero ∷ [], knows_a), tt));
        gives = leaves;
      }

  moves : MayMoveAt swap (swap_dump b) 5 2
  moves = MayMove.of_target 0 1 (cell 2 0) (MayMove.of_input (cell 0 0) (refl, λ s. Zero≢One)) (inr (cell 0 0, refl, (Posedge, refl, λ s. refl))) (inr refl)

  is_forced : IsForced swap Free (swap_dump b) 5 2 (Zero ∷ [])
  is_forced =
      record {
        is_bound = refl;
        no_input = refl;
        is_signal = lit< tt;
        is_listed = inr (inl refl);
        is_shown = (lit≤ tt, lit< tt);
        forced = by_clocked 1 (cell 0 0) (lit< tt, lit< tt) moves written;
      }

pub swap_example : IsSwapExample
swap_example =
    record {
      clean = is_clean;
      none_early = none_is_early;
      not_open = λ b. line_away swap (KnownOnEntry swap Free (swap_dump b) 5 1) (body_at swap 1) 1 refl;
      surely_open = λ b. line_sure swap (KnownOnEntry swap Free (swap_dump b) 5 1) (at 35) 2 false 2 (signal plain 1);
      reached = λ b. ((lit< tt, lit< tt), refl, inl (cell 0 0, is_clean b, inl (at_line 2, refl, (swap_values One Zero One, agrees b, inl refl))));
      forced = is_forced;
      contradicted = is_contradicted (is_forced One);
    }
