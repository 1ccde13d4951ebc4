-- What is early for the writer and for the reader.
use Rattle.std.proofs.Common.{◌≡◌, ◌≢◌, ⊎_elim, refl, sym, ap, subst, ◌∙◌, inl, inr, ℕ, zero, suc, ◌<◌, ◌==◌, true, false, List, arith, suc-ne-zero, lit<}
use Rattle.std.specs.Prelude.{nat_le, nat_lt}
use Rattle.std.proofs.lemmas.Bool.{and_parts, eqb-true, false≢true, leb-true, ltb-true, or_cases}
use Rattle.event_machine.specs.Cell.{Cell}
use Rattle.event_machine.specs.Machine.{Edge, Negedge, Posedge}
use Rattle.event_machine.specs.Habit.{Free, Habit}
use Rattle.event_machine.specs.MayMove.{MayMove}
use Rattle.event_machine.specs.Early.{IsEarly}
use Rattle.four_state.specs.declared.bit.Bit.{Bit}
use Rattle.four_state.specs.declared.bit.Bit.TheVariants.{One, Zero}
use Rattle.design_model.specs.Tree.{signal}
use Rattle.design_model.specs.Design.{IsThing, Thing, a_signal, a_word, body_at, cell, signal_bits}
use Rattle.design_model.specs.Execution.{at_line}
use Rattle.design_model.specs.Reads.{Agrees, HasValue}
use Rattle.design_model.specs.Machine.{is_input_cell, machine}
use Rattle.design_model.specs.MayMove.{IsCleanAt, told_at}
use Rattle.design_model.specs.Early.{IsEarlyAt}
use Rattle.design_model.specs.Clear.{EntryFrom, clear, clear_before}
use Rattle.design_model.specs.Open.{IsOpen, KnownOnEntry}
use Rattle.design_model.specs.Doubt.{read_early, of_block}
use Rattle.design_model.specs.ExampleParts.{at, plain}
use Rattle.design_model.proofs.Bound.{clear_bound}
use Rattle.worked_examples.specs.Design.Race.{IsRaceExample, line_one, race, race_dump, race_values}
use Rattle.worked_examples.proofs.Design.Entry.{on_entry}
use Rattle.worked_examples.proofs.Design.OneSet.{line_sure}
use Rattle.worked_examples.proofs.Design.OtherLine.{line_away}
use Rattle.worked_examples.proofs.Design.TestLine.{test_line_sure}

Zero≢One : Zero ≢ One
Zero≢One = grind arith

abbrev thing_of : Thing → ℕ
thing_of (a_signal s) = s
thing_of (a_word m i) = m

-- the clock is the only event signal
clk_cell : (p : ℕ) (e : Edge) (c : Cell) → (machine race).edge p e c ≡ true → c ≡ cell 0 0
clk_cell zero Posedge c h =
    let p = and_parts (c.place == 0) _ h in
    λ i. record { thing = ⊎_elim (λ e. sym (eqb-true 0 c.thing e)) (λ e. absurd (false≢true e)) (or_cases (0 == c.thing) false p.1) i; place = eqb-true c.place 0 p.0 i }
clk_cell zero Negedge c h = absurd (false≢true (and_parts (c.place == 0) false h).1)
clk_cell (suc zero) Posedge c h =
    let p = and_parts (c.place == 0) _ h in
    λ i. record { thing = ⊎_elim (λ e. sym (eqb-true 0 c.thing e)) (λ e. absurd (false≢true e)) (or_cases (0 == c.thing) false p.1) i; place = eqb-true c.place 0 p.0 i }
clk_cell (suc zero) Negedge c h = absurd (false≢true (and_parts (c.place == 0) false h).1)
clk_cell (suc (suc p)) e c h = absurd (false≢true h)

writer_is_clean : IsCleanAt race race_dump 5 0 (cell 0 0)
writer_is_clean =
    record {
      clocked = λ x. refl;
      can_wake = ((Posedge, refl, λ s. refl), MayMove.of_input (cell 0 0) (refl, λ s. Zero≢One));
      alone = λ c wakes. clk_cell 0 wakes.0.0 c wakes.0.1;
      is_single = (refl, refl);
    }

reader_is_clean : IsCleanAt race race_dump 5 1 (cell 0 0)
reader_is_clean =
    record {
      clocked = λ x. refl;
      can_wake = ((Posedge, refl, λ s. refl), MayMove.of_input (cell 0 0) (refl, λ s. Zero≢One));
      alone = λ c wakes. clk_cell 1 wakes.0.0 c wakes.0.1;
      is_single = (refl, refl);
    }

only : (p : ℕ) (e : Cell) → IsCleanAt race race_dump 5 p e → e ≡ cell 0 0
only p e clean = clk_cell p clean.can_wake.0.0 e clean.can_wake.0.1

-- a is early for the reader: the clock wakes the writer, which writes it at once
a_early : (h : Habit) → IsEarlyAt race h race_dump 5 1 (cell 0 0) 2
a_early h = IsEarly.of_trigger 0 (cell 2 0) (inr (cell 0 0, refl, (Posedge, refl, λ s. refl))) (λ e. suc-ne-zero 0 (sym e)) refl (λ e. suc-ne-zero 1 e)

-- of the inputs the clock alone moves
moving_clk : (x k : ℕ) → is_input_cell race (cell x k) ≡ true → k ≡ 0 → (race_dump.bound x ≡ true → (told_at race_dump 5).old (cell x k) ≢ (told_at race_dump 5).new (cell x k)) → x ≢ 0 → ⊥
moving_clk zero k h z moves ne = ne refl
moving_clk (suc zero) k h z moves ne = moves refl refl
moving_clk (suc (suc zero)) k h z moves ne = false≢true h
moving_clk (suc (suc (suc zero))) k h z moves ne = false≢true h
moving_clk (suc (suc (suc (suc x)))) k h z moves ne = false≢true h

below_one : (k : ℕ) → k < 1 → k ≡ 0
below_one k h = omega arith

input_place : (x k : ℕ) → is_input_cell race (cell x k) ≡ true → k ≡ 0
input_place zero k h = below_one k (ltb-true k 1 h)
input_place (suc zero) k h = below_one k (ltb-true k 1 h)
input_place (suc (suc zero)) k h = absurd (false≢true h)
input_place (suc (suc (suc zero))) k h = absurd (false≢true h)
input_place (suc (suc (suc (suc x)))) k h = absurd (false≢true h)

others_block : (p : ℕ) (c : Cell) → p ≢ 0 → (machine race).blocking p c ≡ true → ⊥
others_block zero c ne h = ne refl
others_block (suc zero) c ne h = false≢true h
others_block (suc (suc p)) c ne h = false≢true h

none_is_early : (h : Habit) (x : ℕ) → IsEarlyAt race h race_dump 5 0 (cell 0 0) x → ⊥
none_is_early h x (IsEarly.of_input c moving free other) = moving_clk c.thing c.place moving.0 (input_place c.thing c.place moving.0) moving.1 other
none_is_early h x (IsEarly.of_trigger p c may_wake not_b blocks away) = others_block p c not_b blocks
none_is_early h x (IsEarly.of_blocking y p c is may_wake not_b blocks away) = others_block p c not_b blocks
none_is_early h x (IsEarly.of_nonblocking y p c is may_wake queues away) = none_is_early h y is

no_words : (m i : ℕ) → IsThing race (a_word m i) → ⊥
no_words m i h = let p = and_parts (nat_le 4 m) (nat_lt m 4) h.0 in omega (arith, leb-true 4 m p.0, ltb-true m 4 p.1)

writer_agrees : Agrees race (KnownOnEntry race Free race_dump 5 0) (race_values One One Zero Zero)
writer_agrees = on_entry race Free race_dump 5 0 (cell 0 0) (only 0) (race_values One One Zero Zero) no_words refl others
  where
    others : (s : ℕ) → s < 4 → s ≢ 0 → (IsEarlyAt race Free race_dump 5 0 (cell 0 0) s → ⊥) → (bits : List Bit) → clear race Free race_dump 4 (a_signal s) bits → signal_bits race (race_values One One Zero Zero) s ≡ bits
    others zero below ne not_early bits k = absurd (ne refl)
    others (suc zero) below ne not_early bits k = sym (clear_bound race Free race_dump 4 1 bits k refl)
    others (suc (suc zero)) below ne not_early bits k = sym (clear_bound race Free race_dump 4 2 bits k refl)
    others (suc (suc (suc zero))) below ne not_early bits k = sym (clear_bound race Free race_dump 4 3 bits k refl)
    others (suc (suc (suc (suc s)))) below ne not_early bits k = absurd (omega (arith, below))

reader_agrees : (a : Bit) → Agrees race (KnownOnEntry race Free race_dump 5 1) (race_values One One a Zero)
reader_agrees a = on_entry race Free race_dump 5 1 (cell 0 0) (only 1) (race_values One One a Zero) no_words refl others
  where
    others : (s : ℕ) → s < 4 → s ≢ 0 → (IsEarlyAt race Free race_dump 5 1 (cell 0 0) s → ⊥) → (bits : List Bit) → clear race Free race_dump 4 (a_signal s) bits → signal_bits race (race_values One One a Zero) s ≡ bits
    others zero below ne not_early bits k = absurd (ne refl)
    others (suc zero) below ne not_early bits k = sym (clear_bound race Free race_dump 4 1 bits k refl)
    others (suc (suc zero)) below ne not_early bits k = absurd (not_early (a_early Free))
    others (suc (suc (suc zero))) below ne not_early bits k = sym (clear_bound race Free race_dump 4 3 bits k refl)
    others (suc (suc (suc (suc s)))) below ne not_early bits k = absurd (omega (arith, below))

unknown : HasValue (KnownOnEntry race Free race_dump 5 1) (a_signal 2) → ⊥
unknown k = go k.1.2
  where
    go : EntryFrom race Free race_dump 5 (clear_before race Free race_dump 5) 1 k.1.0 (a_signal 2) k.0 → ⊥
    go (inl new) = suc-ne-zero 1 (ap thing_of new.0 ∙ ap (λ y. y.thing) (only 1 k.1.0 k.1.1))
    go (inr old) = old.1 (subst (λ c. IsEarlyAt race Free race_dump 5 1 c 2) (sym (only 1 k.1.0 k.1.1)) (a_early Free))

open_one : IsOpen race (KnownOnEntry race Free race_dump 5 1) (body_at race 1) line_one
open_one = (_, record { is_path = inl refl; follows = (tt, ((λ fixed. absurd (unknown (fixed.within (race_values One One Zero Zero) (reader_agrees Zero)).0)), (tt, (tt, tt)))) }, (_, (_, inr (inr (inl refl)), refl, refl)))

pub race_example : IsRaceExample
race_example =
    record {
      writer_clean = writer_is_clean;
      reader_clean = reader_is_clean;
      early = a_early;
      none_early = none_is_early;
      write_not_open = line_away race (KnownOnEntry race Free race_dump 5 1) (body_at race 1) 1 refl;
      if_not_open = line_away race (KnownOnEntry race Free race_dump 5 0) (body_at race 0) 2 refl;
      write_surely_open = line_sure race (KnownOnEntry race Free race_dump 5 0) (at 25) 1 true 2 (signal plain 1);
      write_reached = ((lit< tt, lit< tt), refl, inl (cell 0 0, writer_is_clean, inl (at_line 1, refl, (race_values One One Zero Zero, writer_agrees, inl refl))));
      if_surely_open = test_line_sure race (KnownOnEntry race Free race_dump 5 1) (at 35) 2 _ _ _;
      if_reached = ((lit< tt, lit< tt), refl, inl (cell 0 0, reader_is_clean, inl (at_line 2, refl, (race_values One One Zero Zero, reader_agrees Zero, inl refl))));
      doubt = of_block 1 (lit< tt, lit< tt) refl (inl ((cell 0 0, reader_is_clean.can_wake), inr open_one)) (read_early (record { thing = a_signal 2; trigger = cell 0 0; of_owner = refl; is_clean = reader_is_clean; is_read = inl (race_values One One Zero Zero, reader_agrees Zero, inr (tt, inl refl)); is_early = a_early Free }));
    }
