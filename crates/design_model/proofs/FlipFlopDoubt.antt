-- At 5 the block of `ff` is clean. With a at 1 nothing is early and its lines are reached; with a falling at 5 it is in doubt for line 2.
use Rattle.std.proofs.Common.{◌≡◌, ◌≢◌, ◌⊎◌, refl, sym, ap, subst, ◌∙◌, ℕ, zero, suc, ◌<◌, ◌==◌, true, false, [], ◌∷◌, inl, inr, ⊎_elim, arith, suc-ne-zero, lit<, lit≤}
use Rattle.event_machine.specs.Machine.{Edge as MachineEdge}
use Rattle.std.specs.Prelude.{nat_le, nat_lt}
use Rattle.std.proofs.lemmas.Bool.{and_parts, or_cases, eqb-true, ltb-true, leb-true, false≢true, both_ways}
use Rattle.std.specs.Prelude.{slice_index_or}
use Rattle.event_machine.specs.Cell.{Cell}
use Rattle.event_machine.specs.Machine.{Negedge, Posedge}
use Rattle.event_machine.specs.Habit.{Free, Habit, Late, is_free_input}
use Rattle.event_machine.specs.MayMove.{MayMove}
use Rattle.event_machine.specs.Early.{IsEarly}
use Rattle.four_state.specs.declared.bit.Bit.{Bit}
use Rattle.four_state.specs.declared.bit.Bit.TheVariants.{One, X, Zero}
use Rattle.design_model.specs.Design.{Thing, a_signal, a_word, body_at, cell, is_memory, thing_bits}
use Rattle.design_model.specs.Execution.{at_line}
use Rattle.design_model.specs.Reads.{Agrees, HasValue, VisitsFrom}
use Rattle.design_model.specs.Machine.{is_input_cell, machine}
use Rattle.design_model.specs.Shows.{BoundDump}
use Rattle.design_model.specs.MayMove.{IsCleanAt, told_at}
use Rattle.design_model.specs.Early.{IsEarlyAt}
use Rattle.design_model.specs.Clear.{EntryFrom, clear_before, of_dump}
use Rattle.design_model.specs.Open.{IsOpen, IsReached, KnownOnEntry}
use Rattle.design_model.specs.Doubt.{IsInDoubt, read_early, of_block}
use Rattle.design_model.specs.FlipFlop.{falling_dump, flip_flop, flip_flop_dump, flip_flop_values, line_two, steady_dump}
use Rattle.design_model.proofs.Bound.{clear-thing, clear_bound}

One≢Zero : One ≢ Zero
One≢Zero = grind arith

Zero≢One : Zero ≢ One
Zero≢One = grind arith

below_one : (k : ℕ) → k < 1 → k ≡ 0
below_one k h = omega arith

edge_thing : (e : MachineEdge) (x k : ℕ) → (machine flip_flop).edge 0 e (cell x k) ≡ true → cell x k ≡ cell 0 0
edge_thing Posedge x k h =
    let p = and_parts (k == 0) _ h in
    λ i. record { thing = ⊎_elim (λ e. sym (eqb-true 0 x e)) (λ e. absurd (false≢true e)) (or_cases (0 == x) false p.1) i; place = eqb-true k 0 p.0 i }
edge_thing Negedge x k h = absurd (both_ways _ refl (and_parts (k == 0) false h).1)

-- clk is the only event signal of the block
pub only_clk : (e : MachineEdge) (c : Cell) → (machine flip_flop).edge 0 e c ≡ true → c ≡ cell 0 0
only_clk e c h = edge_thing e c.thing c.place h

input_thing : (x k : ℕ) → is_input_cell flip_flop (cell x k) ≡ true → (cell x k ≡ cell 0 0) ⊎ (cell x k ≡ cell 1 0)
input_thing zero k h = inl (λ i. record { thing = 0; place = below_one k (ltb-true k 1 h) i })
input_thing (suc zero) k h = inr (λ i. record { thing = 1; place = below_one k (ltb-true k 1 h) i })
input_thing (suc (suc zero)) k h = absurd (false≢true h)
input_thing (suc (suc (suc x))) k h = absurd (false≢true h)

pub input_bound : (x k : ℕ) → is_input_cell flip_flop (cell x k) ≡ true → steady_dump.bound x ≡ true
input_bound zero k h = refl
input_bound (suc zero) k h = refl
input_bound (suc (suc zero)) k h = absurd (false≢true h)
input_bound (suc (suc (suc x))) k h = absurd (false≢true h)

no_blocking : (p : ℕ) (c : Cell) → (machine flip_flop).blocking p c ≡ true → ⊥
no_blocking zero c h = false≢true h
no_blocking (suc p) c h = false≢true h

no_level : (p x : ℕ) → (machine flip_flop).level p x ≡ true → ⊥
no_level zero x h = false≢true h
no_level (suc p) x h = false≢true h

pub is_clean : (a : Bit) → IsCleanAt flip_flop (flip_flop_dump a) 5 0 (cell 0 0)
is_clean a =
    record {
      clocked = λ x. refl;
      can_wake = ((Posedge, refl, λ s. refl), MayMove.of_input (cell 0 0) (refl, λ s. Zero≢One));
      alone = λ c wakes. only_clk wakes.0.0 c wakes.0.1;
      is_single = (refl, refl);
    }

-- what is early is an input that moves, and so a
only_a : (h : Habit) (a : Bit) (x : ℕ) → IsEarlyAt flip_flop h (flip_flop_dump a) 5 0 (cell 0 0) x → (One ≢ a) × (is_free_input (machine flip_flop) h 1 ≡ true)
only_a h a x (IsEarly.of_input c moving free other) =
    ⊎_elim
    (λ e. absurd (other (ap (λ y. y.thing) e)))
    (λ e. (
      λ same. moving.1 (input_bound c.thing c.place moving.0) (subst (λ y. (told_at (flip_flop_dump a) 5).old y ≡ (told_at (flip_flop_dump a) 5).new y) (sym e) same),
      subst (λ y. is_free_input (machine flip_flop) h y ≡ true) (ap (λ y. y.thing) e) (free refl),
    ))
    (input_thing c.thing c.place moving.0)
only_a h a x (IsEarly.of_trigger p c may_wake other blocks away) = absurd (no_blocking p c blocks)
only_a h a x (IsEarly.of_blocking y p c is may_wake other blocks away) = absurd (no_blocking p c blocks)
only_a h a x (IsEarly.of_nonblocking y p c is may_wake queues away) = only_a h a y is

-- with a at 1 nothing is early
pub none_early : (h : Habit) (x : ℕ) → IsEarlyAt flip_flop h steady_dump 5 0 (cell 0 0) x → ⊥
none_early h x is = (only_a h One x is).0 refl

-- by the late habit nothing is early, as a is no event signal
pub none_early_late : (a : Bit) (x : ℕ) → IsEarlyAt flip_flop Late (flip_flop_dump a) 5 0 (cell 0 0) x → ⊥
none_early_late a x is = false≢true (only_a Late a x is).1

-- with a falling at 5 it is early
pub a_early : IsEarlyAt flip_flop Free falling_dump 5 0 (cell 0 0) 1
a_early = IsEarly.of_input (cell 1 0) (refl, λ s. One≢Zero) (λ i. refl) (λ e. absurd (suc-ne-zero 0 e))

no_memory_here : (m : ℕ) → is_memory flip_flop m ≡ true → ⊥
no_memory_here m h = let p = and_parts (nat_le 3 m) (nat_lt m 3) h in omega (arith, leb-true 3 m p.0, ltb-true m 3 p.1)

-- of a cell that wakes the block
trigger_is : (of : BoundDump) (c : Cell) → IsCleanAt flip_flop of 5 0 c → c ≡ cell 0 0
trigger_is of c clean = only_clk clean.can_wake.0.0 c clean.can_wake.0.1

abbrev owner_of : Thing → ℕ
owner_of (a_signal s) = s
owner_of (a_word m i) = m

abbrev IsWord : Thing → Type 0
IsWord (a_signal s) = ⊥
IsWord (a_word m i) = Unit {0}

word_signal : (m i s : ℕ) → a_word m i ≡ a_signal s → ⊥
word_signal m i s e = subst IsWord e tt

-- on entry clk is new, and a and q are as they were
pub agrees : (h : Habit) (a : Bit) → Agrees flip_flop (KnownOnEntry flip_flop h (flip_flop_dump a) 5 0) (flip_flop_values One One X)
agrees h a (a_signal zero) bits k = go (k.2)
  where
    go : EntryFrom flip_flop h (flip_flop_dump a) 5 (clear_before flip_flop h (flip_flop_dump a) 5) 0 k.0 (a_signal 0) bits → One ∷ [] ≡ bits
    go (inl new) = sym new.1
    go (inr old) = absurd (old.0 (ap (λ y. a_signal y.thing) (sym (trigger_is (flip_flop_dump a) k.0 k.1))))
agrees h a (a_signal (suc zero)) bits k = go (k.2)
  where
    go : EntryFrom flip_flop h (flip_flop_dump a) 5 (clear_before flip_flop h (flip_flop_dump a) 5) 0 k.0 (a_signal 1) bits → One ∷ [] ≡ bits
    go (inl new) = absurd (suc-ne-zero 0 (ap owner_of new.0 ∙ ap (λ y. y.thing) (trigger_is (flip_flop_dump a) k.0 k.1)))
    go (inr old) = sym (clear_bound flip_flop h (flip_flop_dump a) 4 1 bits old.2 refl)
agrees h a (a_signal (suc (suc zero))) bits k = go (k.2)
  where
    go : EntryFrom flip_flop h (flip_flop_dump a) 5 (clear_before flip_flop h (flip_flop_dump a) 5) 0 k.0 (a_signal 2) bits → X ∷ [] ≡ bits
    go (inl new) = absurd (suc-ne-zero 1 (ap owner_of new.0 ∙ ap (λ y. y.thing) (trigger_is (flip_flop_dump a) k.0 k.1)))
    go (inr old) = sym (clear_bound flip_flop h (flip_flop_dump a) 4 2 bits old.2 refl)
agrees h a (a_signal (suc (suc (suc s)))) bits k = go (k.2)
  where
    go : EntryFrom flip_flop h (flip_flop_dump a) 5 (clear_before flip_flop h (flip_flop_dump a) 5) 0 k.0 (a_signal (suc (suc (suc s)))) bits → [] ≡ bits
    go (inl new) = sym new.1
    go (inr old) = absurd (omega (arith, clear-thing flip_flop h (flip_flop_dump a) 4 (a_signal (suc (suc (suc s)))) bits old.2))
agrees h a (a_word m i) bits k = go (k.2)
  where
    go : EntryFrom flip_flop h (flip_flop_dump a) 5 (clear_before flip_flop h (flip_flop_dump a) 5) 0 k.0 (a_word m i) bits → thing_bits flip_flop (flip_flop_values One One X) (a_word m i) ≡ bits
    go (inl new) = absurd (word_signal m i k.0.thing new.0)
    go (inr old) = absurd (no_memory_here m (clear-thing flip_flop h (flip_flop_dump a) 4 (a_word m i) bits old.2).0)

-- where a is not early the block knows it on entry, and so visits line 2
module _ (h : Habit) (a : Bit) (not_early : (x : ℕ) → IsEarlyAt flip_flop h (flip_flop_dump a) 5 0 (cell 0 0) x → ⊥) where
  has_a : HasValue (KnownOnEntry flip_flop h (flip_flop_dump a) 5 0) (a_signal 1)
  has_a = (One ∷ [], (cell 0 0, is_clean a, inr (λ e. suc-ne-zero 0 (ap owner_of e), not_early 1, (1, of_dump 1 (One ∷ []) (lit≤ tt, lit< tt) refl (lit< tt) refl))))

  pub visits_two : VisitsFrom flip_flop (KnownOnEntry flip_flop h (flip_flop_dump a) 5 0) (body_at flip_flop 0) (at_line 2)
  visits_two = (flip_flop_values One One X, agrees h a, inr (tt, inr (has_a, inr (tt, inl refl))))

  pub reached_two : IsReached flip_flop h (flip_flop_dump a) 5 0 line_two
  reached_two = ((lit< tt, lit< tt), refl, inl (cell 0 0, is_clean a, inl (at_line 2, refl, visits_two)))

-- the entry values with a falling: a is not among them
agrees_2 : (b : Bit) → Agrees flip_flop (KnownOnEntry flip_flop Free falling_dump 5 0) (flip_flop_values One b X)
agrees_2 b (a_signal zero) bits k = go (k.2)
  where
    go : EntryFrom flip_flop Free falling_dump 5 (clear_before flip_flop Free falling_dump 5) 0 k.0 (a_signal 0) bits → One ∷ [] ≡ bits
    go (inl new) = sym new.1
    go (inr old) = absurd (old.0 (ap (λ y. a_signal y.thing) (sym (trigger_is falling_dump k.0 k.1))))
agrees_2 b (a_signal (suc zero)) bits k = go (k.2)
  where
    go : EntryFrom flip_flop Free falling_dump 5 (clear_before flip_flop Free falling_dump 5) 0 k.0 (a_signal 1) bits → b ∷ [] ≡ bits
    go (inl new) = absurd (suc-ne-zero 0 (ap owner_of new.0 ∙ ap (λ y. y.thing) (trigger_is falling_dump k.0 k.1)))
    go (inr old) = absurd (old.1 (subst (λ c. IsEarlyAt flip_flop Free falling_dump 5 0 c 1) (sym (trigger_is falling_dump k.0 k.1)) a_early))
agrees_2 b (a_signal (suc (suc zero))) bits k = go (k.2)
  where
    go : EntryFrom flip_flop Free falling_dump 5 (clear_before flip_flop Free falling_dump 5) 0 k.0 (a_signal 2) bits → X ∷ [] ≡ bits
    go (inl new) = absurd (suc-ne-zero 1 (ap owner_of new.0 ∙ ap (λ y. y.thing) (trigger_is falling_dump k.0 k.1)))
    go (inr old) = sym (clear_bound flip_flop Free falling_dump 4 2 bits old.2 refl)
agrees_2 b (a_signal (suc (suc (suc s)))) bits k = go (k.2)
  where
    go : EntryFrom flip_flop Free falling_dump 5 (clear_before flip_flop Free falling_dump 5) 0 k.0 (a_signal (suc (suc (suc s)))) bits → [] ≡ bits
    go (inl new) = sym new.1
    go (inr old) = absurd (omega (arith, clear-thing flip_flop Free falling_dump 4 (a_signal (suc (suc (suc s)))) bits old.2))
agrees_2 b (a_word m i) bits k = go (k.2)
  where
    go : EntryFrom flip_flop Free falling_dump 5 (clear_before flip_flop Free falling_dump 5) 0 k.0 (a_word m i) bits → thing_bits flip_flop (flip_flop_values One b X) (a_word m i) ≡ bits
    go (inl new) = absurd (word_signal m i k.0.thing new.0)
    go (inr old) = absurd (no_memory_here m (clear-thing flip_flop Free falling_dump 4 (a_word m i) bits old.2).0)

-- a is not known on entry
not_known : HasValue (KnownOnEntry flip_flop Free falling_dump 5 0) (a_signal 1) → ⊥
not_known k = zero_one (sym (agrees_2 Zero (a_signal 1) k.0 k.1) ∙ refl) (agrees_2 One (a_signal 1) k.0 k.1)
  where
    zero_one : k.0 ≡ Zero ∷ [] → One ∷ [] ≡ k.0 → ⊥
    zero_one e f = One≢Zero (ap (λ y. slice_index_or y 0 X) (f ∙ e))

-- the test is not fixed, so line 2 is open
pub open_2 : IsOpen flip_flop (KnownOnEntry flip_flop Free falling_dump 5 0) (body_at flip_flop 0) line_two
open_2 = (_, record { is_path = inl refl; follows = (tt, ((λ fixed. absurd (not_known (fixed.within (flip_flop_values One Zero X) (agrees_2 Zero)).0)), (tt, (tt, tt)))) }, (_, (_, inr (inr (inl refl)), refl, refl)))

-- a is in doubt for line 2 at 5
pub doubt_2 : IsInDoubt flip_flop Free falling_dump line_two 5 1
doubt_2 =
    of_block 0 (lit< tt, lit< tt) refl (inl ((cell 0 0, (is_clean Zero).can_wake), inr open_2))
    (read_early
    (record {
      thing = a_signal 1;
      trigger = cell 0 0;
      of_owner = refl;
      is_clean = is_clean Zero;
      is_read = inl (flip_flop_values One Zero X, agrees_2 Zero, inr (tt, inl refl));
      is_early = a_early;
    }))
