-- y is not written on each path of its block, so it is never clear, nor is the net that reads it.
use Rattle.std.proofs.Common.{◌≡◌, ◌≢◌, ⊎_elim, refl, sym, ap, subst, ◌∙◌, inl, inr, ℕ, zero, suc, ◌<◌, ◌==◌, true, false, List, [], ◌∷◌, arith, suc-ne-zero, lit<, lit≤}
use Rattle.std.specs.Prelude.{nat_le, nat_lt}
use Rattle.std.specs.List.{list_any}
use Rattle.std.proofs.lemmas.Bool.{and_parts, eqb-true, false≢true, leb-true, ltb-true, or_cases}
use Rattle.event_machine.specs.Cell.{Cell}
use Rattle.event_machine.specs.Machine.{Edge, Negedge, Posedge}
use Rattle.event_machine.specs.Habit.{Free}
use Rattle.event_machine.specs.MayMove.{MayMove}
use Rattle.four_state.specs.declared.bit.Bit.{Bit}
use Rattle.four_state.specs.declared.bit.Bit.TheVariants.{One, X, Zero}
use Rattle.design_model.specs.Tree.{signal}
use Rattle.design_model.specs.Mentions.{body_blocks, mentions}
use Rattle.design_model.specs.Execution.{cases}
use Rattle.design_model.specs.Paths.{paths}
use Rattle.design_model.specs.Design.{In, IsThing, Thing, a_signal, a_word, body_at, cell, signal_bits}
use Rattle.point_words.specs.declared.node_case.NodeCase.TheVariants.{ValueTrue}
use Rattle.design_model.specs.Reads.{Agrees, HasValue, ReadsWithin, PartialMap, nothing_known}
use Rattle.design_model.specs.Machine.{machine}
use Rattle.point_words.specs.declared.line_word.LineWord.TheVariants.{Assign}
use Rattle.design_model.specs.declared.point.Point.TheVariants.{Line as line_point, Logic as logic_point}
use Rattle.design_model.specs.MayMove.{IsCleanAt}
use Rattle.design_model.specs.Early.{IsEarlyAt}
use Rattle.design_model.specs.Clear.{EntryFrom, IsClearBy, IsClockedTarget, IsCombValue, IsNetValue, clear, clear_before, clear_in, is_driven, of_assigns, of_clean, of_comb, of_dump, of_unwoken}
use Rattle.design_model.specs.Open.{FollowsAll, IsFixed, IsOpen, KnownAtEnd, KnownOnEntry}
use Rattle.design_model.specs.Doubt.{IsInDoubt, of_block, of_signal, unclear_at_start, unclear_signal}
use Rattle.design_model.specs.ExampleParts.{at, counted}
use Rattle.design_model.proofs.Bound.{clear_in-thing, in_bound}
use Rattle.worked_examples.specs.Design.Latch.{IsLatchExample, latch, latch_dump, latch_values}
use Rattle.worked_examples.proofs.Design.Entry.{at_end, on_entry}
use Rattle.worked_examples.proofs.Design.PathSteps.{is_reaching, node_inside, reaching_found}
use Rattle.worked_examples.proofs.Design.TestLine.{test_line_sure}

Zero≢One : Zero ≢ One
Zero≢One = grind arith

abbrev IsBoundHere : Thing → Type 0
IsBoundHere (a_signal s) = nat_lt s 4 ≡ true
IsBoundHere (a_word m i) = Unit {0}

abbrev thing_of : Thing → ℕ
thing_of (a_signal s) = s
thing_of (a_word m i) = m

no_words : (m i : ℕ) → IsThing latch (a_word m i) → ⊥
no_words m i h = let p = and_parts (nat_le 6 m) (nat_lt m 6) h.0 in omega (arith, leb-true 6 m p.0, ltb-true m 6 p.1)

-- no Clocked writes y or z
not_clocked_y : (p : ℕ) → IsClockedTarget latch p (a_signal 4) → ⊥
not_clocked_y zero h = h.is_clocked
not_clocked_y (suc zero) h = false≢true h.target
not_clocked_y (suc (suc zero)) h = h.is_clocked
not_clocked_y (suc (suc (suc p))) h = h.is_clocked

not_clocked_z : (p : ℕ) → IsClockedTarget latch p (a_signal 5) → ⊥
not_clocked_z zero h = h.is_clocked
not_clocked_z (suc zero) h = false≢true h.target
not_clocked_z (suc (suc zero)) h = h.is_clocked
not_clocked_z (suc (suc (suc p))) h = h.is_clocked

-- the block of y does not write it on each path
not_comb_y : (p t : ℕ) (K : PartialMap) (bits : List Bit) → IsCombValue latch latch_dump t K p 4 bits → ⊥
not_comb_y zero t K bits h = false≢true h.written_whole
not_comb_y (suc zero) t K bits h = h.is_comb
not_comb_y (suc (suc zero)) t K bits h = h.is_comb
not_comb_y (suc (suc (suc p))) t K bits h = false≢true h.target

not_comb_z : (p t : ℕ) (K : PartialMap) (bits : List Bit) → IsCombValue latch latch_dump t K p 5 bits → ⊥
not_comb_z zero t K bits h = false≢true h.target
not_comb_z (suc zero) t K bits h = h.is_comb
not_comb_z (suc (suc zero)) t K bits h = h.is_comb
not_comb_z (suc (suc (suc p))) t K bits h = false≢true h.target

by_rule : (t : ℕ) (start K : PartialMap) (x : Thing) (bits : List Bit) → IsClearBy latch Free latch_dump t start K x bits → x ≡ a_signal 4 → ⊥
by_rule t start K x bits (of_dump s w0 is_shown is_bound is_signal is) e = false≢true (subst IsBoundHere e is_bound)
by_rule t start K x bits (of_assigns s w0 unbound is) e = false≢true (subst (λ y. is_driven latch y ≡ true) (ap thing_of e) is.driven)
by_rule t start K x bits (of_comb p s w0 unbound is) e = not_comb_y p t K w0 (subst (λ y. IsCombValue latch latch_dump t K p y w0) (ap thing_of e) is)
by_rule t start K x bits (of_unwoken p x0 w0 w unbound target still old) e = not_clocked_y p (subst (IsClockedTarget latch p) e target)
by_rule t start K x bits (of_clean p c x0 w0 w unbound is) e = not_clocked_y p (subst (IsClockedTarget latch p) e is.writer)

y_none : (t : ℕ) (start : PartialMap) (n : ℕ) (bits : List Bit) → clear_in latch Free latch_dump t start n (a_signal 4) bits → ⊥
y_none t start zero bits k = k
y_none t start (suc n) bits k = by_rule t start (clear_in latch Free latch_dump t start n) (a_signal 4) bits k refl

never : (t : ℕ) → HasValue (clear latch Free latch_dump t) (a_signal 4) → ⊥
never zero k = y_none 0 nothing_known k.1.0 k.0 k.1.1
never (suc t) k = y_none (suc t) (clear latch Free latch_dump t) k.1.0 k.0 k.1.1

-- nor is z clear, as what its Assign reads is not known
by_net : (t : ℕ) (start K : PartialMap) → Agrees latch K (latch_dump.values t) → ((bits : List Bit) → K (a_signal 4) bits → ⊥) → (x : Thing) (bits : List Bit) → IsClearBy latch Free latch_dump t start K x bits → x ≡ a_signal 5 → ⊥
by_net t start K av none x bits (of_dump s w0 is_shown is_bound is_signal is) e = false≢true (subst IsBoundHere e is_bound)
by_net t start K av none x bits (of_assigns s w0 unbound is) e =
    let told : ReadsWithin latch K (body_at latch 2) = (subst (λ y. IsNetValue latch K y w0) (ap thing_of e) is).within 2 refl in
    let has = (told (latch_dump.values t) av).1.0 in
    none has.0 has.1
by_net t start K av none x bits (of_comb p s w0 unbound is) e = not_comb_z p t K w0 (subst (λ y. IsCombValue latch latch_dump t K p y w0) (ap thing_of e) is)
by_net t start K av none x bits (of_unwoken p x0 w0 w unbound target still old) e = not_clocked_z p (subst (IsClockedTarget latch p) e target)
by_net t start K av none x bits (of_clean p c x0 w0 w unbound is) e = not_clocked_z p (subst (IsClockedTarget latch p) e is.writer)

-- the dump's values agree with what is clear
agrees_in : (t : ℕ) (start : PartialMap) (n : ℕ) → Agrees latch (clear_in latch Free latch_dump t start n) (latch_dump.values t)
agrees_in t start zero x bits k = absurd k
agrees_in t start (suc n) (a_signal zero) bits k = sym (in_bound latch Free latch_dump t start (suc n) 0 bits k refl)
agrees_in t start (suc n) (a_signal (suc zero)) bits k = sym (in_bound latch Free latch_dump t start (suc n) 1 bits k refl)
agrees_in t start (suc n) (a_signal (suc (suc zero))) bits k = sym (in_bound latch Free latch_dump t start (suc n) 2 bits k refl)
agrees_in t start (suc n) (a_signal (suc (suc (suc zero)))) bits k = sym (in_bound latch Free latch_dump t start (suc n) 3 bits k refl)
agrees_in t start (suc n) (a_signal (suc (suc (suc (suc zero))))) bits k = absurd (y_none t start (suc n) bits k)
agrees_in t start (suc n) (a_signal (suc (suc (suc (suc (suc zero)))))) bits k =
    absurd (by_net t start (clear_in latch Free latch_dump t start n) (agrees_in t start n) (λ w c. y_none t start n w c) (a_signal 5) bits k refl)
agrees_in t start (suc n) (a_signal (suc (suc (suc (suc (suc (suc s))))))) bits k =
    absurd (omega (arith, clear_in-thing latch Free latch_dump t start (suc n) (a_signal (suc (suc (suc (suc (suc (suc s))))))) bits k))
agrees_in t start (suc n) (a_word m i) bits k = absurd (no_words m i (clear_in-thing latch Free latch_dump t start (suc n) (a_word m i) bits k))

-- the clock
clk_cell : (e : Edge) (c : Cell) → (machine latch).edge 1 e c ≡ true → c ≡ cell 0 0
clk_cell Posedge c h =
    let p = and_parts (c.place == 0) _ h in
    λ i. record { thing = ⊎_elim (λ e. sym (eqb-true 0 c.thing e)) (λ e. absurd (false≢true e)) (or_cases (0 == c.thing) false p.1) i; place = eqb-true c.place 0 p.0 i }
clk_cell Negedge c h = absurd (false≢true (and_parts (c.place == 0) false h).1)

is_clean : IsCleanAt latch latch_dump 10 1 (cell 0 0)
is_clean =
    record {
      clocked = λ x. refl;
      can_wake = ((Posedge, refl, λ s. refl), MayMove.of_input (cell 0 0) (refl, λ s. Zero≢One));
      alone = λ c wakes. clk_cell wakes.0.0 c wakes.0.1;
      is_single = (refl, refl);
    }

only : (e : Cell) → IsCleanAt latch latch_dump 10 1 e → e ≡ cell 0 0
only e clean = clk_cell clean.can_wake.0.0 e clean.can_wake.0.1

-- on entry at 10
entry : Agrees latch (KnownOnEntry latch Free latch_dump 10 1) (latch_values One Zero One X X X)
entry = on_entry latch Free latch_dump 10 1 (cell 0 0) only (latch_values One Zero One X X X) no_words refl others
  where
    at_nine : (s : ℕ) (bits : List Bit) → clear latch Free latch_dump 9 (a_signal s) bits → signal_bits latch (latch_dump.values 9) s ≡ bits
    at_nine s bits k = agrees_in 9 (clear latch Free latch_dump 8) k.0 (a_signal s) bits k.1

    others : (s : ℕ) → s < 6 → s ≢ 0 → (IsEarlyAt latch Free latch_dump 10 1 (cell 0 0) s → ⊥) → (bits : List Bit) → clear latch Free latch_dump 9 (a_signal s) bits → signal_bits latch (latch_values One Zero One X X X) s ≡ bits
    others zero below ne not_early bits k = absurd (ne refl)
    others (suc zero) below ne not_early bits k = at_nine 1 bits k
    others (suc (suc zero)) below ne not_early bits k = at_nine 2 bits k
    others (suc (suc (suc zero))) below ne not_early bits k = at_nine 3 bits k
    others (suc (suc (suc (suc zero)))) below ne not_early bits k = at_nine 4 bits k
    others (suc (suc (suc (suc (suc zero))))) below ne not_early bits k = at_nine 5 bits k
    others (suc (suc (suc (suc (suc (suc s)))))) below ne not_early bits k = absurd (omega (arith, below))

unknown : HasValue (KnownOnEntry latch Free latch_dump 10 1) (a_signal 4) → ⊥
unknown k = go k.1.2
  where
    go : EntryFrom latch Free latch_dump 10 (clear_before latch Free latch_dump 10) 1 k.1.0 (a_signal 4) k.0 → ⊥
    go (inl new) = suc-ne-zero 3 (ap thing_of new.0 ∙ ap (λ y. y.thing) (only k.1.0 k.1.1))
    go (inr old) = never 9 (k.0, old.2)

open_line : IsOpen latch (KnownOnEntry latch Free latch_dump 10 1) (body_at latch 1) (line_point 1 4 (at 32) Assign)
open_line = (_, record { is_path = inl refl; follows = (tt, ((λ fixed. absurd (unknown (fixed.within (latch_values One Zero One X X X) entry).0)), (tt, (tt, tt)))) }, (_, (_, inr (inr (inl refl)), refl, refl)))

apart : (c : Cell) → IsCleanAt latch latch_dump 10 1 c → a_signal 4 ≢ a_signal c.thing
apart c clean e = suc-ne-zero 3 (ap thing_of e ∙ ap (λ y. y.thing) (only c clean))

doubt_line : IsInDoubt latch Free latch_dump (line_point 1 4 (at 32) Assign) 10 4
doubt_line =
    of_block 1 (lit< tt, lit< tt) refl (inl ((cell 0 0, is_clean.can_wake), inr open_line))
    (unclear_at_start (record { thing = a_signal 4; is_thing = lit< tt; of_owner = refl; can_wake = (cell 0 0, is_clean.can_wake); is_read = inl (latch_values One Zero One X X X, entry, inr (tt, inl refl)); no_trigger = apart; unclear = never 9 }))

-- the net at 5
settled : Agrees latch (KnownAtEnd latch Free latch_dump 5 2) (latch_dump.values 5)
settled = at_end latch Free latch_dump 5 2 (latch_dump.values 5) no_words (λ s below bits k. agrees_in 5 (clear latch Free latch_dump 4) k.0 (a_signal s) bits k.1)

open_net : IsOpen latch (KnownAtEnd latch Free latch_dump 5 2) (body_at latch 2) (logic_point 2 3 (at 0) (Rattle.std.specs.Prelude.codes "y") ValueTrue)
open_net = (_, record { is_path = inl refl; follows = (tt, (tt, tt)) }, (_, (_, inr (inl refl), refl, (_, (inl refl, refl), ((λ fixed. absurd (never 5 ((fixed.within (latch_dump.values 5) settled).0.0, (fixed.within (latch_dump.values 5) settled).0.1.1))), tt)))))

-- the block of y at 5 knows en
open_block : Agrees latch (KnownAtEnd latch Free latch_dump 5 0) (latch_dump.values 5)
open_block = at_end latch Free latch_dump 5 0 (latch_dump.values 5) no_words (λ s below bits k. agrees_in 5 (clear latch Free latch_dump 4) k.0 (a_signal s) bits k.1)

has_en : HasValue (KnownAtEnd latch Free latch_dump 5 0) (a_signal 1)
has_en = (Zero ∷ [], (refl, (1, of_dump 1 (Zero ∷ []) (lit≤ tt, lit< tt) refl (lit< tt) refl)))

fixed_en : IsFixed latch (KnownAtEnd latch Free latch_dump 5 0) (body_at latch 0) (signal (counted 1) 1)
fixed_en = record { within = λ v a. (has_en, node_inside (KnownAtEnd latch Free latch_dump 5 0) (counted 1).node (cases latch v (signal (counted 1) 1))); unwritten = unwritten }
  where
    unwritten : (x : ℕ) → mentions x (signal (counted 1) 1) ≡ true → body_blocks x (body_at latch 0) ≡ false
    unwritten x m = subst (λ y. body_blocks y (body_at latch 0) ≡ false) (eqb-true 1 x m) refl

is_not_open : IsOpen latch (KnownAtEnd latch Free latch_dump 5 0) (body_at latch 0) (line_point 0 2 (at 21) Assign) → ⊥
is_not_open h = go h.1.is_path
  where
    go : In h.0 (paths [] (body_at latch 0)) → ⊥
    go (inl e) = false≢true ((subst (FollowsAll latch (KnownAtEnd latch Free latch_dump 5 0) (body_at latch 0)) (sym e) h.1.follows).1.0 fixed_en (latch_dump.values 5) open_block)
    go (inr (inl e)) = false≢true (subst (λ p. list_any (λ y. is_reaching 2 y.action) p ≡ true) (sym e) (reaching_found 2 h.2.1.0 h.0 h.2.1.1 h.2.1.3))
    go (inr (inr n)) = n

pub latch_example : IsLatchExample
latch_example =
    record {
      never_clear = never;
      clean = is_clean;
      doubt_line = doubt_line;
      doubt_toggle = of_signal (lit< tt, lit< tt) refl (inl (inr (inl refl))) (inl (never 4));
      doubt_net = of_block 2 (lit< tt, lit< tt) refl (inr ((λ c. c), open_net)) (unclear_signal (record { place = 0; not_clocked = λ c. c; may_wake = inl (inr (inl refl)); wake_bit = (lit< tt, lit< tt, (refl, refl)); unclear = inl (never 4) }));
      not_open = is_not_open;
      surely_open = test_line_sure latch (KnownAtEnd latch Free latch_dump 5 0) (at 13) 1 _ _ _;
    }
