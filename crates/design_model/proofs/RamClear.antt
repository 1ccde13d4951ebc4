-- A memory: clk is signal 0, we 1, wa 2, ra 3, d 4, q 5, and m is memory 6 with the words 0 to 3.
--   always @(posedge clk) if (we) m[wa] <= d; else if (m[ra]) q <= 1; else q <= 0;
use Rattle.std.proofs.Common.{◌≡◌, ◌≢◌, ◌⊎◌, refl, sym, ap, subst, ◌∙◌, ℕ, zero, suc, ◌<◌, ◌≤◌, ◌+◌, ◌-◌, ◌*◌, ◌||◌, ◌==◌, true, false, List, [], ◌∷◌, ◌++◌, inl, inr, ⊎_elim, arith, suc-ne-zero, lit<, lit≤}
use Rattle.event_machine.specs.Machine.{Edge as MachineEdge}
use Rattle.std.specs.Prelude.{nat_le, nat_lt}
use Rattle.std.proofs.lemmas.Bool.{and_parts, or_cases, eqb-true, ltb-true, leb-true, false≢true, both_ways, lt-leb, le-leb, lt-ltb, cases_lt}
use Rattle.event_machine.specs.Cell.{Cell, Values, join, put}
use Rattle.event_machine.specs.Machine.{Negedge, Posedge, wakes}
use Rattle.event_machine.specs.Habit.{Free}
use Rattle.event_machine.specs.MayMove.{MayMove}
use Rattle.event_machine.specs.Early.{IsEarly}
use Rattle.four_state.specs.declared.bit.Bit.{Bit}
use Rattle.four_state.specs.declared.bit.Bit.TheVariants.{One, X, Z, Zero}
use Rattle.design_model.specs.Design.{Thing, a_signal, a_word, body_at, cell, cells, is_memory, thing_bits}
use Rattle.design_model.specs.Execution.{ValueFalse, ValueTrue, at_line, at_node, covers, execution, reads, writes_word}
use Rattle.design_model.specs.Numbered.{Assign}
use Rattle.design_model.specs.Reads.{Agrees, AllInside, HasValue, PartialMap}
use Rattle.design_model.specs.Machine.{is_edge, is_input_cell, machine}
use Rattle.design_model.specs.Points.{line_point, word_point}
use Rattle.design_model.specs.MayMove.{CanWakeSome, IsCleanAt, told_at}
use Rattle.design_model.specs.Early.{IsEarlyAt}
use Rattle.design_model.specs.Clear.{EntryFrom, IsClearBy, IsClockedTarget, IsWrittenValue, LeavesValue, all_writes, bits_after, clear, clear_in, of_assigns, of_clean, of_comb, of_dump, of_unwoken}
use Rattle.design_model.specs.Open.{IsReached, KnownOnEntry}
use Rattle.design_model.specs.Lawful.{is_signal}
use Rattle.design_model.specs.ExampleParts.{at}
use Rattle.design_model.specs.Ram.{IsRamExample, ram, ram_dump, ram_values}
use Rattle.design_model.proofs.Bound.{clear-thing, clear_bound}
use Rattle.design_model.proofs.FlipFlopDoubt.{agrees}
use Rattle.design_model.proofs.WithinMap.{within_blocking, within_by, within_nonblocking}

abbrev unknown : List Bit
unknown = X ∷ X ∷ X ∷ X ∷ []

-- a write to word 3
visits_write : (execution ram (body_at ram 0) (ram_values One One Zero unknown)).visits ≡ at_line 1 ∷ reads (a_signal 1) false ∷ at_node 1 ValueTrue ∷ at_line 2 ∷ reads (a_signal 2) false ∷ reads (a_signal 4) false ∷ writes_word 6 3 ∷ []
visits_write = refl

-- a read of word 3
visits_read : (execution ram (body_at ram 0) (ram_values One Zero Zero (X ∷ X ∷ X ∷ One ∷ []))).visits ≡ at_line 1 ∷ reads (a_signal 1) false ∷ at_node 1 ValueFalse ∷ at_line 3 ∷ reads (a_signal 3) false ∷ reads (a_word 6 3) false ∷ at_node 2 ValueTrue ∷ at_line 4 ∷ []
visits_read = refl

Zero≢One : Zero ≢ One
Zero≢One = grind arith

edge_thing : (e : MachineEdge) (x k : ℕ) → (machine ram).edge 0 e (cell x k) ≡ true → (e ≡ Posedge) × (cell x k ≡ cell 0 0)
edge_thing Posedge x k h =
    let p = and_parts (k == 0) _ h in
    (refl, λ i. record { thing = ⊎_elim (λ e. sym (eqb-true 0 x e)) (λ e. absurd (false≢true e)) (or_cases (0 == x) false p.1) i; place = eqb-true k 0 p.0 i })
edge_thing Negedge x k h = absurd (both_ways _ refl (and_parts (k == 0) false h).1)

-- whoever can wake at a time does so by a rise of clk
rise : (t p : ℕ) → CanWakeSome ram ram_dump t p → is_edge Posedge (ram_dump.values (t - 1) (cell 0 0)) (ram_dump.values t (cell 0 0)) ≡ true
rise t zero w = go (w.1.0.0) (w.0) (edge_thing w.1.0.0 w.0.thing w.0.place w.1.0.1) (w.1.0.2)
  where
    go : (e : MachineEdge) (c : Cell) → (e ≡ Posedge) × (c ≡ cell 0 0) → (((machine ram).is_input c ≡ true) × (ram_dump.bound c.thing ≡ true) → is_edge e (ram_dump.values (t - 1) c) (ram_dump.values t c) ≡ true) → is_edge Posedge (ram_dump.values (t - 1) (cell 0 0)) (ram_dump.values t (cell 0 0)) ≡ true
    go e c both change = at_clk (subst (λ f. ((machine ram).is_input (cell 0 0) ≡ true) × (ram_dump.bound 0 ≡ true) → is_edge f (ram_dump.values (t - 1) (cell 0 0)) (ram_dump.values t (cell 0 0)) ≡ true) both.0 (subst (λ b. ((machine ram).is_input b ≡ true) × (ram_dump.bound b.thing ≡ true) → is_edge e (ram_dump.values (t - 1) b) (ram_dump.values t b) ≡ true) both.1 change))
      where
        at_clk : (((machine ram).is_input (cell 0 0) ≡ true) × (ram_dump.bound 0 ≡ true) → is_edge Posedge (ram_dump.values (t - 1) (cell 0 0)) (ram_dump.values t (cell 0 0)) ≡ true) → is_edge Posedge (ram_dump.values (t - 1) (cell 0 0)) (ram_dump.values t (cell 0 0)) ≡ true
        at_clk f = f (refl, refl)
rise t (suc p) w = absurd (false≢true w.1.0.1)

-- before 5 nothing changes
values_early : (t : ℕ) → t < 5 → ram_dump.values t ≡ ram_values Zero One Zero []
values_early t h = rw (lt-leb 20 t (omega arith), lt-leb 15 t (omega arith), lt-leb 10 t (omega arith), lt-leb 5 t h) refl

asleep_early : (t p : ℕ) → t < 5 → CanWakeSome ram ram_dump t p → ⊥
asleep_early t p h w = false≢true (subst (λ b. is_edge Posedge b Zero ≡ true) (ap (λ v. v (cell 0 0)) (values_early (t - 1) (omega arith))) (subst (λ b. is_edge Posedge (ram_dump.values (t - 1) (cell 0 0)) b ≡ true) (ap (λ v. v (cell 0 0)) (values_early t h)) (rise t p w)))

-- from 6 to 14 clk does not rise
values_high : (t : ℕ) → 5 ≤ t → t < 10 → ram_dump.values t ≡ ram_values One One Zero []
values_high t a b = rw (lt-leb 20 t (omega arith), lt-leb 15 t (omega arith), lt-leb 10 t b, le-leb 5 t a) refl

values_low : (t : ℕ) → 10 ≤ t → t < 15 → ram_dump.values t ≡ ram_values Zero Zero Zero []
values_low t a b = rw (lt-leb 20 t (omega arith), lt-leb 15 t b, le-leb 10 t a) refl

no_edge_from_one : (b : Bit) → is_edge Posedge One b ≡ true → ⊥
no_edge_from_one b h = false≢true h

no_edge_to_zero : (b : Bit) → is_edge Posedge b Zero ≡ true → ⊥
no_edge_to_zero Zero h = false≢true h
no_edge_to_zero One h = false≢true h
no_edge_to_zero X h = false≢true h
no_edge_to_zero Z h = false≢true h

asleep_between : (t p : ℕ) → 5 < t → t < 15 → CanWakeSome ram ram_dump t p → ⊥
asleep_between t p a b w =
    ⊎_elim
    (λ high. no_edge_from_one (ram_dump.values t (cell 0 0)) (subst (λ v. is_edge Posedge (v (cell 0 0)) (ram_dump.values t (cell 0 0)) ≡ true) (values_high (t - 1) (omega arith) (omega arith)) (rise t p w)))
    (λ low. no_edge_to_zero (ram_dump.values (t - 1) (cell 0 0)) (subst (λ v. is_edge Posedge (ram_dump.values (t - 1) (cell 0 0)) (v (cell 0 0)) ≡ true) (values_low t low b) (rise t p w)))
    (cases_lt t 10)

abbrev IsWordThing : Thing → Type 0
IsWordThing (a_signal s) = ⊥
IsWordThing (a_word m i) = Unit {0}

no_word : (s m i : ℕ) → a_signal s ≡ a_word m i → ⊥
no_word s m i e = subst IsWordThing (sym e) tt

-- a word is clear by its old value, or by a write of a block that can wake
by_word : (t : ℕ) (start K : PartialMap) (m i : ℕ) (x : Thing) (bits : List Bit) → IsClearBy ram Free ram_dump t start K x bits → x ≡ a_word m i → start (a_word m i) bits ⊎ ((p : ℕ) × (c : Cell) × CanWakeSome ram ram_dump t p × IsWrittenValue ram Free ram_dump t start p c (a_word m i) bits)
by_word t start K m i x bits (of_dump s w0 is_shown is_bound is_signal is) e = absurd (no_word s m i e)
by_word t start K m i x bits (of_assigns s w0 unbound is) e = absurd (no_word s m i e)
by_word t start K m i x bits (of_comb p s w0 unbound is) e = absurd (no_word s m i e)
by_word t start K m i x bits (of_unwoken p x0 w0 w unbound target still old) e = inl (subst (λ y. start y w0) e old)
by_word t start K m i x bits (of_clean p c x0 w0 w unbound is) e = inr (p, c, (c, is.is_clean.can_wake), subst (λ y. IsWrittenValue ram Free ram_dump t start p c y w0) e is)

in_word : (t : ℕ) (start : PartialMap) (n m i : ℕ) (bits : List Bit) → clear_in ram Free ram_dump t start n (a_word m i) bits → start (a_word m i) bits ⊎ ((p : ℕ) × (c : Cell) × CanWakeSome ram ram_dump t p × IsWrittenValue ram Free ram_dump t start p c (a_word m i) bits)
in_word t start zero m i bits k = absurd k
in_word t start (suc n) m i bits k = by_word t start (clear_in ram Free ram_dump t start n) m i (a_word m i) bits k refl

-- no word is clear before 5
words_before : (t m i : ℕ) (bits : List Bit) → t < 5 → clear ram Free ram_dump t (a_word m i) bits → ⊥
words_before zero m i bits h k = ⊎_elim (λ old. old) (λ new. asleep_early 0 new.0 h new.2) (in_word 0 _ k.0 m i bits k.1)
words_before (suc t) m i bits h k = ⊎_elim (λ old. words_before t m i bits (omega arith) old) (λ new. asleep_early (suc t) new.0 h new.2) (in_word (suc t) _ k.0 m i bits k.1)

below_one : (k : ℕ) → k < 1 → k ≡ 0
below_one k h = omega arith

-- inputs: all but q; at 5 and at 15 only clk moves
input_thing : (x k : ℕ) → is_input_cell ram (cell x k) ≡ true → (cell x k ≡ cell 0 0) ⊎ ((told_at ram_dump 5).old (cell x k) ≡ (told_at ram_dump 5).new (cell x k)) × ((told_at ram_dump 15).old (cell x k) ≡ (told_at ram_dump 15).new (cell x k))
input_thing zero k h = inl (λ i. record { thing = 0; place = below_one k (ltb-true k 1 h) i })
input_thing (suc zero) k h = inr (refl, refl)
input_thing (suc (suc zero)) k h = inr (refl, refl)
input_thing (suc (suc (suc zero))) k h = inr (refl, refl)
input_thing (suc (suc (suc (suc zero)))) k h = inr (refl, refl)
input_thing (suc (suc (suc (suc (suc zero))))) k h = absurd (false≢true h)
input_thing (suc (suc (suc (suc (suc (suc x)))))) k h = absurd (false≢true h)

input_bound : (x k : ℕ) → is_input_cell ram (cell x k) ≡ true → ram_dump.bound x ≡ true
input_bound zero k h = refl
input_bound (suc zero) k h = refl
input_bound (suc (suc zero)) k h = refl
input_bound (suc (suc (suc zero))) k h = refl
input_bound (suc (suc (suc (suc zero)))) k h = refl
input_bound (suc (suc (suc (suc (suc zero))))) k h = absurd (false≢true h)
input_bound (suc (suc (suc (suc (suc (suc x)))))) k h = absurd (false≢true h)

no_blocking : (p : ℕ) (c : Cell) → (machine ram).blocking p c ≡ true → ⊥
no_blocking zero c h = false≢true h
no_blocking (suc p) c h = false≢true h

only_clk : (e : MachineEdge) (c : Cell) → (machine ram).edge 0 e c ≡ true → c ≡ cell 0 0
only_clk e c h = (edge_thing e c.thing c.place h).1

-- the block is clean at 5 and at 15
clean_5 : IsCleanAt ram ram_dump 5 0 (cell 0 0)
clean_5 =
    record {
      clocked = λ x. refl;
      can_wake = ((Posedge, refl, λ s. refl), MayMove.of_input (cell 0 0) (refl, λ s. Zero≢One));
      alone = λ c wakes. only_clk wakes.0.0 c wakes.0.1;
      is_single = (refl, refl);
    }

clean_15 : IsCleanAt ram ram_dump 15 0 (cell 0 0)
clean_15 =
    record {
      clocked = λ x. refl;
      can_wake = ((Posedge, refl, λ s. refl), MayMove.of_input (cell 0 0) (refl, λ s. Zero≢One));
      alone = λ c wakes. only_clk wakes.0.0 c wakes.0.1;
      is_single = (refl, refl);
    }

none_early_5 : (x : ℕ) → IsEarlyAt ram Free ram_dump 5 0 (cell 0 0) x → ⊥
none_early_5 x (IsEarly.of_input c moving free other) = ⊎_elim (λ e. other (ap (λ y. y.thing) e)) (λ e. moving.1 (input_bound c.thing c.place moving.0) e.0) (input_thing c.thing c.place moving.0)
none_early_5 x (IsEarly.of_trigger p c stirs other blocks away) = no_blocking p c blocks
none_early_5 x (IsEarly.of_blocking y p c is stirs other blocks away) = no_blocking p c blocks
none_early_5 x (IsEarly.of_nonblocking y p c is stirs queues away) = none_early_5 y is

none_early_15 : (x : ℕ) → IsEarlyAt ram Free ram_dump 15 0 (cell 0 0) x → ⊥
none_early_15 x (IsEarly.of_input c moving free other) = ⊎_elim (λ e. other (ap (λ y. y.thing) e)) (λ e. moving.1 (input_bound c.thing c.place moving.0) e.1) (input_thing c.thing c.place moving.0)
none_early_15 x (IsEarly.of_trigger p c stirs other blocks away) = no_blocking p c blocks
none_early_15 x (IsEarly.of_blocking y p c is stirs other blocks away) = no_blocking p c blocks
none_early_15 x (IsEarly.of_nonblocking y p c is stirs queues away) = none_early_15 y is

abbrev owner_of : Thing → ℕ
owner_of (a_signal s) = s
owner_of (a_word m i) = m

-- what the block knows on entry at 5
abbrev entry_5 : PartialMap
entry_5 = EntryFrom ram Free ram_dump 5 (clear ram Free ram_dump 4) 0 (cell 0 0)

abbrev clear_4 : PartialMap
clear_4 = clear ram Free ram_dump 4

-- for a thing that is not the trigger the entry has what was clear
old_5 : (x : Thing) (bits : List Bit) → entry_5 x bits → x ≢ a_signal 0 → clear_4 x bits
old_5 x bits (inl new) other = absurd (other new.0)
old_5 x bits (inr old) other = old.2

signal_ne : (s : ℕ) → a_signal (suc s) ≢ a_signal 0
signal_ne s e = suc-ne-zero s (ap owner_of e)

agrees_5 : (words : List Bit) → Agrees ram entry_5 (ram_values One One Zero words)
agrees_5 words (a_signal zero) bits (inl new) = sym new.1
agrees_5 words (a_signal zero) bits (inr old) = absurd (old.0 refl)
agrees_5 words (a_signal (suc zero)) bits k = sym (clear_bound ram Free ram_dump 4 1 bits (old_5 _ bits k (signal_ne 0)) refl)
agrees_5 words (a_signal (suc (suc zero))) bits k = sym (clear_bound ram Free ram_dump 4 2 bits (old_5 _ bits k (signal_ne 1)) refl)
agrees_5 words (a_signal (suc (suc (suc zero)))) bits k = sym (clear_bound ram Free ram_dump 4 3 bits (old_5 _ bits k (signal_ne 2)) refl)
agrees_5 words (a_signal (suc (suc (suc (suc zero))))) bits k = sym (clear_bound ram Free ram_dump 4 4 bits (old_5 _ bits k (signal_ne 3)) refl)
agrees_5 words (a_signal (suc (suc (suc (suc (suc zero)))))) bits k = sym (clear_bound ram Free ram_dump 4 5 bits (old_5 _ bits k (signal_ne 4)) refl)
agrees_5 words (a_signal (suc (suc (suc (suc (suc (suc s))))))) bits k = absurd (omega (arith, clear-thing ram Free ram_dump 4 (a_signal (suc (suc (suc (suc (suc (suc s))))))) bits (old_5 _ bits k (signal_ne (suc (suc (suc (suc (suc s)))))))))
agrees_5 words (a_word m i) bits k = absurd (words_before 4 m i bits (lit< tt) (old_5 (a_word m i) bits k (λ e. no_word 0 m i (sym e))))

-- a bound signal is known on entry
known_5 : (s : ℕ) → s < 5 → HasValue entry_5 (a_signal (suc s))
known_5 s h = (_, inr (signal_ne s, none_early_5 (suc s), (1, of_dump (suc s) _ (lit≤ tt, lit< tt) (lt-ltb (suc s) 6 (omega arith)) (omega arith) refl)))

inside_5 : AllInside entry_5 (execution ram (body_at ram 0) (ram_values One One Zero unknown)).visits
inside_5 = (tt, (known_5 0 (lit< tt), (tt, (tt, (known_5 1 (lit< tt), (known_5 3 (lit< tt), (tt, tt)))))))

word_3 : IsClockedTarget ram 0 (a_word 6 3)
word_3 = record { is_thing = (refl, lit≤ tt, lit≤ tt); is_clocked = tt; target = refl }

-- the words of m after the block's execution, on all values that agree
writes_5 : (v : Values Bit) → Agrees ram entry_5 v → all_writes (execution ram (body_at ram 0) v) ≡ record { cell = cell 6 3; value = One } ∷ []
writes_5 v agrees =
    let e = within_blocking ram entry_5 (body_at ram 0) (ram_values One One Zero unknown) v (agrees_5 unknown) agrees inside_5 in
    let f = within_nonblocking ram entry_5 (body_at ram 0) (ram_values One One Zero unknown) v (agrees_5 unknown) agrees inside_5 in
    sym (subst (λ ws. record { cell = cell 6 3; value = One } ∷ [] ≡ ws ++ join (execution ram (body_at ram 0) v).nonblocking) e (subst (λ us. record { cell = cell 6 3; value = One } ∷ [] ≡ [] ++ join us) f refl))

-- word 3 is clear at 5, with the value 1
pub clear_5 : clear ram Free ram_dump 5 (a_word 6 3) (One ∷ [])
unfolding put
clear_5 = (
  1,
  of_clean 0 (cell 0 0) (a_word 6 3) (One ∷ []) (lit< tt, lit< tt) tt
      (record {
        writer = word_3;
        is_clean = clean_5;
        within = within_by ram entry_5 (body_at ram 0) (ram_values One One Zero unknown) (agrees_5 unknown) inside_5;
        gives = λ v agrees. subst (λ ws. LeavesValue ram clear_4 v ws (a_word 6 3) (One ∷ [])) (sym (writes_5 v agrees)) (record { decided = inl refl; is = λ old h. refl });
      }),
)

-- and stays so while the block does not wake
keep : (t : ℕ) → 5 ≤ t → suc t < 15 → clear ram Free ram_dump t (a_word 6 3) (One ∷ []) → clear ram Free ram_dump (suc t) (a_word 6 3) (One ∷ [])
keep t a b before = (1, of_unwoken 0 (a_word 6 3) (One ∷ []) (omega arith, omega arith) tt word_3 (asleep_between (suc t) 0 (omega arith) b) before)

pub clear_14 : clear ram Free ram_dump 14 (a_word 6 3) (One ∷ [])
clear_14 = go 13 (go 12 (go 11 (go 10 (go 9 (go 8 (go 7 (go 6 (go 5 clear_5 (lit≤ tt) (lit< tt)) (lit≤ tt) (lit< tt)) (lit≤ tt) (lit< tt)) (lit≤ tt) (lit< tt)) (lit≤ tt) (lit< tt)) (lit≤ tt) (lit< tt)) (lit≤ tt) (lit< tt)) (lit≤ tt) (lit< tt)) (lit≤ tt) (lit< tt)
  where
    go : (t : ℕ) → clear ram Free ram_dump t (a_word 6 3) (One ∷ []) → 5 ≤ t → suc t < 15 → clear ram Free ram_dump (suc t) (a_word 6 3) (One ∷ [])
    go t before a b = keep t a b before

-- a word that is written at 5 is word 3, and its value is 1
covered_3 : (i : ℕ) → covers (record { cell = cell 6 3; value = One } ∷ []) (cells ram (a_word 6 i)) ≡ true → i ≡ 3
covered_3 i h = let e : 3 ≡ i * 1 + 0 = eqb-true 3 (i * 1 + 0) (⊎_elim (λ x. x) (λ x. absurd (false≢true x)) (or_cases (3 == (i * 1 + 0)) false (and_parts ((3 == (i * 1 + 0)) || false) true h).0)) in omega (arith, e)

after_3 : (bits : List Bit) → ((old : Values Bit) → ((w : List Bit) → clear_4 (a_word 6 3) w → thing_bits ram old (a_word 6 3) ≡ w) → bits_after ram old (record { cell = cell 6 3; value = One } ∷ []) (a_word 6 3) ≡ bits) → One ∷ [] ≡ bits
unfolding put
after_3 bits h = h (ram_values One One Zero unknown) (λ w k. absurd (words_before 4 6 3 w (lit< tt) k))

left_5 : (i : ℕ) (bits : List Bit) → LeavesValue ram clear_4 (ram_values One One Zero unknown) (record { cell = cell 6 3; value = One } ∷ []) (a_word 6 i) bits → (i ≡ 3) × (bits ≡ One ∷ [])
left_5 i bits is = (three, sym (after_3 bits (subst (λ j. (old : Values Bit) → ((w : List Bit) → clear_4 (a_word 6 j) w → thing_bits ram old (a_word 6 j) ≡ w) → bits_after ram old (record { cell = cell 6 3; value = One } ∷ []) (a_word 6 j) ≡ bits) three is.is)))
  where
    three : i ≡ 3
    three = ⊎_elim (covered_3 i) (λ old. absurd (words_before 4 6 i old.0 (lit< tt) old.1)) is.decided

memory_6 : (m : ℕ) → is_memory ram m ≡ true → m ≡ 6
memory_6 m h = let p = and_parts (nat_le 6 m) (nat_lt m 7) h in omega (arith, leb-true 6 m p.0, ltb-true m 7 p.1)

written_5 : (p : ℕ) (c : Cell) (m i : ℕ) (bits : List Bit) → CanWakeSome ram ram_dump 5 p → IsWrittenValue ram Free ram_dump 5 clear_4 p c (a_word m i) bits → (a_word m i ≡ a_word 6 3) × (bits ≡ One ∷ [])
written_5 (suc p) c m i bits wakes is = absurd (false≢true is.is_clean.can_wake.0.1)
written_5 zero c m i bits wakes is =
    let six : m ≡ 6 = memory_6 m is.writer.is_thing.0 in
    let at_clk : IsWrittenValue ram Free ram_dump 5 clear_4 0 (cell 0 0) (a_word 6 i) bits = subst (λ n. IsWrittenValue ram Free ram_dump 5 clear_4 0 (cell 0 0) (a_word n i) bits) six (subst (λ b. IsWrittenValue ram Free ram_dump 5 clear_4 0 b (a_word m i) bits) (only_clk is.is_clean.can_wake.0.0 c is.is_clean.can_wake.0.1) is) in
    let left = left_5 i bits (at_clk.gives (ram_values One One Zero unknown) (agrees_5 unknown)) in
    (ap (λ n. a_word n i) six ∙ ap (a_word 6) left.0, left.1)

-- from 5 on to 14 only word 3 is clear, with the value 1
pub word_value : (k m i : ℕ) (bits : List Bit) → k < 10 → clear ram Free ram_dump (suc (suc (suc (suc (suc k))))) (a_word m i) bits → (a_word m i ≡ a_word 6 3) × (bits ≡ One ∷ [])
word_value zero m i bits h k = ⊎_elim (λ old. absurd (words_before 4 m i bits (lit< tt) old)) (λ new. written_5 new.0 new.1 m i bits new.2 new.3) (in_word 5 clear_4 k.0 m i bits k.1)
word_value (suc n) m i bits h k =
    ⊎_elim (λ old. word_value n m i bits (omega arith) old) (λ new. absurd (asleep_between (suc (suc (suc (suc (suc (suc n)))))) new.0 (omega arith) (omega arith) new.2)) (in_word (suc (suc (suc (suc (suc (suc n)))))) (clear ram Free ram_dump (suc (suc (suc (suc (suc n)))))) k.0 m i bits k.1)

-- what the block knows on entry at 15
abbrev entry_15 : PartialMap
entry_15 = KnownOnEntry ram Free ram_dump 15 0

old_15 : (x : Thing) (bits : List Bit) → entry_15 x bits → x ≢ a_signal 0 → clear ram Free ram_dump 14 x bits
old_15 x bits k other = go k.2
  where
    go : EntryFrom ram Free ram_dump 15 (clear ram Free ram_dump 14) 0 k.0 x bits → clear ram Free ram_dump 14 x bits
    go (inl new) = absurd (other (new.0 ∙ ap (λ b. a_signal b.thing) (only_clk k.1.can_wake.0.0 k.0 k.1.can_wake.0.1)))
    go (inr old) = old.2

new_15 : (bits : List Bit) → entry_15 (a_signal 0) bits → One ∷ [] ≡ bits
new_15 bits k = go k.2
  where
    go : EntryFrom ram Free ram_dump 15 (clear ram Free ram_dump 14) 0 k.0 (a_signal 0) bits → One ∷ [] ≡ bits
    go (inl new) = sym new.1
    go (inr old) = absurd (old.0 (ap (λ b. a_signal b.thing) (sym (only_clk k.1.can_wake.0.0 k.0 k.1.can_wake.0.1))))

abbrev values_15 : Values Bit
values_15 = ram_values One Zero Zero (X ∷ X ∷ X ∷ One ∷ [])

agrees_15 : Agrees ram entry_15 values_15
agrees_15 (a_signal zero) bits k = new_15 bits k
agrees_15 (a_signal (suc zero)) bits k = sym (clear_bound ram Free ram_dump 14 1 bits (old_15 _ bits k (signal_ne 0)) refl)
agrees_15 (a_signal (suc (suc zero))) bits k = sym (clear_bound ram Free ram_dump 14 2 bits (old_15 _ bits k (signal_ne 1)) refl)
agrees_15 (a_signal (suc (suc (suc zero)))) bits k = sym (clear_bound ram Free ram_dump 14 3 bits (old_15 _ bits k (signal_ne 2)) refl)
agrees_15 (a_signal (suc (suc (suc (suc zero))))) bits k = sym (clear_bound ram Free ram_dump 14 4 bits (old_15 _ bits k (signal_ne 3)) refl)
agrees_15 (a_signal (suc (suc (suc (suc (suc zero)))))) bits k = sym (clear_bound ram Free ram_dump 14 5 bits (old_15 _ bits k (signal_ne 4)) refl)
agrees_15 (a_signal (suc (suc (suc (suc (suc (suc s))))))) bits k = absurd (omega (arith, clear-thing ram Free ram_dump 14 (a_signal (suc (suc (suc (suc (suc (suc s))))))) bits (old_15 _ bits k (signal_ne (suc (suc (suc (suc (suc s)))))))))
agrees_15 (a_word m i) bits k =
    let is = word_value 9 m i bits (lit< tt) (old_15 (a_word m i) bits k (λ e. no_word 0 m i (sym e))) in
    subst (λ x. thing_bits ram values_15 x ≡ bits) (sym is.0) (sym is.1)

known_15 : (s : ℕ) → s < 5 → HasValue entry_15 (a_signal (suc s))
known_15 s h = (_, (cell 0 0, clean_15, inr (signal_ne s, none_early_15 (suc s), (1, of_dump (suc s) _ (lit≤ tt, lit< tt) (lt-ltb (suc s) 6 (omega arith)) (omega arith) refl))))

known_word : HasValue entry_15 (a_word 6 3)
known_word = (One ∷ [], (cell 0 0, clean_15, inr ((λ e. no_word 0 6 3 (sym e)), none_early_15 6, clear_14)))

-- at 15 the block reaches the read of word 3, and line 4
pub reached_read : IsReached ram Free ram_dump 15 0 (word_point 6 3 false)
reached_read = ((lit< tt, lit< tt), refl, inl (cell 0 0, clean_15, inl (reads (a_word 6 3) false, (false, refl), (values_15, agrees_15, inr (tt, inr (known_15 0 (lit< tt), inr (tt, inr (tt, inr (known_15 2 (lit< tt), inl refl)))))))))

pub reached_4 : IsReached ram Free ram_dump 15 0 (line_point 0 4 (at 30) Assign)
reached_4 = ((lit< tt, lit< tt), refl, inl (cell 0 0, clean_15, inl (at_line 4, refl, (values_15, agrees_15, inr (tt, inr (known_15 0 (lit< tt), inr (tt, inr (tt, inr (known_15 2 (lit< tt), inr (known_word, inr (tt, inl refl)))))))))))

pub ram_example : IsRamExample
ram_example = record { written = clear_5; kept = clear_14; no_other = word_value; reached_read = reached_read; reached_line = reached_4 }
