-- Which words of the memory are never clear, and what the block knows when it reads one.
use Rattle.std.proofs.Common.{◌≡◌, ◌≢◌, ◌⊎◌, refl, sym, ap, subst, ◌∙◌, ℕ, zero, suc, ◌<◌, ◌≤◌, ◌-◌, ◌==◌, true, false, List, [], ◌∷◌, inl, inr, ⊎_elim, arith, suc-ne-zero, lit<, lit≤}
use Rattle.std.specs.Prelude.{nat_le, nat_lt}
use Rattle.std.proofs.lemmas.Bool.{and_parts, cases_lt, false≢true, le-leb, leb-true, lt-leb, lt-ltb, ltb-true}
use Rattle.event_machine.specs.Cell.{Cell}
use Rattle.event_machine.specs.Machine.{Edge, Negedge, Posedge}
use Rattle.event_machine.specs.Habit.{Free, Habit}
use Rattle.event_machine.specs.MayMove.{MayMove}
use Rattle.event_machine.specs.Early.{IsEarly}
use Rattle.four_state.specs.declared.bit.Bit.{Bit}
use Rattle.four_state.specs.declared.bit.Bit.TheVariants.{One, X, Z, Zero}
use Rattle.design_model.specs.Design.{Thing, a_signal, a_word, body_at, cell, cells, is_memory, thing_bits}
use Rattle.design_model.specs.Execution.{covers, execution}
use Rattle.design_model.specs.Reads.{Agrees, HasValue, PartialMap}
use Rattle.design_model.specs.Machine.{is_edge, is_input_cell, machine}
use Rattle.design_model.specs.MayMove.{CanWakeSome, IsCleanAt, told_at}
use Rattle.design_model.specs.Early.{IsEarlyAt}
use Rattle.design_model.specs.Clear.{EntryFrom, IsClearBy, IsWrittenValue, LeavesValue, all_writes, clear, clear_before, clear_in, of_assigns, of_clean, of_comb, of_dump, of_unwoken}
use Rattle.design_model.specs.Open.{KnownOnEntry}
use Rattle.design_model.specs.Ram.{ram}
use Rattle.design_model.proofs.Bound.{clear-thing, clear_bound}
use Rattle.worked_examples.specs.Design.Unread.{words_dump, words_values}
use Rattle.worked_examples.proofs.Design.OneSet.{one_rise}
use Rattle.worked_examples.proofs.Design.Parts.{Zero≢One, thing_of}

abbrev IsWordThing : Thing → Type 0
IsWordThing (a_signal s) = ⊥
IsWordThing (a_word m i) = Unit {0}

pub no_word : (s m i : ℕ) → a_signal s ≡ a_word m i → ⊥
no_word s m i e = subst IsWordThing (sym e) tt

signal_ne : (s : ℕ) → a_signal (suc s) ≢ a_signal 0
signal_ne s e = suc-ne-zero s (ap thing_of e)

memory_6 : (m : ℕ) → is_memory ram m ≡ true → m ≡ 6
memory_6 m h = let p = and_parts (nat_le 6 m) (nat_lt m 7) h in omega (arith, leb-true 6 m p.0, ltb-true m 7 p.1)

no_edge_from_one : (b : Bit) → is_edge Posedge One b ≡ true → ⊥
no_edge_from_one b h = false≢true h

no_edge_to_zero : (b : Bit) → is_edge Posedge b Zero ≡ true → ⊥
no_edge_to_zero Zero h = false≢true h
no_edge_to_zero One h = false≢true h
no_edge_to_zero X h = false≢true h
no_edge_to_zero Z h = false≢true h

no_blocking : (p : ℕ) (c : Cell) → (machine ram).blocking p c ≡ true → ⊥
no_blocking zero c h = false≢true h
no_blocking (suc p) c h = false≢true h

below_one : (k : ℕ) → k < 1 → k ≡ 0
below_one k h = omega arith

module _ (wa ra : List Bit) where
  -- the clock at each time
  values_early : (t : ℕ) → t < 5 → (words_dump wa ra).values t ≡ words_values Zero One wa ra Zero []
  values_early t h = rw (lt-leb 20 t (omega arith), lt-leb 15 t (omega arith), lt-leb 10 t (omega arith), lt-leb 5 t h) refl

  values_high : (t : ℕ) → 5 ≤ t → t < 10 → (words_dump wa ra).values t ≡ words_values One One wa ra Zero []
  values_high t a b = rw (lt-leb 20 t (omega arith), lt-leb 15 t (omega arith), lt-leb 10 t b, le-leb 5 t a) refl

  values_low : (t : ℕ) → 10 ≤ t → t < 15 → (words_dump wa ra).values t ≡ words_values Zero Zero wa ra Zero []
  values_low t a b = rw (lt-leb 20 t (omega arith), lt-leb 15 t b, le-leb 10 t a) refl

  -- whoever can wake at a time does so by a rise of clk
  rise : (t p : ℕ) → CanWakeSome ram (words_dump wa ra) t p → is_edge Posedge ((words_dump wa ra).values (t - 1) (cell 0 0)) ((words_dump wa ra).values t (cell 0 0)) ≡ true
  rise t zero w = go w.1.0.0 w.0 (one_rise 0 w.1.0.0 w.0 w.1.0.1) w.1.0.1 w.1.0.2
    where
      go : (e : Edge) (c : Cell) → c ≡ cell 0 0 → (machine ram).edge 0 e c ≡ true → (((machine ram).is_input c ≡ true) × ((words_dump wa ra).bound c.thing ≡ true) → is_edge e ((words_dump wa ra).values (t - 1) c) ((words_dump wa ra).values t c) ≡ true) → is_edge Posedge ((words_dump wa ra).values (t - 1) (cell 0 0)) ((words_dump wa ra).values t (cell 0 0)) ≡ true
      go Posedge c is lists change = (subst (λ b. ((machine ram).is_input b ≡ true) × ((words_dump wa ra).bound b.thing ≡ true) → is_edge Posedge ((words_dump wa ra).values (t - 1) b) ((words_dump wa ra).values t b) ≡ true) is change) (refl, refl)
      go Negedge c is lists change = absurd (false≢true (and_parts (c.place == 0) false lists).1)
  rise t (suc p) w = absurd (false≢true w.1.0.1)

  asleep_early : (t p : ℕ) → t < 5 → CanWakeSome ram (words_dump wa ra) t p → ⊥
  asleep_early t p h w = false≢true (subst (λ b. is_edge Posedge b Zero ≡ true) (ap (λ v. v (cell 0 0)) (values_early (t - 1) (omega arith))) (subst (λ b. is_edge Posedge ((words_dump wa ra).values (t - 1) (cell 0 0)) b ≡ true) (ap (λ v. v (cell 0 0)) (values_early t h)) (rise t p w)))

  asleep_between : (t p : ℕ) → 5 < t → t < 15 → CanWakeSome ram (words_dump wa ra) t p → ⊥
  asleep_between t p a b w =
      ⊎_elim
      (λ high. no_edge_from_one ((words_dump wa ra).values t (cell 0 0)) (subst (λ v. is_edge Posedge (v (cell 0 0)) ((words_dump wa ra).values t (cell 0 0)) ≡ true) (values_high (t - 1) (omega arith) (omega arith)) (rise t p w)))
      (λ low. no_edge_to_zero ((words_dump wa ra).values (t - 1) (cell 0 0)) (subst (λ v. is_edge Posedge ((words_dump wa ra).values (t - 1) (cell 0 0)) (v (cell 0 0)) ≡ true) (values_low t low b) (rise t p w)))
      (cases_lt t 10)

  -- a word is clear by its old value, or by a write of a block that can wake
  by_word : (t : ℕ) (start K : PartialMap) (m i : ℕ) (x : Thing) (bits : List Bit) → IsClearBy ram Free (words_dump wa ra) t start K x bits → x ≡ a_word m i → start (a_word m i) bits ⊎ ((p : ℕ) × (c : Cell) × CanWakeSome ram (words_dump wa ra) t p × IsWrittenValue ram Free (words_dump wa ra) t start p c (a_word m i) bits)
  by_word t start K m i x bits (of_dump s w0 is_shown is_bound is_signal is) e = absurd (no_word s m i e)
  by_word t start K m i x bits (of_assigns s w0 unbound is) e = absurd (no_word s m i e)
  by_word t start K m i x bits (of_comb p s w0 unbound is) e = absurd (no_word s m i e)
  by_word t start K m i x bits (of_unwoken p x0 w0 w unbound target still old) e = inl (subst (λ y. start y w0) e old)
  by_word t start K m i x bits (of_clean p c x0 w0 w unbound is) e = inr (p, c, (c, is.is_clean.can_wake), subst (λ y. IsWrittenValue ram Free (words_dump wa ra) t start p c y w0) e is)

  in_word : (t : ℕ) (start : PartialMap) (n m i : ℕ) (bits : List Bit) → clear_in ram Free (words_dump wa ra) t start n (a_word m i) bits → start (a_word m i) bits ⊎ ((p : ℕ) × (c : Cell) × CanWakeSome ram (words_dump wa ra) t p × IsWrittenValue ram Free (words_dump wa ra) t start p c (a_word m i) bits)
  in_word t start zero m i bits k = absurd k
  in_word t start (suc n) m i bits k = by_word t start (clear_in ram Free (words_dump wa ra) t start n) m i (a_word m i) bits k refl

  -- no word is clear before 5
  pub words_before : (t m i : ℕ) (bits : List Bit) → t < 5 → clear ram Free (words_dump wa ra) t (a_word m i) bits → ⊥
  words_before zero m i bits h k = ⊎_elim (λ old. old) (λ new. asleep_early 0 new.0 h new.2) (in_word 0 _ k.0 m i bits k.1)
  words_before (suc t) m i bits h k = ⊎_elim (λ old. words_before t m i bits (omega arith) old) (λ new. asleep_early (suc t) new.0 h new.2) (in_word (suc t) _ k.0 m i bits k.1)

  -- at 5 and at 15 the clock alone moves
  moving_5 : (x k : ℕ) → is_input_cell ram (cell x k) ≡ true → ((words_dump wa ra).bound x ≡ true → (told_at (words_dump wa ra) 5).old (cell x k) ≢ (told_at (words_dump wa ra) 5).new (cell x k)) → x ≢ 0 → ⊥
  moving_5 zero k h moves ne = ne refl
  moving_5 (suc zero) k h moves ne = moves refl refl
  moving_5 (suc (suc zero)) k h moves ne = moves refl refl
  moving_5 (suc (suc (suc zero))) k h moves ne = moves refl refl
  moving_5 (suc (suc (suc (suc zero)))) k h moves ne = moves refl refl
  moving_5 (suc (suc (suc (suc (suc zero))))) k h moves ne = false≢true h
  moving_5 (suc (suc (suc (suc (suc (suc x)))))) k h moves ne = false≢true h

  moving_15 : (x k : ℕ) → is_input_cell ram (cell x k) ≡ true → ((words_dump wa ra).bound x ≡ true → (told_at (words_dump wa ra) 15).old (cell x k) ≢ (told_at (words_dump wa ra) 15).new (cell x k)) → x ≢ 0 → ⊥
  moving_15 zero k h moves ne = ne refl
  moving_15 (suc zero) k h moves ne = moves refl refl
  moving_15 (suc (suc zero)) k h moves ne = moves refl refl
  moving_15 (suc (suc (suc zero))) k h moves ne = moves refl refl
  moving_15 (suc (suc (suc (suc zero)))) k h moves ne = moves refl refl
  moving_15 (suc (suc (suc (suc (suc zero))))) k h moves ne = false≢true h
  moving_15 (suc (suc (suc (suc (suc (suc x)))))) k h moves ne = false≢true h

  none_early_5 : (h : Habit) (x : ℕ) → IsEarlyAt ram h (words_dump wa ra) 5 0 (cell 0 0) x → ⊥
  none_early_5 h x (IsEarly.of_input c moving free other) = moving_5 c.thing c.place moving.0 moving.1 other
  none_early_5 h x (IsEarly.of_trigger p c stirs other blocks away) = no_blocking p c blocks
  none_early_5 h x (IsEarly.of_blocking y p c is stirs other blocks away) = no_blocking p c blocks
  none_early_5 h x (IsEarly.of_nonblocking y p c is stirs queues away) = none_early_5 h y is

  pub none_early_15 : (h : Habit) (x : ℕ) → IsEarlyAt ram h (words_dump wa ra) 15 0 (cell 0 0) x → ⊥
  none_early_15 h x (IsEarly.of_input c moving free other) = moving_15 c.thing c.place moving.0 moving.1 other
  none_early_15 h x (IsEarly.of_trigger p c stirs other blocks away) = no_blocking p c blocks
  none_early_15 h x (IsEarly.of_blocking y p c is stirs other blocks away) = no_blocking p c blocks
  none_early_15 h x (IsEarly.of_nonblocking y p c is stirs queues away) = none_early_15 h y is

  -- the block is clean at 5 and at 15
  pub clean_5 : IsCleanAt ram (words_dump wa ra) 5 0 (cell 0 0)
  clean_5 =
      record {
        clocked = λ x. refl;
        can_wake = ((Posedge, refl, λ s. refl), MayMove.of_input (cell 0 0) (refl, λ s. Zero≢One));
        alone = λ c wakes. one_rise 0 wakes.0.0 c wakes.0.1;
        is_single = (refl, refl);
      }

  pub clean_15 : IsCleanAt ram (words_dump wa ra) 15 0 (cell 0 0)
  clean_15 =
      record {
        clocked = λ x. refl;
        can_wake = ((Posedge, refl, λ s. refl), MayMove.of_input (cell 0 0) (refl, λ s. Zero≢One));
        alone = λ c wakes. one_rise 0 wakes.0.0 c wakes.0.1;
        is_single = (refl, refl);
      }

  only : (t : ℕ) (e : Cell) → IsCleanAt ram (words_dump wa ra) t 0 e → e ≡ cell 0 0
  only t e clean = one_rise 0 clean.can_wake.0.0 e clean.can_wake.0.1

  -- what a map that a clean block reads has, besides the trigger
  old_of : (t : ℕ) (start : PartialMap) (x : Thing) (bits : List Bit) → EntryFrom ram Free (words_dump wa ra) t start 0 (cell 0 0) x bits → x ≢ a_signal 0 → start x bits
  old_of t start x bits (inl new) other = absurd (other new.0)
  old_of t start x bits (inr old) other = old.2

  -- on entry at 5
  pub agrees_5 : Agrees ram (EntryFrom ram Free (words_dump wa ra) 5 (clear ram Free (words_dump wa ra) 4) 0 (cell 0 0)) (words_values One One wa ra Zero [])
  agrees_5 (a_signal zero) bits (inl new) = sym new.1
  agrees_5 (a_signal zero) bits (inr old) = absurd (old.0 refl)
  agrees_5 (a_signal (suc zero)) bits k = sym (clear_bound ram Free (words_dump wa ra) 4 1 bits (old_of 5 (clear ram Free (words_dump wa ra) 4) _ bits k (signal_ne 0)) refl)
  agrees_5 (a_signal (suc (suc zero))) bits k = sym (clear_bound ram Free (words_dump wa ra) 4 2 bits (old_of 5 (clear ram Free (words_dump wa ra) 4) _ bits k (signal_ne 1)) refl)
  agrees_5 (a_signal (suc (suc (suc zero)))) bits k = sym (clear_bound ram Free (words_dump wa ra) 4 3 bits (old_of 5 (clear ram Free (words_dump wa ra) 4) _ bits k (signal_ne 2)) refl)
  agrees_5 (a_signal (suc (suc (suc (suc zero))))) bits k = sym (clear_bound ram Free (words_dump wa ra) 4 4 bits (old_of 5 (clear ram Free (words_dump wa ra) 4) _ bits k (signal_ne 3)) refl)
  agrees_5 (a_signal (suc (suc (suc (suc (suc zero)))))) bits k = sym (clear_bound ram Free (words_dump wa ra) 4 5 bits (old_of 5 (clear ram Free (words_dump wa ra) 4) _ bits k (signal_ne 4)) refl)
  agrees_5 (a_signal (suc (suc (suc (suc (suc (suc s))))))) bits k = absurd (omega (arith, clear-thing ram Free (words_dump wa ra) 4 (a_signal (suc (suc (suc (suc (suc (suc s))))))) bits (old_of 5 (clear ram Free (words_dump wa ra) 4) _ bits k (signal_ne (suc (suc (suc (suc (suc s)))))))))
  agrees_5 (a_word m i) bits k = absurd (words_before 4 m i bits (lit< tt) (old_of 5 (clear ram Free (words_dump wa ra) 4) (a_word m i) bits k (λ e. no_word 0 m i (sym e))))

  pub knows_5 : Agrees ram (KnownOnEntry ram Free (words_dump wa ra) 5 0) (words_values One One wa ra Zero [])
  knows_5 x bits k = agrees_5 x bits (subst (λ e. EntryFrom ram Free (words_dump wa ra) 5 (clear ram Free (words_dump wa ra) 4) 0 e x bits) (only 5 k.0 k.1) k.2)

  -- a bound signal is known on entry
  pub has_5 : (s : ℕ) → s < 5 → HasValue (KnownOnEntry ram Free (words_dump wa ra) 5 0) (a_signal (suc s))
  has_5 s h = (_, (cell 0 0, clean_5, inr (signal_ne s, none_early_5 Free (suc s), (1, of_dump (suc s) _ (lit≤ tt, lit< tt) (lt-ltb (suc s) 6 (omega arith)) (omega arith) refl))))

  pub has_15 : (s : ℕ) → s < 5 → HasValue (KnownOnEntry ram Free (words_dump wa ra) 15 0) (a_signal (suc s))
  has_15 s h = (_, (cell 0 0, clean_15, inr (signal_ne s, none_early_15 Free (suc s), (1, of_dump (suc s) _ (lit≤ tt, lit< tt) (lt-ltb (suc s) 6 (omega arith)) (omega arith) refl))))

  pub knows_we : KnownOnEntry ram Free (words_dump wa ra) 15 0 (a_signal 1) (Zero ∷ [])
  knows_we = (cell 0 0, clean_15, inr (signal_ne 0, none_early_15 Free 1, (1, of_dump 1 (Zero ∷ []) (lit≤ tt, lit< tt) refl (lit< tt) refl)))

  -- a written word has the value that the execution at 5 leaves
  left_5 : (p : ℕ) (c : Cell) (i : ℕ) (bits : List Bit) → IsWrittenValue ram Free (words_dump wa ra) 5 (clear ram Free (words_dump wa ra) 4) p c (a_word 6 i) bits → LeavesValue ram (clear ram Free (words_dump wa ra) 4) (words_values One One wa ra Zero []) (all_writes (execution ram (body_at ram 0) (words_values One One wa ra Zero []))) (a_word 6 i) bits
  left_5 zero c i bits w = w.gives (words_values One One wa ra Zero []) (subst (λ e. Agrees ram (EntryFrom ram Free (words_dump wa ra) 5 (clear ram Free (words_dump wa ra) 4) 0 e) (words_values One One wa ra Zero [])) (sym (only 5 c w.is_clean)) agrees_5)
  left_5 (suc p) c i bits w = absurd w.writer.is_clocked

  -- a word is clear at 14 only as it was left at 5
  pub word_at_14 : (i : ℕ) (bits : List Bit) → clear ram Free (words_dump wa ra) 14 (a_word 6 i) bits → LeavesValue ram (clear ram Free (words_dump wa ra) 4) (words_values One One wa ra Zero []) (all_writes (execution ram (body_at ram 0) (words_values One One wa ra Zero []))) (a_word 6 i) bits
  word_at_14 i bits k = go 9 (lit< tt) k
    where
      go : (n : ℕ) → n < 10 → clear ram Free (words_dump wa ra) (suc (suc (suc (suc (suc n))))) (a_word 6 i) bits → LeavesValue ram (clear ram Free (words_dump wa ra) 4) (words_values One One wa ra Zero []) (all_writes (execution ram (body_at ram 0) (words_values One One wa ra Zero []))) (a_word 6 i) bits
      go zero h k = ⊎_elim (λ old. absurd (words_before 4 6 i bits (lit< tt) old)) (λ new. left_5 new.0 new.1 i bits new.3) (in_word 5 _ k.0 6 i bits k.1)
      go (suc n) h k = ⊎_elim (λ old. go n (omega arith) old) (λ new. absurd (asleep_between (suc (suc (suc (suc (suc (suc n)))))) new.0 (omega arith) (omega arith) new.2)) (in_word (suc (suc (suc (suc (suc (suc n)))))) _ k.0 6 i bits k.1)

  -- so a word that is not written then is not clear
  pub unwritten : (i : ℕ) → covers (all_writes (execution ram (body_at ram 0) (words_values One One wa ra Zero []))) (cells ram (a_word 6 i)) ≡ false → HasValue (clear ram Free (words_dump wa ra) 14) (a_word 6 i) → ⊥
  unwritten i none k = ⊎_elim (λ written. false≢true (sym none ∙ written)) (λ old. words_before 4 6 i old.0 (lit< tt) old.1) (word_at_14 i k.0 k.1).decided

  -- on entry at 15, for words that have their values
  pub knows_15 : (words : List Bit) → ((i : ℕ) (bits : List Bit) → i ≤ 3 → clear ram Free (words_dump wa ra) 14 (a_word 6 i) bits → thing_bits ram (words_values One Zero wa ra Zero words) (a_word 6 i) ≡ bits) → Agrees ram (KnownOnEntry ram Free (words_dump wa ra) 15 0) (words_values One Zero wa ra Zero words)
  knows_15 words fits x bits k = go x bits (subst (λ e. EntryFrom ram Free (words_dump wa ra) 15 (clear ram Free (words_dump wa ra) 14) 0 e x bits) (only 15 k.0 k.1) k.2)
    where
      word_fits : (m i : ℕ) (bits : List Bit) → m ≡ 6 → clear ram Free (words_dump wa ra) 14 (a_word m i) bits → thing_bits ram (words_values One Zero wa ra Zero words) (a_word m i) ≡ bits
      word_fits m i bits e k = subst (λ n. clear ram Free (words_dump wa ra) 14 (a_word n i) bits → thing_bits ram (words_values One Zero wa ra Zero words) (a_word n i) ≡ bits) (sym e) (λ c. fits i bits (clear-thing ram Free (words_dump wa ra) 14 (a_word 6 i) bits c).2 c) k

      go : (x : Thing) (bits : List Bit) → EntryFrom ram Free (words_dump wa ra) 15 (clear ram Free (words_dump wa ra) 14) 0 (cell 0 0) x bits → thing_bits ram (words_values One Zero wa ra Zero words) x ≡ bits
      go (a_signal zero) bits (inl new) = sym new.1
      go (a_signal zero) bits (inr old) = absurd (old.0 refl)
      go (a_signal (suc zero)) bits k = sym (clear_bound ram Free (words_dump wa ra) 14 1 bits (old_of 15 (clear ram Free (words_dump wa ra) 14) _ bits k (signal_ne 0)) refl)
      go (a_signal (suc (suc zero))) bits k = sym (clear_bound ram Free (words_dump wa ra) 14 2 bits (old_of 15 (clear ram Free (words_dump wa ra) 14) _ bits k (signal_ne 1)) refl)
      go (a_signal (suc (suc (suc zero)))) bits k = sym (clear_bound ram Free (words_dump wa ra) 14 3 bits (old_of 15 (clear ram Free (words_dump wa ra) 14) _ bits k (signal_ne 2)) refl)
      go (a_signal (suc (suc (suc (suc zero))))) bits k = sym (clear_bound ram Free (words_dump wa ra) 14 4 bits (old_of 15 (clear ram Free (words_dump wa ra) 14) _ bits k (signal_ne 3)) refl)
      go (a_signal (suc (suc (suc (suc (suc zero)))))) bits k = sym (clear_bound ram Free (words_dump wa ra) 14 5 bits (old_of 15 (clear ram Free (words_dump wa ra) 14) _ bits k (signal_ne 4)) refl)
      go (a_signal (suc (suc (suc (suc (suc (suc s))))))) bits k = absurd (omega (arith, clear-thing ram Free (words_dump wa ra) 14 (a_signal (suc (suc (suc (suc (suc (suc s))))))) bits (old_of 15 (clear ram Free (words_dump wa ra) 14) _ bits k (signal_ne (suc (suc (suc (suc (suc s)))))))))
      go (a_word m i) bits k =
          let old = old_of 15 (clear ram Free (words_dump wa ra) 14) (a_word m i) bits k (λ e. no_word 0 m i (sym e)) in
          word_fits m i bits (memory_6 m (clear-thing ram Free (words_dump wa ra) 14 (a_word m i) bits old).0) old

  -- a word that was not clear is not known
  pub word_unknown : (i : ℕ) → (HasValue (clear ram Free (words_dump wa ra) 14) (a_word 6 i) → ⊥) → HasValue (KnownOnEntry ram Free (words_dump wa ra) 15 0) (a_word 6 i) → ⊥
  word_unknown i none k = go k.1.2
    where
      go : EntryFrom ram Free (words_dump wa ra) 15 (clear_before ram Free (words_dump wa ra) 15) 0 k.1.0 (a_word 6 i) k.0 → ⊥
      go (inl new) = no_word k.1.0.thing 6 i (sym new.0)
      go (inr old) = none (k.0, old.2)
