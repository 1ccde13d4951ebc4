-- An assignment writes only cells that its target may write.
use Rattle.std.proofs.Common.{◌≡◌, ◌⊎◌, inl, inr, ⊎_elim, ℕ, zero, suc, ◌+◌, ◌*◌, ◌<◌, ◌≤◌, Bool, true, false, not, ◌||◌, ◌==◌, List, [], ◌∷◌, ◌++◌, map, length, take, drop, refl, sym, ap, subst, ◌∙◌, arith, eq-eqb, lt-ltb, length-take, length-drop, ℤ, pos, negsuc, ◌+ℤ◌, Option, Some, None, if◌then◌else◌}
use Rattle.std.proofs.lemmas.Bool.{and_from, and_parts, or_cases, or_left, or_right, eqb-true, ltb-true, false≢true, cases_lt}
use Rattle.std.proofs.lemmas.List.{length-replicate}
use Rattle.std.specs.Prelude.{nat_lt, nat_le}
use Rattle.std.specs.List.{range_with_len}
use Rattle.event_machine.specs.Cell.{Cell, Values, Write, WritesCell, same_cell}
use Rattle.four_state.specs.Parts.{index, within}
use Rattle.four_state.specs.Vector.{fill, fit}
use Rattle.four_state.specs.declared.bit.Bit.{Bit}
use Rattle.four_state.specs.declared.bit.Bit.TheVariants.{X}
use Rattle.design_model.specs.Tree.{Target, Targets, Term, a_target, all_of, bits_of, no_targets, several, word_of}
use Rattle.design_model.specs.Design.{Design, cell, memory_at, signal_at}
use Rattle.design_model.specs.Value.{head, offset_option, value, word_named}
use Rattle.design_model.specs.Assignment.{bit_writes, bit_writes_option, option_cell, signal_range, target_width, target_writes, targets_width, targets_writes, word_writes, writes_to}
use Rattle.design_model.specs.Mentions.{blank, has_cell, is_constant, may_write, some_may_write, static_writes}
use Rattle.design_model.proofs.ConstantTerms.{value_constant}

-- a write of a list of writes is one of the two halves'
pub WritesCell-halves : (us ws : List (Write Bit)) (c : Cell) → WritesCell (us ++ ws) c → WritesCell us c ⊎ WritesCell ws c
WritesCell-halves [] ws c h = inr h
WritesCell-halves (u ∷ us) ws c (inl e) = inl (inl e)
WritesCell-halves (u ∷ us) ws c (inr h) = ⊎_elim (λ a. inl (inr a)) (λ b. inr b) (WritesCell-halves us ws c h)

-- the cells of range_with_len 0 from n on, so many
pub WritesCell-places : (s n k : ℕ) (bs : List Bit) (c : Cell) → WritesCell (writes_to (map (cell s) (range_with_len n k)) bs) c → (c.thing ≡ s) × (c.place < n + k)
WritesCell-places s n zero bs c h = absurd h
WritesCell-places s n (suc k) [] c h = absurd h
WritesCell-places s n (suc k) (b ∷ bs) c (inl e) = (sym (ap (λ x. x.thing) e), subst (λ x. x < n + suc k) (ap (λ x. x.place) e) (omega arith))
WritesCell-places s n (suc k) (b ∷ bs) c (inr h) = let r = WritesCell-places s (n + 1) k bs c h in (r.0, omega (arith, r.1))

-- the cells of a word
WritesCell-word : (d : Design) (m i : ℕ) (ks : List ℕ) (bs : List Bit) (c : Cell) → WritesCell (writes_to (map (λ k. cell m (i * (memory_at d m).width + k)) ks) bs) c → c.thing ≡ m
WritesCell-word d m i [] bs c h = absurd h
WritesCell-word d m i (k ∷ ks) [] c h = absurd h
WritesCell-word d m i (k ∷ ks) (b ∷ bs) c (inl e) = sym (ap (λ x. x.thing) e)
WritesCell-word d m i (k ∷ ks) (b ∷ bs) c (inr h) = WritesCell-word d m i ks bs c h

pub has_cell-from : (ws : List (Write Bit)) (c : Cell) → WritesCell ws c → has_cell ws c ≡ true
has_cell-from [] c h = absurd h
has_cell-from (w ∷ ws) c (inl e) = or_left (same_cell w.cell c) (has_cell ws c) (and_from (w.cell.thing == c.thing) (w.cell.place == c.place) (eq-eqb _ _ (ap (λ x. x.thing) e)) (eq-eqb _ _ (ap (λ x. x.place) e)))
has_cell-from (w ∷ ws) c (inr h) = or_right (same_cell w.cell c) (has_cell ws c) (has_cell-from ws c h)

pub WritesCell-from : (ws : List (Write Bit)) (c : Cell) → has_cell ws c ≡ true → WritesCell ws c
WritesCell-from [] c h = absurd (false≢true h)
WritesCell-from (w ∷ ws) c h =
    ⊎_elim
    (λ e. let p = and_parts (w.cell.thing == c.thing) (w.cell.place == c.place) e in inl (λ i. record { thing = eqb-true w.cell.thing c.thing p.0 i; place = eqb-true w.cell.place c.place p.1 i }))
    (λ e. inr (WritesCell-from ws c e))
    (or_cases (same_cell w.cell c) (has_cell ws c) h)

-- the cells that are written depend on the number of bits alone
option_same : (s : ℕ) (o : Option ℕ) (b b' : Bit) (us ws : List (Write Bit)) (c : Cell) → (WritesCell us c → WritesCell ws c) → WritesCell (writes_to (option_cell s o) (b ∷ []) ++ us) c → WritesCell (writes_to (option_cell s o) (b' ∷ []) ++ ws) c
option_same s None b b' us ws c f h = f h
option_same s (Some k) b b' us ws c f (inl e) = inl e
option_same s (Some k) b b' us ws c f (inr h) = inr (f h)

bits_same : (s n : ℕ) (from : ℤ) (bs cs : List Bit) (c : Cell) → length bs ≡ length cs → WritesCell (bit_writes s n from bs) c → WritesCell (bit_writes s n from cs) c
bits_same s n from [] cs c e h = absurd h
bits_same s n from (b ∷ bs) [] c e h = absurd (grind (arith, e))
bits_same s n from (b ∷ bs) (b' ∷ cs) c e h =
    option_same s (within n from) b b' (bit_writes s n (from +ℤ pos 1) bs) (bit_writes s n (from +ℤ pos 1) cs) c (bits_same s n (from +ℤ pos 1) bs cs c (omega (arith, e))) h

option_range : (s n : ℕ) (o : ℤ) (b : Bit) (us : List (Write Bit)) (c : Cell) → (WritesCell us c → (c.thing ≡ s) × (c.place < n)) → WritesCell (writes_to (option_cell s (within n o)) (b ∷ []) ++ us) c → (c.thing ≡ s) × (c.place < n)
option_range s n (negsuc k) b us c f h = f h
option_range s n (pos k) b us c f h = go (nat_lt k n) refl h
  where
    go : (t : Bool) → nat_lt k n ≡ t → WritesCell (writes_to (option_cell s (if t then Some k else None)) (b ∷ []) ++ us) c → (c.thing ≡ s) × (c.place < n)
    go false e h = f h
    go true e (inl same) = (sym (ap (λ x. x.thing) same), subst (λ x. x < n) (ap (λ x. x.place) same) (ltb-true k n e))
    go true e (inr h) = f h

bits_range : (s n : ℕ) (from : ℤ) (bs : List Bit) (c : Cell) → WritesCell (bit_writes s n from bs) c → (c.thing ≡ s) × (c.place < n)
bits_range s n from [] c h = absurd h
bits_range s n from (b ∷ bs) c h = option_range s n from b (bit_writes s n (from +ℤ pos 1) bs) c (bits_range s n (from +ℤ pos 1) bs c) h

pub length-fit : (w : ℕ) (b : Bit) (bs : List Bit) → length (fit w b bs) ≡ w
length-fit zero b bs = refl
length-fit (suc w) b [] = ap suc (length-fit w b [])
length-fit (suc w) b (c ∷ cs) = ap suc (length-fit w b cs)

pub option_bits_range : (s n : ℕ) (from : Option ℤ) (bs : List Bit) (c : Cell) → WritesCell (bit_writes_option s n from bs) c → (c.thing ≡ s) × (c.place < n)
option_bits_range s n None bs c h = absurd h
option_bits_range s n (Some from) bs c h = bits_range s n from bs c h

pub option_bits_same : (s n : ℕ) (from : Option ℤ) (bs cs : List Bit) (c : Cell) → length bs ≡ length cs → WritesCell (bit_writes_option s n from bs) c → WritesCell (bit_writes_option s n from cs) c
option_bits_same s n None bs cs c e h = h
option_bits_same s n (Some from) bs cs c e h = bits_same s n from bs cs c e h

pub option_word_range : (d : Design) (m : ℕ) (o : Option ℕ) (bs : List Bit) (c : Cell) → WritesCell (word_writes d m o bs) c → c.thing ≡ m
option_word_range d m None bs c h = absurd h
option_word_range d m (Some i) bs c h = WritesCell-word d m i (range_with_len 0 (memory_at d m).width) bs c h

-- what is no memory has no words
no_word : (d : Design) (m : ℕ) → nat_le (length d.signals) m ≡ false → (o : Option ℕ) (bs : List Bit) (c : Cell) → WritesCell (word_writes d m o bs) c → ⊥
no_word d m below None bs c h = h
no_word d m below (Some i) bs c h =
    let none : (memory_at d m).width ≡ 0 = rw below refl in
    subst (λ w. WritesCell (writes_to (map (λ k. cell m (i * (memory_at d m).width + k)) (range_with_len 0 w)) bs) c) none h

-- a constant part writes the same cells on all states
pub static_same : (d : Design) (v : Values Bit) (s : ℕ) (low : Term) (w : ℕ) (bs : List Bit) (c : Cell) → length bs ≡ w → is_constant low ≡ true → WritesCell (target_writes d v (bits_of s low w) bs) c → has_cell (static_writes d (bits_of s low w)) c ≡ true
static_same d v s low w bs c e constant h = has_cell-from (static_writes d (bits_of s low w)) c (option_bits_same s (signal_at d s).width _ bs (fill w X) c (e ∙ sym (length-replicate w X)) h')
  where
    h' : WritesCell (bit_writes_option s (signal_at d s).width (offset_option (signal_range d s) (index (head low).signed (value d blank low))) bs) c
    h' = subst (λ x. WritesCell (bit_writes_option s (signal_at d s).width (offset_option (signal_range d s) (index (head low).signed x)) bs) c) (value_constant d v blank low constant) h

mutual
  pub writes_named : (d : Design) (v : Values Bit) (x : Target) (bs : List Bit) (c : Cell) → length bs ≡ target_width d x → WritesCell (target_writes d v x bs) c → may_write d x c ≡ true
  writes_named d v (all_of s) bs c e h =
      let r = WritesCell-places s 0 (signal_at d s).width bs c h in
      and_from (c.thing == s) (nat_lt c.place (signal_at d s).width) (eq-eqb _ _ r.0) (lt-ltb _ _ (omega (arith, r.1)))
  writes_named d v (bits_of s low w) bs c e h =
      let r = option_bits_range s (signal_at d s).width (offset_option (signal_range d s) (index (head low).signed (value d v low))) bs c h in
      and_from (c.thing == s) _ (eq-eqb _ _ r.0) (and_from (nat_lt c.place (signal_at d s).width) _ (lt-ltb _ _ r.1) (go (is_constant low) refl))
    where
      go : (t : Bool) → is_constant low ≡ t → (not t || has_cell (static_writes d (bits_of s low w)) c) ≡ true
      go false constant = refl
      go true constant = static_same d v s low w bs c e constant h
  writes_named d v (word_of m i) bs c e h = and_from (c.thing == m) (nat_le (length d.signals) m) (eq-eqb _ _ (option_word_range d m (word_named d v m i) bs c h)) (go (nat_le (length d.signals) m) refl)
    where
      go : (t : Bool) → nat_le (length d.signals) m ≡ t → t ≡ true
      go true at_most = refl
      go false below = absurd (no_word d m below (word_named d v m i) bs c h)
  writes_named d v (several ts) bs c e h = all_named d v ts bs c e h

  pub all_named : (d : Design) (v : Values Bit) (ts : Targets) (bs : List Bit) (c : Cell) → length bs ≡ targets_width d ts → WritesCell (targets_writes d v ts bs) c → some_may_write d ts c ≡ true
  all_named d v no_targets bs c e h = absurd h
  all_named d v (a_target t ts) bs c e h =
      ⊎_elim
      (λ a. or_left (may_write d t c) (some_may_write d ts c) (writes_named d v t (drop (targets_width d ts) bs) c (omega (arith, length-drop (targets_width d ts) bs, e)) a))
      (λ b. or_right (may_write d t c) (some_may_write d ts c) (all_named d v ts (take (targets_width d ts) bs) c (omega (arith, length-take (targets_width d ts) bs, e)) b))
      (WritesCell-halves (target_writes d v t (drop (targets_width d ts) bs)) (targets_writes d v ts (take (targets_width d ts) bs)) c h)

pub WritesCell-left : (us ws : List (Write Bit)) (c : Cell) → WritesCell us c → WritesCell (us ++ ws) c
WritesCell-left [] ws c h = absurd h
WritesCell-left (u ∷ us) ws c (inl e) = inl e
WritesCell-left (u ∷ us) ws c (inr h) = inr (WritesCell-left us ws c h)

pub WritesCell-right : (us ws : List (Write Bit)) (c : Cell) → WritesCell ws c → WritesCell (us ++ ws) c
WritesCell-right [] ws c h = h
WritesCell-right (u ∷ us) ws c h = inr (WritesCell-right us ws c h)

-- each place from n up to n + k is written
pub has_place : (s n k : ℕ) (bs : List Bit) (c : Cell) → length bs ≡ k → c.thing ≡ s → n ≤ c.place → c.place < n + k → WritesCell (writes_to (map (cell s) (range_with_len n k)) bs) c
has_place s n zero bs c e t a b = absurd (omega (arith, a, b))
has_place s n (suc k) [] c e t a b = absurd (grind (arith, e))
has_place s n (suc k) (x ∷ bs) c e t a b =
    ⊎_elim (λ same. inl (λ i. record { thing = sym t i; place = same i })) (λ over. inr (has_place s (n + 1) k bs c (omega (arith, e)) t over (omega (arith, b)))) (first n c.place a)
  where
    first : (n m : ℕ) → n ≤ m → (n ≡ m) ⊎ (n + 1 ≤ m)
    first n m h = ⊎_elim (λ under. inr (omega (arith, under))) (λ over. inl (omega (arith, over, h))) (cases_lt n m)

pub cell_halves : (us ws : List (Write Bit)) (c : Cell) → has_cell (us ++ ws) c ≡ true → (has_cell us c ≡ true) ⊎ (has_cell ws c ≡ true)
cell_halves [] ws c h = inr h
cell_halves (u ∷ us) ws c h =
    ⊎_elim (λ e. inl (or_left (same_cell u.cell c) _ e)) (λ e. ⊎_elim (λ f. inl (or_right (same_cell u.cell c) _ f)) (λ f. inr f) (cell_halves us ws c e)) (or_cases (same_cell u.cell c) _ h)

-- a constant part is written on each state
pub static_written : (d : Design) (v : Values Bit) (s : ℕ) (low : Term) (w : ℕ) (bs : List Bit) (c : Cell) → length bs ≡ w → is_constant low ≡ true → has_cell (static_writes d (bits_of s low w)) c ≡ true → WritesCell (target_writes d v (bits_of s low w) bs) c
static_written d v s low w bs c e f r =
    subst (λ y. WritesCell (bit_writes_option s (signal_at d s).width (offset_option (signal_range d s) (index (head low).signed y)) bs) c) (value_constant d blank v low f) (option_bits_same s (signal_at d s).width _ (fill w X) bs c (length-replicate w X ∙ sym e) (WritesCell-from (static_writes d (bits_of s low w)) c r))
