-- What bodies read after a blocking write to a word of a memory.
use Rattle.std.proofs.Common.{◌≡◌, ℕ, zero, suc, ◌+◌, ◌-◌, ◌*◌, ◌/◌, ◌%◌, ◌<◌, ◌≤◌, ◌==◌, ◌&&◌, Bool, true, false, if◌then◌else◌, List, ◌++◌, min, max, ℤ, pos, negsuc, Option, Some, None, refl, sym, ap, ap₂, subst, ◌∙◌, arith, inl, inr}
use Rattle.std.specs.Prelude.{nat_le, nat_lt}
use Rattle.std.specs.List.{range_with_len}
use Rattle.std.proofs.Math.Path.{fun_ext}
use Rattle.std.proofs.Math.Nat.{le-max_left, min-le_left, mod-lt, mod-add-div'}
use Rattle.std.proofs.lemmas.Bool.{and_parts, eqb-true}
use Rattle.std.proofs.lemmas.Bool.Decides.{nat_tests}
use Rattle.std.proofs.lemmas.Nat.{div-mul-add}
use Rattle.design_model.specs.four_state.declared.bit.Bit.{Bit}
use Rattle.design_model.specs.four_state.Parts.{index}
use Rattle.known_state.specs.Partly.{Partly}
use Rattle.design_model.specs.declared.design.Memory.{Memory}
use Rattle.design_model.specs.Design.{Design, cell, memory_at, word_cells}
use Rattle.design_model.specs.Value.{named_word}
use Rattle.body_calls.specs.body_replay.KnownBits.{KnownBits, on_whole, whole_bits}
use Rattle.body_calls.specs.body_replay.Store.{Kept, KnownWrite, keep_all, known_word_writes, may_name, perhaps_words, weaken, words, write_word, writes_of}
use Rattle.body_calls.proofs.body_replay.Frames.{missed}
use Rattle.word_log.specs.memory_rebuild.Words.{IsIndex, KnownWords, StandsFor, word_at}
use Rattle.body_store.specs.Scenes.{bit_at, kept_by, word_bit}
use Rattle.body_store.proofs.Inside.{Inside, inside_append, inside_misses, inside_row, inside_weaken}
use Rattle.body_store.proofs.Rows.{memory_bit, row_at}

min_max : (a b : ℕ) → min a b ≤ max a b
min_max a b = let low = min-le_left a b in let high = le-max_left a b in omega (arith, low, high)

-- ---- the writes are to cells of words of the memory

-- the place is that of a bit of a word of this memory
abbrev pub is_in_word : Memory → ℕ → Bool
is_in_word x k = nat_le (min x.first x.last) (k / x.width) && nat_le (k / x.width) (max x.first x.last)

-- so at each place of a word where a test passes
module _ (d : Design) (m : ℕ) (at : ℕ → Bool) (there : (i j : ℕ) → nat_le (min (memory_at d m).first (memory_at d m).last) i && nat_le i (max (memory_at d m).first (memory_at d m).last) ≡ true → j < (memory_at d m).width → at (i * (memory_at d m).width + j) ≡ true) where
  abbrev x : Memory
  x = memory_at d m

  word_inside : (i : ℕ) (ps : KnownBits) → nat_le (min x.first x.last) i && nat_le i (max x.first x.last) ≡ true → Inside m at (writes_of (word_cells d m i) ps)
  word_inside i ps e =
      inside_row m at (λ k. i * x.width + k) 0 x.width ps
      (λ k l b. there i k e (omega (arith, b)))

  named_inside : (o : Option ℤ) (ps : KnownBits) → Inside m at (known_word_writes d m (named_word x o) ps)
  named_inside None ps = tt
  named_inside (Some (negsuc k)) ps = tt
  named_inside (Some (pos k)) ps = go (nat_le (min x.first x.last) k && nat_le k (max x.first x.last)) refl
    where
      go : (t : Bool) → nat_le (min x.first x.last) k && nat_le k (max x.first x.last) ≡ t → Inside m at (known_word_writes d m (if t then Some k else None) ps)
      go true e = word_inside k ps e
      go false e = tt

  perhaps_inside : (may : ℕ → Bool) (ps : KnownBits) (a n : ℕ) → min x.first x.last ≤ a → a + n ≤ max x.first x.last + 1 → Inside m at (perhaps_words d m may (range_with_len a n) ps)
  perhaps_inside may ps a zero l h = tt
  perhaps_inside may ps a (suc n) l h = go (perhaps_inside may ps (a + 1) n (omega (arith, l)) (omega (arith, h))) (may a)
    where
      low : min x.first x.last ≤ a
      low = l

      high : a ≤ max x.first x.last
      high = omega (arith, h)

      go : Inside m at (perhaps_words d m may (range_with_len (a + 1) n) ps) → (t : Bool) → Inside m at (if t then weaken (writes_of (word_cells d m a) ps) ++ perhaps_words d m may (range_with_len (a + 1) n) ps else perhaps_words d m may (range_with_len (a + 1) n) ps)
      go rest true = inside_append m at (weaken (writes_of (word_cells d m a) ps)) (perhaps_words d m may (range_with_len (a + 1) n) ps) (inside_weaken m at (writes_of (word_cells d m a) ps) (word_inside a ps (grind (arith, nat_tests, low, high)))) rest
      go rest false = rest

  pub inside_at : (signed : Bool) (is ps : KnownBits) → Inside m at (write_word d m signed is ps)
  inside_at signed is ps = go (whole_bits is)
    where
      go : (o : Option (List Bit)) → Inside m at (on_whole o (λ bs. known_word_writes d m (named_word x (index signed bs)) ps) (perhaps_words d m (may_name x signed is) (words x) ps))
      go None = perhaps_inside (may_name x signed is) ps (min x.first x.last) (max x.first x.last - min x.first x.last + 1) (omega arith) (let ordered : min x.first x.last ≤ max x.first x.last = min_max x.first x.last in omega (arith, ordered))
      go (Some bs) = named_inside (index signed bs) ps

pub inside_words : (d : Design) (m : ℕ) (signed : Bool) (is ps : KnownBits) → Inside m (is_in_word (memory_at d m)) (write_word d m signed is ps)
inside_words d m signed is ps =
    inside_at d m (is_in_word (memory_at d m))
    (λ i j e l. ap (λ a. nat_le (min (memory_at d m).first (memory_at d m).last) a && nat_le a (max (memory_at d m).first (memory_at d m).last)) (div-mul-add i (memory_at d m).width j l) ∙ e) signed is ps

-- ---- what is known of each cell then

-- a bit of a memory, by the shape that the design has
pub word_bit_by : (r : KnownWords) (x : Memory) (k : ℕ) → r.shape.first ≡ x.first → r.shape.last ≡ x.last → r.shape.width ≡ x.width → word_bit r k ≡ (if is_in_word x k then bit_at (word_at r (k / x.width)) (k % x.width) else None)
word_bit_by r x k first last width =
    ap₂ (λ a b. if nat_le (min a b) (k / r.shape.width) && nat_le (k / r.shape.width) (max a b) then bit_at (word_at r (k / r.shape.width)) (k % r.shape.width) else None) first last
    ∙ ap (λ w. if nat_le (min x.first x.last) (k / w) && nat_le (k / w) (max x.first x.last) then bit_at (word_at r (k / w)) (k % w) else None) width

module _ (d : Design) (n : ℕ) (at : ℕ → Partly) (words words' : ℕ → KnownWords) (m : ℕ) (signed : Bool) (is ps : KnownBits) (from : n ≤ m) (some : 1 ≤ (memory_at d m).width) (others : (i : ℕ) → ((m - n) == i) ≡ false → words' i ≡ words i) (old : StandsFor d (kept_by n at words) m (words (m - n))) (new : StandsFor d (keep_all (kept_by n at words) (write_word d m signed is ps)) m (words' (m - n))) where
  abbrev y : Memory
  y = memory_at d m

  abbrev ws : List KnownWrite
  ws = write_word d m signed is ps

  abbrev before : Kept
  before = kept_by n at words

  abbrev after : Kept
  after = kept_by n at words'

  left : (x k : ℕ) → (m == x) ≡ false → before (cell x k) ≡ keep_all before ws (cell x k)
  left x k e = sym (missed (cell x k) ws before (inside_misses m (is_in_word y) ws (cell x k) (inside_words d m signed is ps) (inl e)))

  elsewhere : (x k : ℕ) → (m == x) ≡ false → (t : Bool) → nat_lt x n ≡ t → (if t then bit_at (at x).bits k else word_bit (words' (x - n)) k) ≡ (if t then bit_at (at x).bits k else word_bit (words (x - n)) k)
  elsewhere x k e true u = refl
  elsewhere x k e false u =
      let differ : (m - n == x - n) ≡ false = grind (arith, nat_tests, e, u, from) in
      ap (λ r. word_bit r k) (others (x - n) differ)

  here : (k : ℕ) (t : Bool) → is_in_word y k ≡ t → after (cell m k) ≡ keep_all before ws (cell m k)
  here k true e =
      let i : ℕ = k / y.width in
      let both = and_parts (nat_le (min y.first y.last) i) (nat_le i (max y.first y.last)) e in
      let low = both.0 in
      let high = both.1 in
      let inside : IsIndex (words' (m - n)).shape i = subst (λ a. (min a (words' (m - n)).shape.last ≤ i) × (i ≤ max a (words' (m - n)).shape.last)) (sym new.first) (subst (λ b. (min y.first b ≤ i) × (i ≤ max y.first b)) (sym new.last) (grind (arith, nat_tests, low), grind (arith, nat_tests, high))) in
      let below : k % y.width < y.width = mod-lt k (omega (arith, some)) in
      let place : i * y.width + (0 + k % y.width) ≡ k = omega (arith, mod-add-div' k y.width) in
      memory_bit n at words' m k from ∙ word_bit_by (words' (m - n)) y k new.first new.last new.width ∙ ap (λ t. if t then bit_at (word_at (words' (m - n)) i) (k % y.width) else None) e
      ∙ sym (row_at (keep_all before ws) (λ j. cell m (i * y.width + j)) 0 y.width (word_at (words' (m - n)) i) (k % y.width) (new.words i inside) below)
      ∙ ap (λ j. keep_all before ws (cell m j)) place
  here k false e =
      memory_bit n at words' m k from ∙ word_bit_by (words' (m - n)) y k new.first new.last new.width ∙ ap (λ t. if t then bit_at (word_at (words' (m - n)) (k / y.width)) (k % y.width) else None) e
      ∙ sym (memory_bit n at words m k from ∙ word_bit_by (words (m - n)) y k old.first old.last old.width ∙ ap (λ t. if t then bit_at (word_at (words (m - n)) (k / y.width)) (k % y.width) else None) e)
      ∙ sym (missed (cell m k) ws before (inside_misses m (is_in_word y) ws (cell m k) (inside_words d m signed is ps) (inr e)))

  each : (x k : ℕ) (t : Bool) → (m == x) ≡ t → after (cell x k) ≡ keep_all before ws (cell x k)
  each x k false e = elsewhere x k e (nat_lt x n) refl ∙ left x k e
  each x k true e = let same : m ≡ x = eqb-true m x e in subst (λ z. after (cell z k) ≡ keep_all before ws (cell z k)) same (here k (is_in_word y k) refl)

  pub word_changed : kept_by n at words' ≡ keep_all (kept_by n at words) ws
  word_changed = fun_ext (λ c. each c.thing c.place (m == c.thing) refl)
