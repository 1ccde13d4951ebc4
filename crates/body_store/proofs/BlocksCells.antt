-- What is kept of a store, cell by cell: the cells of the design, and those that it does not have.
use Rattle.std.proofs.Common.{◌≡◌, ℕ, ◌+◌, ◌-◌, ◌*◌, ◌/◌, ◌%◌, ◌<◌, ◌≤◌, ◌==◌, ◌&&◌, Bool, true, false, if◌then◌else◌, List, [], ◌∷◌, length, map, get_or, min, max, None, refl, sym, ap, ap₂, subst, ◌∙◌, arith, inl, inr, ⊎_elim}
use Rattle.std.specs.Prelude.{nat_le, nat_lt}
use Rattle.std.proofs.Math.Path.{fun_ext}
use Rattle.std.proofs.Math.Nat.{mod-add-div'}
use Rattle.std.proofs.lemmas.Bool.{and_parts, cases_lt, eqb-true}
use Rattle.std.proofs.lemmas.Bool.Decides.{nat_tests}
use Rattle.std.proofs.lemmas.List.{get_or_past}
use Rattle.std.proofs.lemmas.Nat.{div-mul-add, mod-mul-add}
use Rattle.design_model.specs.event_machine.Cell.{Cell}
use Rattle.known_state.specs.Partly.{Partly}
use Rattle.design_model.specs.declared.design.Memory.{Memory}
use Rattle.design_model.specs.Design.{Design, cell, is_memory, memory_at, no_memory, signal_at, signal_cells}
use Rattle.body_calls.specs.body_replay.KnownBits.{KnownBits}
use Rattle.body_calls.specs.body_replay.Store.{Kept, keep_all, write_word}
use Rattle.body_calls.proofs.body_replay.Frames.{missed}
use Rattle.body_calls.proofs.body_replay.Writes.{keep_append}
use Rattle.word_log.specs.memory_rebuild.Words.{IsIndex, KnownWords, StandsFor, word_at}
use Rattle.body_calls.specs.Lvalues.{Takes, if_certain, lvalue_writes}
use Rattle.body_calls.specs.declared.lvalue.Lvalue.{Lvalue}
use Rattle.body_calls.specs.declared.lvalue.Lvalue.TheVariants.{Part, Signal, Word}
use Rattle.body_store.specs.declared.update.Update.{Update}
use Rattle.body_store.specs.Fitting.{FitsWords}
use Rattle.body_store.specs.Scenes.{bit_at, kept_by, word_bit}
use Rattle.body_store.specs.Updates.{are_taken, queued_writes, takes, update_writes}
use Rattle.body_store.proofs.Between.{certain_inside}
use Rattle.body_store.proofs.Fit.{from_memories}
use Rattle.body_store.proofs.Inside.{Inside, IsOutside, inside_misses, inside_part, inside_whole, is_below}
use Rattle.body_store.proofs.Queued.{takes_no_less}
use Rattle.body_store.proofs.Rows.{row_at}
use Rattle.body_store.proofs.Words.{inside_at, is_in_word, word_bit_by}

-- the place is that of a bit of a memory with these bounds
abbrev pub has_bit : Memory → ℕ → Bool
has_bit x k = is_in_word x k && nat_lt (k % x.width) x.width

-- the place is that of a bit of this signal or memory
abbrev pub has_place : Design → ℕ → ℕ → Bool
has_place d y k = if nat_lt y (length d.signals) then is_below (signal_at d y).width k else has_bit (memory_at d y) k

-- the cell is one of the design
abbrev pub is_cell : Design → Cell → Bool
is_cell d c = has_place d c.thing c.place

-- each bit of a word has such a place
bit_there : (x : Memory) (i j : ℕ) → nat_le (min x.first x.last) i && nat_le i (max x.first x.last) ≡ true → j < x.width → has_bit x (i * x.width + j) ≡ true
bit_there x i j e l =
    let yes : nat_lt j x.width ≡ true = grind (arith, nat_tests, l) in
    ap₂ (λ a b. (nat_le (min x.first x.last) a && nat_le a (max x.first x.last)) && nat_lt b x.width) (div-mul-add i x.width j l) (mod-mul-add i x.width j l) ∙ ap₂ (λ s t. s && t) e yes

below_is : (a w : ℕ) → nat_lt a w ≡ true → a < w
below_is a w e = grind (arith, nat_tests, e)

past_is : (a w : ℕ) → nat_lt a w ≡ false → w ≤ a
past_is a w e = grind (arith, nat_tests, e)

in_word : (r : KnownWords) (x : Memory) (k : ℕ) → r.shape.first ≡ x.first → r.shape.last ≡ x.last → is_in_word x k ≡ true → IsIndex r.shape (k / x.width)
in_word r x k first last e =
    let i : ℕ = k / x.width in
    let both = and_parts (nat_le (min x.first x.last) i) (nat_le i (max x.first x.last)) e in
    let low = both.0 in
    let high = both.1 in
    subst (λ a. (min a r.shape.last ≤ i) × (i ≤ max a r.shape.last)) (sym first) (subst (λ b. (min x.first b ≤ i) × (i ≤ max x.first b)) (sym last) (grind (arith, nat_tests, low), grind (arith, nat_tests, high)))

module _ (d : Design) (at : ℕ → Partly) (words : ℕ → KnownWords) where
  abbrev n : ℕ
  n = length d.signals

  -- nothing is kept of the cells that the design does not have
  module _ (wide : (s : ℕ) → s < length d.signals → length (at s).bits ≡ (signal_at d s).width) (fit : (m : ℕ) → length d.signals ≤ m → (j : ℕ) × FitsWords (memory_at d m) j (words (m - length d.signals))) where
    blank_word : (x : Memory) (j : ℕ) (r : KnownWords) (k : ℕ) → FitsWords x j r → has_bit x k ≡ false → word_bit r k ≡ None
    blank_word x j r k f out =
        word_bit_by r x k (ap (λ y. y.first) f.shape) (ap (λ y. y.last) f.shape) (ap (λ y. y.width) f.shape) ∙ go (is_in_word x k) refl out
      where
        go : (t : Bool) → is_in_word x k ≡ t → (t && nat_lt (k % x.width) x.width) ≡ false → (if t then bit_at (word_at r (k / x.width)) (k % x.width) else None) ≡ None
        go false e o = refl
        go true e o =
            let size : length (word_at r (k / x.width)) ≡ x.width = f.widths (k / x.width) (in_word r x k (ap (λ y. y.first) f.shape) (ap (λ y. y.last) f.shape) e) ∙ ap (λ y. y.width) f.shape in
            get_or_past (word_at r (k / x.width)) (k % x.width) None (subst (λ w. w ≤ k % x.width) (sym size) (past_is (k % x.width) x.width o))

    blank_by : (y k : ℕ) (t : Bool) → nat_lt y n ≡ t → (if t then is_below (signal_at d y).width k else has_bit (memory_at d y) k) ≡ false → (if t then bit_at (at y).bits k else word_bit (words (y - n)) k) ≡ None
    blank_by y k true e out =
        let size = wide y (below_is y n e) in
        get_or_past (at y).bits k None (subst (λ w. w ≤ k) (sym size) (past_is k (signal_at d y).width out))
    blank_by y k false e out = let f = fit y (past_is y n e) in blank_word (memory_at d y) f.0 (words (y - n)) k f.1 out

    pub blank : (c : Cell) → is_cell d c ≡ false → kept_by n at words c ≡ None
    blank c out = blank_by c.thing c.place (nat_lt c.thing n) refl out

  -- what is kept of the cells of the design is what is known of them
  module _ (k : Kept) (rows : (s : ℕ) → s < length d.signals → (at s).bits ≡ map k (signal_cells d s)) (stands : (m : ℕ) → is_memory d m ≡ true → StandsFor d k m (words (m - length d.signals))) where
    held_word : (m j : ℕ) → is_memory d m ≡ true → has_bit (memory_at d m) j ≡ true → word_bit (words (m - n)) j ≡ k (cell m j)
    held_word m j is inside =
        let x = memory_at d m in
        let r = words (m - n) in
        let s : StandsFor d k m r = stands m is in
        let both = and_parts (is_in_word x j) (nat_lt (j % x.width) x.width) inside in
        let place : j / x.width * x.width + (0 + j % x.width) ≡ j = omega (arith, mod-add-div' j x.width) in
        word_bit_by r x j s.first s.last s.width ∙ ap (λ t. if t then bit_at (word_at r (j / x.width)) (j % x.width) else None) both.0
        ∙ sym (row_at k (λ i. cell m (j / x.width * x.width + i)) 0 x.width (word_at r (j / x.width)) (j % x.width) (s.words (j / x.width) (in_word r x j s.first s.last both.0)) (below_is (j % x.width) x.width both.1))
        ∙ ap (λ i. k (cell m i)) place

    no_bit : (x : Memory) (j : ℕ) → has_bit x j ≡ true → 1 ≤ x.width
    no_bit x j e = let below = below_is (j % x.width) x.width (and_parts (is_in_word x j) (nat_lt (j % x.width) x.width) e).1 in more (j % x.width) x.width below
      where
        more : (a w : ℕ) → a < w → 1 ≤ w
        more a w l = omega (arith, l)

    is_there : (m j : ℕ) → n ≤ m → has_bit (memory_at d m) j ≡ true → is_memory d m ≡ true
    is_there m j from e = ⊎_elim here gone (cases_lt (m - n) (length d.memories))
      where
        here : m - n < length d.memories → is_memory d m ≡ true
        here l = grind (arith, nat_tests, from, l)

        gone : length d.memories ≤ m - n → is_memory d m ≡ true
        gone l =
            let yes : nat_le n m ≡ true = grind (arith, nat_tests, from) in
            let none : memory_at d m ≡ no_memory = ap (λ t. if t then get_or d.memories (m - n) no_memory else no_memory) yes ∙ get_or_past d.memories (m - n) no_memory l in
            let some : 1 ≤ (memory_at d m).width = no_bit (memory_at d m) j e in
            let zero : (memory_at d m).width ≡ 0 = ap (λ (x : Memory). x.width) none in
            absurd (omega (arith, some, zero))

    held_by : (y j : ℕ) (t : Bool) → nat_lt y n ≡ t → (if t then is_below (signal_at d y).width j else has_bit (memory_at d y) j) ≡ true → (if t then bit_at (at y).bits j else word_bit (words (y - n)) j) ≡ k (cell y j)
    held_by y j true e inside =
        let start : 0 + j ≡ j = omega arith in
        sym (row_at k (cell y) 0 (signal_at d y).width (at y).bits j (rows y (below_is y n e)) (below_is j (signal_at d y).width inside)) ∙ ap (λ i. k (cell y i)) start
    held_by y j false e inside = held_word y j (is_there y j (past_is y n e) inside) inside

    -- so is what is kept as a whole, if nothing else is known
    module _ (wide : (s : ℕ) → s < length d.signals → length (at s).bits ≡ (signal_at d s).width) (fit : (m : ℕ) → length d.signals ≤ m → (j : ℕ) × FitsWords (memory_at d m) j (words (m - length d.signals))) (none : (c : Cell) → is_cell d c ≡ false → k c ≡ None) where
      pub all_held : kept_by n at words ≡ k
      all_held = fun_ext (λ c. go c (is_cell d c) refl)
        where
          go : (c : Cell) (t : Bool) → is_cell d c ≡ t → kept_by n at words c ≡ k c
          go c true e = held_by c.thing c.place (nat_lt c.thing n) refl e
          go c false e = blank wide fit c e ∙ sym (none c e)

-- ---- the writes of an assignment are to cells of the design

module _ (d : Design) where
  below_out : (s y k : ℕ) → s < length d.signals → s ≡ y → has_place d y k ≡ false → is_below (signal_at d s).width k ≡ false
  below_out s y k l same out =
      let yes : nat_lt s (length d.signals) ≡ true = grind (arith, nat_tests, l) in
      sym (ap (λ t. if t then is_below (signal_at d s).width k else has_bit (memory_at d s) k) yes) ∙ subst (λ z. has_place d z k ≡ false) (sym same) out

  signal_out : (s : ℕ) (c : Cell) → s < length d.signals → is_cell d c ≡ false → IsOutside s (is_below (signal_at d s).width) c
  signal_out s c l out = go (s == c.thing) refl
    where
      go : (t : Bool) → (s == c.thing) ≡ t → IsOutside s (is_below (signal_at d s).width) c
      go false e = inl e
      go true e = inr (below_out s c.thing c.place l (eqb-true s c.thing e) out)

  word_out : (m y k : ℕ) → is_memory d m ≡ true → m ≡ y → has_place d y k ≡ false → has_bit (memory_at d m) k ≡ false
  word_out m y k is same out =
      let from = from_memories d m is in
      let no : nat_lt m (length d.signals) ≡ false = grind (arith, nat_tests, from) in
      sym (ap (λ t. if t then is_below (signal_at d m).width k else has_bit (memory_at d m) k) no) ∙ subst (λ z. has_place d z k ≡ false) (sym same) out

  memory_out : (m : ℕ) (c : Cell) → is_memory d m ≡ true → is_cell d c ≡ false → IsOutside m (has_bit (memory_at d m)) c
  memory_out m c is out = go (m == c.thing) refl
    where
      go : (t : Bool) → (m == c.thing) ≡ t → IsOutside m (has_bit (memory_at d m)) c
      go false e = inl e
      go true e = inr (word_out m c.thing c.place is (eqb-true m c.thing e) out)

  inside_bits : (m : ℕ) (signed : Bool) (is ps : KnownBits) → Inside m (has_bit (memory_at d m)) (write_word d m signed is ps)
  inside_bits m signed is ps = inside_at d m (has_bit (memory_at d m)) (bit_there (memory_at d m)) signed is ps

  -- so the writes of an assignment, certain or not, leave the other cells
  pub lvalue_missed : (k : Kept) (certain : Bool) (to : Lvalue) (ps : KnownBits) (c : Cell) → Takes d to (length ps) → is_cell d c ≡ false → keep_all k (if_certain certain (lvalue_writes d to ps)) c ≡ k c
  lvalue_missed k certain (Signal s) ps c takes out =
      let ws = lvalue_writes d (Signal s) ps in
      let at = is_below (signal_at d s).width in
      missed c (if_certain certain ws) k (inside_misses s at (if_certain certain ws) c (certain_inside s at ws certain (inside_whole d s ps)) (signal_out s c takes.0 out))
  lvalue_missed k certain (Part s low) ps c takes out =
      let ws = lvalue_writes d (Part s low) ps in
      let at = is_below (signal_at d s).width in
      missed c (if_certain certain ws) k (inside_misses s at (if_certain certain ws) c (certain_inside s at ws certain (inside_part d s low.signed low.bits ps)) (signal_out s c takes.0 out))
  lvalue_missed k certain (Word m i) ps c takes out =
      let ws = lvalue_writes d (Word m i) ps in
      let at = has_bit (memory_at d m) in
      missed c (if_certain certain ws) k (inside_misses m at (if_certain certain ws) c (certain_inside m at ws certain (inside_bits m i.signed i.bits ps)) (memory_out m c takes.0 out))

  -- and so do the writes that are queued
  pub queue_missed : (k : Kept) (us : List Update) (c : Cell) → are_taken d us ≡ true → is_cell d c ≡ false → keep_all k (queued_writes d us) c ≡ k c
  queue_missed k [] c h out = refl
  queue_missed k (u ∷ us) c h out =
      let both = and_parts (takes d u.to (length u.value.bits)) (are_taken d us) h in
      ap (λ f. f c) (keep_append k (update_writes d u) (queued_writes d us)) ∙ queue_missed (keep_all k (update_writes d u)) us c both.1 out
      ∙ lvalue_missed k u.certain u.to u.value.bits c (takes_no_less d u.to (length u.value.bits) both.0) out
