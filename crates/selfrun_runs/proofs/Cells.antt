-- The cells of signals and words, and the bits that writes to them leave.
use Rattle.std.proofs.Common.{◌≡◌, ◌≢◌, inl, inr, ℕ, zero, suc, ◌+◌, ◌*◌, ◌<◌, ◌≤◌, List, [], ◌∷◌, map, length, refl, sym, ap, ◌∙◌, arith}
use Rattle.std.specs.List.{range_with_len}
use Rattle.std.proofs.lemmas.Nat.{same_from_place}
use Rattle.event_machine.specs.Cell.{Cell, Values, Write, WritesCell, put, put_all}
use Rattle.event_machine.proofs.Writes.{put_all_other, put_same}
use Rattle.four_state.specs.declared.bit.Bit.{Bit}
use Rattle.design_model.specs.Design.{Design, In, cell, memory_at, signal_at, signal_bits, signal_cells, word_bits, word_cells}
use Rattle.design_model.specs.Assignment.{writes_to}

-- lists of values that are the same at each cell
pub map_same : (u v : Values Bit) (cs : List Cell) → ((c : Cell) → In c cs → u c ≡ v c) → map u cs ≡ map v cs
map_same u v [] same = refl
map_same u v (c ∷ cs) same = ap (λ b. b ∷ map u cs) (same c (inl refl)) ∙ ap (λ bs. v c ∷ bs) (map_same u v cs (λ d h. same d (inr h)))

-- a cell of a row is at one of its places
pub in_row : (f : ℕ → Cell) (n k : ℕ) (c : Cell) → In c (map f (range_with_len n k)) → (j : ℕ) × (n ≤ j) × (j < n + k) × (f j ≡ c)
in_row f n zero c h = absurd h
in_row f n (suc k) c (inl e) = (n, omega arith, omega arith, e)
in_row f n (suc k) c (inr h) = let rest = in_row f (n + 1) k c h in (rest.0, omega (arith, rest.1), omega (arith, rest.2), rest.3)

-- what is written is among the cells
pub written_in : (cs : List Cell) (bs : List Bit) (c : Cell) → WritesCell (writes_to cs bs) c → In c cs
written_in [] bs c h = absurd h
written_in (d ∷ cs) [] c h = absurd h
written_in (d ∷ cs) (b ∷ bs) c (inl e) = inl e
written_in (d ∷ cs) (b ∷ bs) c (inr h) = inr (written_in cs bs c h)

module _ (f : ℕ → Cell) (apart : (i j : ℕ) → f i ≡ f j → i ≡ j) where
  -- a row of cells has the bits that are written to it
  pub row_written : (v : Values Bit) (n k : ℕ) (bs : List Bit) → length bs ≡ k → map (put_all v (writes_to (map f (range_with_len n k)) bs)) (map f (range_with_len n k)) ≡ bs
  row_written v n zero [] e = refl
  row_written v n zero (b ∷ bs) e = absurd (omega (arith, e))
  row_written v n (suc k) [] e = absurd (omega (arith, e))
  row_written v n (suc k) (b ∷ bs) e =
      let later = writes_to (map f (range_with_len (n + 1) k)) bs in
      let now = put v (record { cell = f n; value = b }) in
      let first : put_all now later (f n) ≡ b = put_all_other now later (f n) (λ w. no_later (in_row f (n + 1) k (f n) (written_in _ bs (f n) w))) ∙ put_same v (record { cell = f n; value = b }) (f n) refl in
      ap (λ x. x ∷ map (put_all now later) (map f (range_with_len (n + 1) k))) first ∙ ap (λ xs. b ∷ xs) (row_written now (n + 1) k bs (omega (arith, e)))
    where
      no_later : (j : ℕ) × (n + 1 ≤ j) × (j < n + 1 + k) × (f j ≡ f n) → ⊥
      no_later h = omega (arith, h.1, apart h.0 n h.3)

-- writes to other things leave a signal as it is
pub signal_kept : (d : Design) (v : Values Bit) (ws : List (Write Bit)) (s : ℕ) → ((c : Cell) → WritesCell ws c → c.thing ≢ s) → signal_bits d (put_all v ws) s ≡ signal_bits d v s
signal_kept d v ws s others =
    map_same (put_all v ws) v (signal_cells d s) (λ c h. put_all_other v ws c (λ w. others c w (sym (ap (λ (x : Cell). x.thing) (in_row (cell s) 0 _ c h).3))))

-- a signal has the bits that are written to it
pub signal_written : (d : Design) (v : Values Bit) (s : ℕ) (bs : List Bit) → length bs ≡ (signal_at d s).width → signal_bits d (put_all v (writes_to (signal_cells d s) bs)) s ≡ bs
signal_written d v s bs e = row_written (cell s) (λ i j same. ap (λ (x : Cell). x.place) same) v 0 (signal_at d s).width bs e

-- what is written to a signal is of it
pub of_signal : (d : Design) (s : ℕ) (bs : List Bit) (c : Cell) → WritesCell (writes_to (signal_cells d s) bs) c → c.thing ≡ s
of_signal d s bs c w = sym (ap (λ (x : Cell). x.thing) (in_row (cell s) 0 _ c (written_in _ bs c w)).3)

-- the cell of a word at a place
abbrev pub word_cell : Design → ℕ → ℕ → ℕ → Cell
word_cell d m i k = cell m (i * (memory_at d m).width + k)

-- what is written to a word is of its memory
pub of_memory : (d : Design) (m i : ℕ) (bs : List Bit) (c : Cell) → WritesCell (writes_to (word_cells d m i) bs) c → c.thing ≡ m
of_memory d m i bs c w = sym (ap (λ (x : Cell). x.thing) (in_row (word_cell d m i) 0 _ c (written_in _ bs c w)).3)

-- a word has the bits that are written to it
pub word_written : (d : Design) (v : Values Bit) (m i : ℕ) (bs : List Bit) → length bs ≡ (memory_at d m).width → word_bits d (put_all v (writes_to (word_cells d m i) bs)) m i ≡ bs
word_written d v m i bs e = row_written (word_cell d m i) (λ j k same. omega (arith, ap (λ (x : Cell). x.place) same)) v 0 (memory_at d m).width bs e

-- writes to other things leave a word as it is
pub word_kept : (d : Design) (v : Values Bit) (ws : List (Write Bit)) (m i : ℕ) → ((c : Cell) → WritesCell ws c → c.thing ≢ m) → word_bits d (put_all v ws) m i ≡ word_bits d v m i
word_kept d v ws m i others =
    map_same (put_all v ws) v (word_cells d m i) (λ c h. put_all_other v ws c (λ w. others c w (sym (ap (λ (x : Cell). x.thing) (in_row (word_cell d m i) 0 _ c h).3))))

-- writes to one word leave another as it is
pub word_other : (d : Design) (v : Values Bit) (m a i : ℕ) (bs : List Bit) → i ≢ a → word_bits d (put_all v (writes_to (word_cells d m a) bs)) m i ≡ word_bits d v m i
word_other d v m a i bs apart = map_same (put_all v (writes_to (word_cells d m a) bs)) v (word_cells d m i) (λ c h. put_all_other v _ c (λ w. no_both (in_row (word_cell d m i) 0 _ c h) (in_row (word_cell d m a) 0 _ c (written_in _ bs c w))))
  where
    no_both : {c : Cell} → (j : ℕ) × (0 ≤ j) × (j < 0 + (memory_at d m).width) × (word_cell d m i j ≡ c) → (k : ℕ) × (0 ≤ k) × (k < 0 + (memory_at d m).width) × (word_cell d m a k ≡ c) → ⊥
    no_both here there =
        let same : i * (memory_at d m).width + here.0 ≡ a * (memory_at d m).width + there.0 = ap (λ (x : Cell). x.place) (here.3 ∙ sym there.3) in
        apart (same_from_place i here.0 a there.0 (memory_at d m).width (omega (arith, here.2)) (omega (arith, there.2)) same).0
