-- The cells of a design: whether a cell is one of them is a test, and a cell that is not one of them is not written.
use Rattle.std.proofs.Common.{◌≡◌, ◌⊎◌, inl, inr, ⊎_elim, ℕ, zero, suc, ◌+◌, ◌-◌, ◌*◌, ◌<◌, ◌≤◌, ◌==◌, Bool, true, false, if◌then◌else◌, List, [], ◌∷◌, ◌++◌, map, length, min, max, refl, sym, ap, ap₂, subst, ◌∙◌, arith, eq-eqb}
use Rattle.std.specs.Prelude.{nat_le, nat_lt}
use Rattle.std.specs.List.{list_any, range_with_len}
use Rattle.std.proofs.lemmas.List.{get_or_past}
use Rattle.std.proofs.lemmas.Bool.{and_from, and_parts, cases_lt, eqb-true, false≢true, le-leb, leb-true, lt-ltb, ltb-true, or_cases, or_left, or_right}
use Rattle.design_model.specs.event_machine.Cell.{Cell, Values, same_cell}
use Rattle.design_model.specs.four_state.declared.bit.Bit.{Bit}
use Rattle.design_model.specs.Design.{Design, In, IsThing, Thing, a_signal, a_word, cell, cells, is_memory, memory_at, no_memory, no_signal, signal_at, signal_cells, thing_bits, word_cells}
use Rattle.design_model.specs.Execution.{Visit, at_line, at_node, reads, writes_word}
use Rattle.design_model.specs.Machine.{is_input_cell}
use Rattle.design_model.specs.BodyLaws.{all_cells, word_indexes, words_cells}
use Rattle.design_model.proofs.Agree.{AllOuter}
use Rattle.design_model.proofs.Along.{In-left, In-right}
use Rattle.design_model.proofs.ReadThings.{AllThings}

-- the cell is in the list
abbrev pub has : List Cell → Cell → Bool
has cs c = list_any (λ b. same_cell b c) cs

pub in_has : (cs : List Cell) (c : Cell) → has cs c ≡ true → In c cs
in_has [] c h = absurd (false≢true h)
in_has (b ∷ cs) c h = ⊎_elim (λ e. inl (same e)) (λ k. inr (in_has cs c k)) (or_cases (same_cell b c) (has cs c) h)
  where
    same : same_cell b c ≡ true → b ≡ c
    same e = let p = and_parts (b.thing == c.thing) (b.place == c.place) e in λ i. record { thing = eqb-true b.thing c.thing p.0 i; place = eqb-true b.place c.place p.1 i }

pub has_in : (cs : List Cell) (c : Cell) → In c cs → has cs c ≡ true
has_in [] c h = absurd h
has_in (b ∷ cs) c (inl e) = or_left (same_cell b c) (has cs c) (and_from (b.thing == c.thing) (b.place == c.place) (eq-eqb b.thing c.thing (ap (λ z. z.thing) e)) (eq-eqb b.place c.place (ap (λ z. z.place) e)))
has_in (b ∷ cs) c (inr h) = or_right (same_cell b c) (has cs c) (has_in cs c h)

-- the numbers of a range
range_in : (n k i : ℕ) → n ≤ i → i < n + k → In i (range_with_len n k)
range_in n zero i a b = absurd (omega (arith, a, b))
range_in n (suc k) i a b = ⊎_elim (λ over. inr (range_in (n + 1) k i (omega (arith, over)) (omega (arith, b)))) (λ same. inl (omega (arith, a, same))) (cases_lt n i)

in_range : (n k i : ℕ) → In i (range_with_len n k) → (n ≤ i) × (i < n + k)
in_range n zero i h = absurd h
in_range n (suc k) i (inl e) = (omega (arith, e), omega (arith, e))
in_range n (suc k) i (inr h) = let r = in_range (n + 1) k i h in (omega (arith, r.0), omega (arith, r.1))

-- the thing of a cell in a list of one thing's
thing_is : (x : ℕ) (f : ℕ → ℕ) (ks : List ℕ) (c : Cell) → In c (map (λ k. cell x (f k)) ks) → c.thing ≡ x
thing_is x f [] c h = absurd h
thing_is x f (k ∷ ks) c (inl e) = sym (ap (λ z. z.thing) e)
thing_is x f (k ∷ ks) c (inr h) = thing_is x f ks c h

-- the place of a cell of a signal
place_below : (x n k : ℕ) (c : Cell) → In c (map (cell x) (range_with_len n k)) → c.place < n + k
place_below x n zero c h = absurd h
place_below x n (suc k) c (inl e) = let at : n ≡ c.place = ap (λ z. z.place) e in omega (arith, at)
place_below x n (suc k) c (inr h) = let below = place_below x (n + 1) k c h in omega (arith, below)

pub signal_place : (d : Design) (c : Cell) → c.thing < length d.signals → In c (all_cells d c.thing) → c.place < (signal_at d c.thing).width
signal_place d c less h =
    let there : In c (signal_cells d c.thing) = subst (λ b. In c (if b then signal_cells d c.thing else words_cells d c.thing (word_indexes d c.thing))) (lt-ltb c.thing (length d.signals) less) h in
    let below = place_below c.thing 0 (signal_at d c.thing).width c there in
    omega (arith, below)

-- a cell of these words is one of some of them
word_with : (d : Design) (m : ℕ) (is : List ℕ) (c : Cell) → In c (words_cells d m is) → (i : ℕ) × In i is × In c (word_cells d m i)
word_with d m [] c h = absurd h
word_with d m (i ∷ is) c h = ⊎_elim (λ k. (i, inl refl, k)) (λ k. let r = word_with d m is c k in (r.0, inr r.1, r.2)) (halves (word_cells d m i) h)
  where
    halves : (xs : List Cell) → In c (xs ++ words_cells d m is) → In c xs ⊎ In c (words_cells d m is)
    halves [] h = inr h
    halves (x ∷ xs) (inl e) = inl (inl e)
    halves (x ∷ xs) (inr h) = ⊎_elim (λ k. inl (inr k)) (λ k. inr k) (halves xs h)

with_word : (d : Design) (m i : ℕ) (is : List ℕ) (c : Cell) → In i is → In c (word_cells d m i) → In c (words_cells d m is)
with_word d m i [] c h k = absurd h
with_word d m i (j ∷ js) c (inl e) k = In-left c (word_cells d m j) _ (subst (λ z. In c (word_cells d m z)) (sym e) k)
with_word d m i (j ∷ js) c (inr h) k = In-right c (word_cells d m j) _ (with_word d m i js c h k)

-- the cells of what is no signal
of_words : (d : Design) (m : ℕ) (c : Cell) → length d.signals ≤ m → In c (all_cells d m) → In c (words_cells d m (word_indexes d m))
of_words d m c most h = by_test (nat_lt m (length d.signals)) refl h
  where
    by_test : (b : Bool) → nat_lt m (length d.signals) ≡ b → In c (if b then signal_cells d m else words_cells d m (word_indexes d m)) → In c (words_cells d m (word_indexes d m))
    by_test false is k = k
    by_test true is k = absurd (let less = ltb-true m (length d.signals) is in omega (arith, less, most))

to_words : (d : Design) (m : ℕ) (c : Cell) → length d.signals ≤ m → In c (words_cells d m (word_indexes d m)) → In c (all_cells d m)
to_words d m c most h = by_test (nat_lt m (length d.signals)) refl
  where
    by_test : (b : Bool) → nat_lt m (length d.signals) ≡ b → In c (if b then signal_cells d m else words_cells d m (word_indexes d m))
    by_test false is = h
    by_test true is = absurd (let less = ltb-true m (length d.signals) is in omega (arith, less, most))

-- only a memory has words with bits
memory_of : (d : Design) (m i : ℕ) (c : Cell) → length d.signals ≤ m → In c (word_cells d m i) → is_memory d m ≡ true
memory_of d m i c most h = ⊎_elim (λ less. and_from (nat_le (length d.signals) m) (nat_lt m (length d.signals + length d.memories)) (le-leb (length d.signals) m most) (lt-ltb m (length d.signals + length d.memories) less)) (λ past. absurd (none past)) (cases_lt m (length d.signals + length d.memories))
  where
    nothing : (w : ℕ) → w ≡ 0 → In c (map (λ k. cell m (i * w + k)) (range_with_len 0 w)) → ⊥
    nothing w e k = subst (λ z. In c (map (λ k. cell m (i * z + k)) (range_with_len 0 z))) e k

    none : length d.signals + length d.memories ≤ m → ⊥
    none past = nothing (memory_at d m).width no_width h
      where
        no_width : (memory_at d m).width ≡ 0
        no_width = rw (le-leb (length d.signals) m most, get_or_past d.memories (m - length d.signals) no_memory (omega (arith, past))) refl

-- a cell of the design that is of no signal is one of a word
pub word_of_cell : (d : Design) (c : Cell) → length d.signals ≤ c.thing → In c (all_cells d c.thing) → (i : ℕ) × IsThing d (a_word c.thing i) × In c (word_cells d c.thing i)
word_of_cell d c most h =
    let w = word_with d c.thing (word_indexes d c.thing) c (of_words d c.thing c most h) in
    let low : ℕ = min (memory_at d c.thing).first (memory_at d c.thing).last in
    let high : ℕ = max (memory_at d c.thing).first (memory_at d c.thing).last in
    let r = in_range low (high - low + 1) w.0 w.1 in
    (w.0, (memory_of d c.thing w.0 c most w.2, r.0, omega (arith, r.0, r.1)), w.2)

-- the cells of a thing are of the design
pub cells_of_thing : (d : Design) (x : Thing) (c : Cell) → IsThing d x → In c (cells d x) → In c (all_cells d c.thing)
cells_of_thing d (a_signal s) c is h =
    subst (λ z. In c (all_cells d z)) (sym (thing_is s (λ k. k) (range_with_len 0 (signal_at d s).width) c h)) (subst (λ b. In c (if b then signal_cells d s else words_cells d s (word_indexes d s))) (sym (lt-ltb s (length d.signals) is)) h)
cells_of_thing d (a_word m i) c is h =
    let most : length d.signals ≤ m = leb-true (length d.signals) m (and_parts (nat_le (length d.signals) m) _ is.0).0 in
    let low : ℕ = min (memory_at d m).first (memory_at d m).last in
    let high : ℕ = max (memory_at d m).first (memory_at d m).last in
    subst (λ z. In c (all_cells d z)) (sym (thing_is m (λ k. i * (memory_at d m).width + k) (range_with_len 0 (memory_at d m).width) c h))
    (to_words d m c most (with_word d m i (word_indexes d m) c (range_in low (high - low + 1) i is.1 (omega (arith, is.1, is.2))) h))

-- equal bits of a list of cells are equal at each cell
abbrev first_or : Bit → List Bit → Bit
first_or b [] = b
first_or b (c ∷ cs) = c

abbrev rest_of : List Bit → List Bit
rest_of [] = []
rest_of (c ∷ cs) = cs

pub pick_in : (u v : Values Bit) (cs : List Cell) (c : Cell) → map u cs ≡ map v cs → In c cs → u c ≡ v c
pick_in u v [] c e h = absurd h
pick_in u v (b ∷ cs) c e (inl is) = subst (λ z. u z ≡ v z) is (ap (first_or (u b)) e)
pick_in u v (b ∷ cs) c e (inr h) = pick_in u v cs c (ap rest_of e) h

pub map_same : (u v : Values Bit) (cs : List Cell) → ((c : Cell) → In c cs → u c ≡ v c) → map u cs ≡ map v cs
map_same u v [] h = refl
map_same u v (b ∷ cs) h = ap₂ (λ x xs. x ∷ xs) (h b (inl refl)) (map_same u v cs (λ c k. h c (inr k)))

-- u on the cells of the design, w elsewhere
abbrev pub on_design : Design → Values Bit → Values Bit → Values Bit
on_design d u w c = if has (all_cells d c.thing) c then u c else w c

pub on_cell : (d : Design) (u w : Values Bit) (c : Cell) → In c (all_cells d c.thing) → on_design d u w c ≡ u c
on_cell d u w c h = ap (λ b. if b then u c else w c) (has_in (all_cells d c.thing) c h)

pub on_thing : (d : Design) (u w : Values Bit) (x : Thing) → IsThing d x → thing_bits d u x ≡ thing_bits d (on_design d u w) x
on_thing d u w x is = map_same u (on_design d u w) (cells d x) (λ c h. sym (on_cell d u w c (cells_of_thing d x c is h)))

pub outer_on : (d : Design) (u w : Values Bit) (xs : List Visit) → AllThings d xs → AllOuter d u (on_design d u w) xs
outer_on d u w [] a = tt
outer_on d u w (at_line n ∷ xs) a = (tt, outer_on d u w xs a.1)
outer_on d u w (at_node n c ∷ xs) a = (tt, outer_on d u w xs a.1)
outer_on d u w (writes_word m i ∷ xs) a = (tt, outer_on d u w xs a.1)
outer_on d u w (reads x true ∷ xs) a = (tt, outer_on d u w xs a.1)
outer_on d u w (reads x false ∷ xs) a = (on_thing d u w x a.0, outer_on d u w xs a.1)

-- a bit of a signal is among its cells
pub in_signal : (d : Design) (c : Cell) → c.place < (signal_at d c.thing).width → In c (signal_cells d c.thing)
in_signal d c below = go 0 (signal_at d c.thing).width (omega arith) (omega (arith, below))
  where
    go : (n k : ℕ) → n ≤ c.place → c.place < n + k → In c (map (cell c.thing) (range_with_len n k))
    go n zero a b = absurd (omega (arith, a, b))
    go n (suc k) a b = ⊎_elim (λ over. inr (go (n + 1) k (omega (arith, over)) (omega (arith, b)))) (λ same. inl (at (omega (arith, a, same)))) (cases_lt n c.place)
      where
        at : n ≡ c.place → cell c.thing n ≡ c
        at e = λ i. record { thing = c.thing; place = e i }

-- an input cell is a cell of the design
pub input_cell : (d : Design) (c : Cell) → is_input_cell d c ≡ true → In c (all_cells d c.thing)
input_cell d c input =
    let p = and_parts (signal_at d c.thing).input (nat_lt c.place (signal_at d c.thing).width) input in
    ⊎_elim (λ less. cells_of_thing d (a_signal c.thing) c less (in_signal d c (ltb-true c.place (signal_at d c.thing).width p.1))) (λ past. absurd (false≢true (sym (ap (λ s. s.input) (get_or_past d.signals c.thing no_signal past)) ∙ p.0))) (cases_lt c.thing (length d.signals))
