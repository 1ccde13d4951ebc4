-- What follows from the words that a read and a write leave: which words are allowed, and which are those of a design.
use Rattle.std.proofs.Common.{◌≡◌, ℕ, zero, suc, ◌+◌, ◌*◌, ◌-◌, ◌<◌, ◌≤◌, ◌==◌, min, max, Bool, true, false, ◌&&◌, if◌then◌else◌, List, [], ◌∷◌, ◌++◌, length, map, Option, Some, None, refl, sym, ap, ap₂, subst, ◌∙◌, inl, inr, ⊎_elim, arith, eq-eqb}
use Rattle.std.specs.Prelude.{nat_le, ℤ, pos, negsuc}
use Rattle.std.specs.List.{range_with_len}
use Rattle.std.proofs.lemmas.List.{get_or-replicate}
use Rattle.std.proofs.lemmas.Bool.{cases_Bool, cases_eq, eqb-true, false≢true}
use Rattle.body_replay.specs.event_machine.Cell.{Cell}
use Rattle.four_state.specs.declared.bit.Bit.{Bit}
use Rattle.four_state.specs.declared.bit.Bit.TheVariants.{X}
use Rattle.four_state.specs.Vector.{Vector, fill}
use Rattle.four_state.specs.Arithmetic.{low_bits}
use Rattle.four_state.specs.Parts.{index}
use Rattle.known_state.specs.Partly.{Partly, allows_bits, is_whole, whole_of}
use Rattle.known_state.specs.Join.{joined}
use Rattle.body_replay.specs.design_model.Design.{Design, In, memory_at, word_cells, cell}
use Rattle.body_replay.specs.design_model.declared.design.Memory.{Memory}
use Rattle.body_replay.specs.design_model.Value.{named_word}
use Rattle.body_replay.specs.KnownBits.{AllAllow, KnownBits, on_whole, sure, whole_bits, unknown}
use Rattle.body_replay.specs.Store.{Kept, KnownWrite, is_word, join_words, keep_all, known_word_writes, may_name, option_kept, perhaps_words, read_word, weaken, words, writes_of}
use Rattle.body_replay.proofs.Answered.{same_sure}
use Rattle.body_replay.proofs.Frames.{Misses, miss_weaken, missed}
use Rattle.body_replay.proofs.Operators.{on_whole_sound, sure_allows, whole_sure, zip_left, zip_right}
use Rattle.body_replay.proofs.Stored.{unsure_word_stored, weak_word_stored, word_stored}
use Rattle.body_replay.proofs.Unsure.{not_whole, whole_is}
use Rattle.body_replay.proofs.Values.{named_bounds, named_may}
use Rattle.body_replay.proofs.Words.{other_word}
use Rattle.memory_rebuild.specs.Words.{AllowsWords, HaveWidth, IsForgotten, IsIndex, KnownWords, StandsFor, bits_left, bits_read, cell_writes, count, least, may_be, memory_of, named_by, option_word, true_word, true_words, word_after, word_at, unwritten}
use Rattle.memory_rebuild.specs.declared.shape.Shape.{Shape}
use Rattle.memory_rebuild.proofs.Reading.{join_length, joined_from}

-- ---- tests of names

is_word_some : (o : Option ℕ) (i : ℕ) → is_word o i ≡ true → o ≡ Some i
is_word_some None i e = absurd (false≢true e)
is_word_some (Some k) i e = ap Some (eqb-true k i e)

some_is_word : (o : Option ℕ) (i : ℕ) → o ≡ Some i → is_word o i ≡ true
some_is_word o i e = ap (λ p. is_word p i) e ∙ eq-eqb i i refl

-- a word that an allowed index names is one that it may name
named_is_may : (s : Shape) (k : Partly) (is : List Bit) (i : ℕ) → AllAllow k.bits is → is_word (named_by s k.signed is) i ≡ true → may_be s k i ≡ true
named_is_may s k is i h e = named_may (memory_of s) k.signed k.bits is i h (is_word_some (named_by s k.signed is) i e)

pub named_index : (s : Shape) (signed : Bool) (is : List Bit) (i : ℕ) → named_by s signed is ≡ Some i → IsIndex s i
named_index s signed is i e = let b = named_bounds (memory_of s) (index signed is) i e in (b.above, b.below)

-- ---- a read allows the true word

module _ (r : KnownWords) (k : Partly) (sizes : HaveWidth r) (v : ℕ → List Bit) (allowed : AllowsWords r v) where
  strange_allowed : (a n : ℕ) → AllAllow (joined_from r k a n) (fill r.shape.width X)
  strange_allowed a zero = sure_allows (fill r.shape.width X)
  strange_allowed a (suc n) = go (may_be r.shape k a) (strange_allowed (a + 1) n)
    where
      go : (t : Bool) → AllAllow (joined_from r k (a + 1) n) (fill r.shape.width X) → AllAllow (if t then joined (word_at r a) (joined_from r k (a + 1) n) else joined_from r k (a + 1) n) (fill r.shape.width X)
      go false ih = ih
      go true ih = zip_right (word_at r a) (joined_from r k (a + 1) n) (fill r.shape.width X) (sizes a ∙ sym (join_length r k sizes (a + 1) n)) ih

  word_allowed : (i a n : ℕ) → IsIndex r.shape i → may_be r.shape k i ≡ true → a ≤ i → i < a + n → AllAllow (joined_from r k a n) (v i)
  word_allowed i a zero at may low high = absurd (omega (arith, low, high))
  word_allowed i a (suc n) at may low high = go (a == i) refl (λ above. word_allowed i (a + 1) n at may above (omega (arith, high)))
    where
      here : may_be r.shape k a ≡ true → AllAllow (word_at r a) (v i) → AllAllow (joined_from r k a (suc n)) (v i)
      here e h =
          subst (λ t. AllAllow (if t then joined (word_at r a) (joined_from r k (a + 1) n) else joined_from r k (a + 1) n) (v i)) (sym e)
          (zip_left (word_at r a) (joined_from r k (a + 1) n) (v i) (sizes a ∙ sym (join_length r k sizes (a + 1) n)) h)

      later : (t : Bool) → AllAllow (joined_from r k (a + 1) n) (v i) → AllAllow (if t then joined (word_at r a) (joined_from r k (a + 1) n) else joined_from r k (a + 1) n) (v i)
      later false h = h
      later true h = zip_right (word_at r a) (joined_from r k (a + 1) n) (v i) (sizes a ∙ sym (join_length r k sizes (a + 1) n)) h

      go : (t : Bool) → (a == i) ≡ t → (a + 1 ≤ i → AllAllow (joined_from r k (a + 1) n) (v i)) → AllAllow (joined_from r k a (suc n)) (v i)
      go true e ih =
          let same : a ≡ i = eqb-true a i e in
          here (subst (λ b. may_be r.shape k b ≡ true) (sym same) may) (subst (λ b. AllAllow (word_at r b) (v i)) (sym same) (allowed i at))
      go false e ih = later (may_be r.shape k a) (ih (above (λ same. false≢true (sym e ∙ eq-eqb a i same))))
        where
          above : (a ≡ i → ⊥) → a + 1 ≤ i
          above ne = omega (arith, low, ne)

  pub read_sound : (is : List Bit) → AllAllow k.bits is → AllAllow (bits_read r k) (true_word r.shape v (named_by r.shape k.signed is))
  read_sound is h =
      on_whole_sound (λ ps. AllAllow ps (true_word r.shape v (named_by r.shape k.signed is))) k.bits is (λ bs. option_word r (named_by r.shape k.signed bs)) (joined_from r k (least r.shape) (count r.shape)) h
      (sure_one (named_by r.shape k.signed is) refl) (unsure_one (named_by r.shape k.signed is) refl)
    where
      sure_one : (o : Option ℕ) → named_by r.shape k.signed is ≡ o → AllAllow (option_word r o) (true_word r.shape v o)
      sure_one None e = sure_allows (fill r.shape.width X)
      sure_one (Some i) e = allowed i (named_index r.shape k.signed is i e)

      unsure_one : (o : Option ℕ) → named_by r.shape k.signed is ≡ o → AllAllow (joined_from r k (least r.shape) (count r.shape)) (true_word r.shape v o)
      unsure_one None e = strange_allowed (least r.shape) (count r.shape)
      unsure_one (Some i) e =
          let at = named_index r.shape k.signed is i e in
          let low : min r.shape.first r.shape.last ≤ i = at.0 in
          let high : i ≤ max r.shape.first r.shape.last = at.1 in
          word_allowed i (least r.shape) (count r.shape) at (named_is_may r.shape k is i h (some_is_word (named_by r.shape k.signed is) i e)) low (omega (arith, low, high))

pub read_by_sure : (r : KnownWords) (k : Partly) (is : List Bit) → whole_bits k.bits ≡ Some is → bits_read r k ≡ option_word r (named_by r.shape k.signed is)
read_by_sure r k is e = ap (λ o. on_whole o (λ bs. option_word r (named_by r.shape k.signed bs)) (joined_from r k (least r.shape) (count r.shape))) e

-- ---- what a write leaves of a word

module _ (r : KnownWords) (k : Partly) (value : KnownBits) (certain : Bool) (i : ℕ) where
  abbrev left_by : Option (List Bit) → KnownBits
  left_by o = on_whole o (λ bs. if is_word (named_by r.shape k.signed bs) i then bits_left certain value (word_at r i) else word_at r i) (if may_be r.shape k i then joined (word_at r i) value else word_at r i)

  -- one that the index cannot name
  pub other_left : may_be r.shape k i ≡ false → word_after r k value certain i ≡ word_at r i
  other_left free = go (whole_bits k.bits) refl
    where
      unnamed : (bs : List Bit) → whole_bits k.bits ≡ Some bs → (t : Bool) → is_word (named_by r.shape k.signed bs) i ≡ t → (if t then bits_left certain value (word_at r i) else word_at r i) ≡ word_at r i
      unnamed bs e false f = refl
      unnamed bs e true f = absurd (false≢true (sym free ∙ named_is_may r.shape k bs i (subst (λ z. AllAllow z bs) (sym (whole_is k.bits bs e)) (sure_allows bs)) f))

      go : (o : Option (List Bit)) → whole_bits k.bits ≡ o → left_by o ≡ word_at r i
      go None e = ap (λ t. if t then joined (word_at r i) value else word_at r i) free
      go (Some bs) e = unnamed bs e (is_word (named_by r.shape k.signed bs) i) refl

  -- the one that a sure index names
  pub named_left : (is : List Bit) → whole_bits k.bits ≡ Some is → named_by r.shape k.signed is ≡ Some i → word_after r k value certain i ≡ bits_left certain value (word_at r i)
  named_left is e f = ap left_by e ∙ ap (λ t. if t then bits_left certain value (word_at r i) else word_at r i) (some_is_word (named_by r.shape k.signed is) i f)

  -- the true word after the write is allowed
  pub write_sound : (v : ℕ → List Bit) (is bs : List Bit) → length (word_at r i) ≡ length value → AllAllow (word_at r i) (v i) → AllAllow k.bits is → AllAllow value bs → AllAllow (word_after r k value certain i) (true_words v (named_by r.shape k.signed is) bs i)
  write_sound v is bs size h of_index of_value =
      on_whole_sound (λ ps. AllAllow ps (true_words v (named_by r.shape k.signed is) bs i)) k.bits is (λ cs. if is_word (named_by r.shape k.signed cs) i then bits_left certain value (word_at r i) else word_at r i) (if may_be r.shape k i then joined (word_at r i) value else word_at r i) of_index
      (surely (is_word (named_by r.shape k.signed is) i)) (perhaps (is_word (named_by r.shape k.signed is) i) refl (may_be r.shape k i) refl)
    where
      left : (t : Bool) → AllAllow (bits_left t value (word_at r i)) bs
      left true = of_value
      left false = zip_right (word_at r i) value bs size of_value

      surely : (t : Bool) → AllAllow (if t then bits_left certain value (word_at r i) else word_at r i) (if t then bs else v i)
      surely true = left certain
      surely false = h

      perhaps : (t : Bool) → is_word (named_by r.shape k.signed is) i ≡ t → (u : Bool) → may_be r.shape k i ≡ u → AllAllow (if u then joined (word_at r i) value else word_at r i) (if t then bs else v i)
      perhaps true e true f = zip_right (word_at r i) value bs size of_value
      perhaps true e false f = absurd (false≢true (sym f ∙ named_is_may r.shape k is i of_index e))
      perhaps false e true f = zip_left (word_at r i) value (v i) size h
      perhaps false e false f = h

-- a write that is not certain keeps the word allowed
pub weak_sound : (r : KnownWords) (k : Partly) (value : KnownBits) (i : ℕ) (bs : List Bit) → length (word_at r i) ≡ length value → AllAllow (word_at r i) bs → AllAllow (word_after r k value false i) bs
weak_sound r k value i bs size h = go (whole_bits k.bits)
  where
    one : (t : Bool) → AllAllow (if t then joined (word_at r i) value else word_at r i) bs
    one true = zip_left (word_at r i) value bs size h
    one false = h

    go : (o : Option (List Bit)) → AllAllow (left_by r k value false i o) bs
    go None = one (may_be r.shape k i)
    go (Some cs) = one (is_word (named_by r.shape k.signed cs) i)

-- ---- the words of a design

named_same : (m n : Memory) → m.first ≡ n.first → m.last ≡ n.last → (o : Option ℤ) → named_word m o ≡ named_word n o
named_same m n e f None = refl
named_same m n e f (Some (negsuc k)) = refl
named_same m n e f (Some (pos k)) = ap₂ (λ a b. if nat_le (min a b) k && nat_le k (max a b) then Some k else None) e f

may_same : (m n : Memory) → m.first ≡ n.first → m.last ≡ n.last → (signed : Bool) (ps : KnownBits) (i : ℕ) → may_name m signed ps i ≡ may_name n signed ps i
may_same m n e f signed ps i = ap (λ o. allows_bits ps (low_bits (length ps) i) && is_word o i) (named_same m n e f (index signed (low_bits (length ps) i)))

module _ (d : Design) (b : Kept) (m : ℕ) (r : KnownWords) (is : StandsFor d b m r) (k : Partly) where
  abbrev at : Memory
  at = memory_at d m

  join_stands : (a n : ℕ) → min r.shape.first r.shape.last ≤ a → a + n ≤ max r.shape.first r.shape.last + 1 → joined_from r k a n ≡ join_words d b m (may_name (memory_at d m) k.signed k.bits) (range_with_len a n)
  join_stands a zero low high = ap (λ w. sure (fill w X)) is.width
  join_stands a (suc n) low high =
      ap₂ (λ t ps. if t then joined (word_at r a) ps else ps) (may_same (memory_of r.shape) (memory_at d m) is.first is.last k.signed k.bits a) (join_stands (a + 1) n (omega (arith, low)) (omega (arith, high)))
      ∙ ap (λ ws. if may_name (memory_at d m) k.signed k.bits a then joined ws (join_words d b m (may_name (memory_at d m) k.signed k.bits) (range_with_len (a + 1) n)) else join_words d b m (may_name (memory_at d m) k.signed k.bits) (range_with_len (a + 1) n)) (is.words a (low, omega (arith, high)))

  option_stands : (o : Option ℕ) → ((i : ℕ) → o ≡ Some i → IsIndex r.shape i) → option_word r o ≡ option_kept d b m o
  option_stands None h = ap (λ w. sure (fill w X)) is.width
  option_stands (Some i) h = is.words i (h i refl)

  same_words : range_with_len (least r.shape) (count r.shape) ≡ words (memory_at d m)
  same_words = ap₂ (λ x y. range_with_len (min x y) (max x y - min x y + 1)) is.first is.last

  pub read_stands : bits_read r k ≡ read_word d b m k.signed k.bits
  read_stands = go (whole_bits k.bits)
    where
      all : joined_from r k (least r.shape) (count r.shape) ≡ join_words d b m (may_name (memory_at d m) k.signed k.bits) (words (memory_at d m))
      all = join_stands (least r.shape) (count r.shape) (omega arith) (omega arith) ∙ ap (join_words d b m (may_name (memory_at d m) k.signed k.bits)) same_words

      go : (o : Option (List Bit)) → on_whole o (λ bs. option_word r (named_by r.shape k.signed bs)) (joined_from r k (least r.shape) (count r.shape)) ≡ on_whole o (λ bs. option_kept d b m (named_word (memory_at d m) (index k.signed bs))) (join_words d b m (may_name (memory_at d m) k.signed k.bits) (words (memory_at d m)))
      go None = all
      go (Some bs) = option_stands (named_by r.shape k.signed bs) (λ i e. named_index r.shape k.signed bs i e) ∙ ap (option_kept d b m) (named_same (memory_of r.shape) (memory_at d m) is.first is.last (index k.signed bs))

-- the cells of a word that no write names
map_same : (cs : List Cell) (p q : Kept) → ((c : Cell) → In c cs → p c ≡ q c) → map p cs ≡ map q cs
map_same [] p q f = refl
map_same (c ∷ cs) p q f = ap₂ (λ x y. x ∷ y) (f c (inl refl)) (map_same cs p q (λ e h. f e (inr h)))

-- writes that are not certain are not made less so
weak_append : (xs ys : List KnownWrite) → weaken (xs ++ ys) ≡ weaken xs ++ weaken ys
weak_append [] ys = refl
weak_append (x ∷ xs) ys = ap (λ zs. record x { certain = false } ∷ zs) (weak_append xs ys)

weak_twice : (xs : List KnownWrite) → weaken (weaken xs) ≡ weaken xs
weak_twice [] = refl
weak_twice (x ∷ xs) = ap (λ zs. record x { certain = false } ∷ zs) (weak_twice xs)

weak_words : (d : Design) (m : ℕ) (may : ℕ → Bool) (js : List ℕ) (ps : KnownBits) → weaken (perhaps_words d m may js ps) ≡ perhaps_words d m may js ps
weak_words d m may [] ps = refl
weak_words d m may (j ∷ js) ps = go (may j) (weak_words d m may js ps)
  where
    go : (t : Bool) → weaken (perhaps_words d m may js ps) ≡ perhaps_words d m may js ps → weaken (if t then weaken (writes_of (word_cells d m j) ps) ++ perhaps_words d m may js ps else perhaps_words d m may js ps) ≡ (if t then weaken (writes_of (word_cells d m j) ps) ++ perhaps_words d m may js ps else perhaps_words d m may js ps)
    go false ih = ih
    go true ih = weak_append (weaken (writes_of (word_cells d m j) ps)) (perhaps_words d m may js ps) ∙ ap₂ (λ x y. x ++ y) (weak_twice (writes_of (word_cells d m j) ps)) ih

module _ (d : Design) (b : Kept) (m : ℕ) (r : KnownWords) (is : StandsFor d b m r) (k : Partly) (value : KnownBits) (size : length value ≡ r.shape.width) (i : ℕ) (inside : IsIndex r.shape i) where
  abbrev after : List KnownWrite → KnownBits
  after ks = map (keep_all b ks) (word_cells d m i)

  fits : length value ≡ (memory_at d m).width
  fits = size ∙ is.width

  -- the named word alone is written
  named_stands : (certain : Bool) (o : Option ℕ) → (if is_word o i then bits_left certain value (word_at r i) else word_at r i) ≡ after (if certain then known_word_writes d m o value else weaken (known_word_writes d m o value))
  named_stands true None = is.words i inside
  named_stands false None = is.words i inside
  named_stands certain (Some j) = go (j == i) refl certain
    where
      missed_word : (ks : List KnownWrite) → ((c : Cell) → In c (word_cells d m i) → Misses c ks) → word_at r i ≡ after ks
      missed_word ks free = is.words i inside ∙ sym (map_same (word_cells d m i) (keep_all b ks) b (λ c h. missed c ks b (free c h)))

      go : (t : Bool) → (j == i) ≡ t → (certain : Bool) → (if t then bits_left certain value (word_at r i) else word_at r i) ≡ after (if certain then writes_of (word_cells d m j) value else weaken (writes_of (word_cells d m j) value))
      go true e true = sym (ap (λ n. after (writes_of (word_cells d m n) value)) (eqb-true j i e) ∙ word_stored d m i b value fits)
      go true e false = ap (λ ps. joined ps value) (is.words i inside) ∙ sym (ap (λ n. after (weaken (writes_of (word_cells d m n) value))) (eqb-true j i e) ∙ weak_word_stored d m i b value fits)
      go false e true = missed_word (writes_of (word_cells d m j) value) (λ c h. other_word d m i c h j e value)
      go false e false = missed_word (weaken (writes_of (word_cells d m j) value)) (λ c h. miss_weaken c (writes_of (word_cells d m j) value) (other_word d m i c h j e value))

  perhaps_stands : (if may_be r.shape k i then joined (word_at r i) value else word_at r i) ≡ after (perhaps_words d m (may_name (memory_at d m) k.signed k.bits) (words (memory_at d m)) value)
  perhaps_stands =
      ap₂ (λ t ps. if t then joined ps value else ps) (may_same (memory_of r.shape) (memory_at d m) is.first is.last k.signed k.bits i) (is.words i inside)
      ∙ sym (ap (λ js. after (perhaps_words d m (may_name (memory_at d m) k.signed k.bits) js value)) (sym (same_words d b m r is k)) ∙ unsure_word_stored d m i (may_name (memory_at d m) k.signed k.bits) value fits (least r.shape) (count r.shape) inside.0 (let low : min r.shape.first r.shape.last ≤ i = inside.0 in let high : i ≤ max r.shape.first r.shape.last = inside.1 in omega (arith, low, high)) b)

  write_stands : (certain : Bool) → word_after r k value certain i ≡ after (cell_writes d m k value certain)
  write_stands certain = go (whole_bits k.bits) certain
    where
      go : (o : Option (List Bit)) (certain : Bool) → left_by r k value certain i o ≡ after (if certain then on_whole o (λ bs. known_word_writes d m (named_word (memory_at d m) (index k.signed bs)) value) (perhaps_words d m (may_name (memory_at d m) k.signed k.bits) (words (memory_at d m)) value) else weaken (on_whole o (λ bs. known_word_writes d m (named_word (memory_at d m) (index k.signed bs)) value) (perhaps_words d m (may_name (memory_at d m) k.signed k.bits) (words (memory_at d m)) value)))
      go None true = perhaps_stands
      go None false = perhaps_stands ∙ ap after (sym (weak_words d m (may_name (memory_at d m) k.signed k.bits) (words (memory_at d m)) value))
      go (Some bs) certain =
          named_stands certain (named_by r.shape k.signed bs)
          ∙ ap (λ o. after (if certain then known_word_writes d m o value else weaken (known_word_writes d m o value))) (named_same (memory_of r.shape) (memory_at d m) is.first is.last (index k.signed bs))

-- after a write the words are those of the design after the writes to its cells
pub after_stands : (d : Design) (b : Kept) (m : ℕ) (r s : KnownWords) (k : Partly) (value : KnownBits) (certain : Bool) → StandsFor d b m r → length value ≡ r.shape.width → s.shape ≡ r.shape → ((i : ℕ) → IsIndex r.shape i → word_at s i ≡ word_after r k value certain i) → StandsFor d (keep_all b (cell_writes d m k value certain)) m s
after_stands d b m r s k value certain is size same left =
    record {
      first = ap (λ x. x.first) same ∙ is.first;
      last = ap (λ x. x.last) same ∙ is.last;
      width = ap (λ x. x.width) same ∙ is.width;
      words = λ i at. let inside : IsIndex r.shape i = subst (λ x. IsIndex x i) same at in left i inside ∙ write_stands d b m r is k value size i inside certain;
    }

-- ---- the words after a write

-- the words are those that a write leaves of others
pub record AreLeft (r s : KnownWords) (k : Partly) (value : KnownBits) (certain : Bool) : Type 0 where
  pub same : s.shape ≡ r.shape
  pub widths : HaveWidth r
  pub size : length value ≡ r.shape.width
  pub words : (i : ℕ) → IsIndex r.shape i → word_at s i ≡ word_after r k value certain i

-- counted by places
pub left_by_places : (r s : KnownWords) (k : Partly) (value : KnownBits) (certain : Bool) → s.shape ≡ r.shape → HaveWidth r → length value ≡ r.shape.width → ((q : ℕ) → q < count r.shape → word_at s (least r.shape + q) ≡ word_after r k value certain (least r.shape + q)) → AreLeft r s k value certain
left_by_places r s k value certain same widths size f =
    record {
      same = same;
      widths = widths;
      size = size;
      words = λ i at.
          let low : min r.shape.first r.shape.last ≤ i = at.0 in
          let high : i ≤ max r.shape.first r.shape.last = at.1 in
          let place : least r.shape + (i - least r.shape) ≡ i = omega (arith, low) in
          subst (λ j. word_at s j ≡ word_after r k value certain j) place (f (i - least r.shape) (omega (arith, low, high)));
    }

module _ (r s : KnownWords) (k : Partly) (value : KnownBits) (certain : Bool) (l : AreLeft r s k value certain) where
  at_same : (i : ℕ) → IsIndex s.shape i → IsIndex r.shape i
  at_same i at = subst (λ x. IsIndex x i) l.same at

  pub left_sound : (v : ℕ → List Bit) (is bs : List Bit) → AllowsWords r v → AllAllow k.bits is → AllAllow value bs → AllowsWords s (true_words v (named_by r.shape k.signed is) bs)
  left_sound v is bs h of_index of_value i at =
      subst (λ ps. AllAllow ps (true_words v (named_by r.shape k.signed is) bs i)) (sym (l.words i (at_same i at))) (write_sound r k value certain i v is bs (l.widths i ∙ sym l.size) (h i (at_same i at)) of_index of_value)

  pub left_weak : certain ≡ false → (v : ℕ → List Bit) → AllowsWords r v → AllowsWords s v
  left_weak e v h i at =
      subst (λ ps. AllAllow ps (v i)) (sym (l.words i (at_same i at) ∙ ap (λ t. word_after r k value t i) e)) (weak_sound r k value i (v i) (l.widths i ∙ sym l.size) (h i (at_same i at)))

  pub left_sure : (is : List Bit) (i : ℕ) → whole_bits k.bits ≡ Some is → named_by r.shape k.signed is ≡ Some i → word_at s i ≡ bits_left certain value (word_at r i)
  left_sure is i e f = l.words i (named_index r.shape k.signed is i f) ∙ named_left r k value certain i is e f

  pub left_others : (i : ℕ) → IsIndex r.shape i → may_be r.shape k i ≡ false → word_at s i ≡ word_at r i
  left_others i at free = l.words i at ∙ other_left r k value certain i free

  pub left_stands : (d : Design) (b : Kept) (m : ℕ) → StandsFor d b m r → StandsFor d (keep_all b (cell_writes d m k value certain)) m s
  left_stands d b m is = after_stands d b m r s k value certain is l.size l.same l.words

-- ---- the same of what the code does

-- by an index that is not sure no word is surely written
pub put_anywhere_left : (r s : KnownWords) (k : Partly) (value : KnownBits) (certain : Bool) → is_whole k ≡ false → ((q : ℕ) → q < count r.shape → word_at s (least r.shape + q) ≡ word_after r k value false (least r.shape + q)) → (q : ℕ) → q < count r.shape → word_at s (least r.shape + q) ≡ word_after r k value certain (least r.shape + q)
put_anywhere_left r s k value certain unsure f q l =
    f q l ∙ unsure_is false ∙ sym (unsure_is certain)
  where
    unsure_is : (t : Bool) → word_after r k value t (least r.shape + q) ≡ (if may_be r.shape k (least r.shape + q) then joined (word_at r (least r.shape + q)) value else word_at r (least r.shape + q))
    unsure_is t = not_whole k.bits (same_sure k.bits ∙ unsure) (λ bs. if is_word (named_by r.shape k.signed bs) (least r.shape + q) then bits_left t value (word_at r (least r.shape + q)) else word_at r (least r.shape + q)) (if may_be r.shape k (least r.shape + q) then joined (word_at r (least r.shape + q)) value else word_at r (least r.shape + q))

pub anywhere_left : (r s : KnownWords) (k : Partly) (value : KnownBits) → is_whole k ≡ false → ((q : ℕ) → q < count r.shape → word_at s (least r.shape + q) ≡ (if may_be r.shape k (least r.shape + q) then joined (word_at r (least r.shape + q)) value else word_at r (least r.shape + q))) → (q : ℕ) → q < count r.shape → word_at s (least r.shape + q) ≡ word_after r k value false (least r.shape + q)
anywhere_left r s k value unsure f q l =
    f q l ∙ sym (not_whole k.bits (same_sure k.bits ∙ unsure) (λ bs. if is_word (named_by r.shape k.signed bs) (least r.shape + q) then joined (word_at r (least r.shape + q)) value else word_at r (least r.shape + q)) (if may_be r.shape k (least r.shape + q) then joined (word_at r (least r.shape + q)) value else word_at r (least r.shape + q)))

-- what a sure index leaves
sure_after : (r : KnownWords) (k : Partly) (value : KnownBits) (certain : Bool) (v : Vector) (o : Option ℕ) (i : ℕ) → k ≡ whole_of v → named_by r.shape v.signed v.bits ≡ o → word_after r k value certain i ≡ (if is_word o i then bits_left certain value (word_at r i) else word_at r i)
sure_after r k value certain v o i is names =
    ap (λ x. word_after r x value certain i) is
    ∙ ap (λ t. on_whole t (λ bs. if is_word (named_by r.shape v.signed bs) i then bits_left certain value (word_at r i) else word_at r i) (if may_be r.shape (whole_of v) i then joined (word_at r i) value else word_at r i)) (whole_sure v.bits) ∙ ap (λ p. if is_word p i then bits_left certain value (word_at r i) else word_at r i) names

pub put_named : (r s : KnownWords) (k : Partly) (value : KnownBits) (certain : Bool) (v : Vector) (place : ℕ) (x : Shape) → x ≡ r.shape → k ≡ whole_of v → named_by x v.signed v.bits ≡ Some (least x + place) → word_at s (least r.shape + place) ≡ bits_left certain value (word_at r (least r.shape + place)) → ((q : ℕ) → q < count r.shape → (q ≡ place → ⊥) → word_at s (least r.shape + q) ≡ word_at r (least r.shape + q)) → (q : ℕ) → q < count r.shape → word_at s (least r.shape + q) ≡ word_after r k value certain (least r.shape + q)
put_named r s k value certain v place x same is names word others q l = ⊎_elim here there (cases_eq q place)
  where
    after : word_after r k value certain (least r.shape + q) ≡ (if is_word (Some (least r.shape + place)) (least r.shape + q) then bits_left certain value (word_at r (least r.shape + q)) else word_at r (least r.shape + q))
    after = sure_after r k value certain v (Some (least r.shape + place)) (least r.shape + q) is (subst (λ y. named_by y v.signed v.bits ≡ Some (least y + place)) same names)

    here : q ≡ place → word_at s (least r.shape + q) ≡ word_after r k value certain (least r.shape + q)
    here e =
        subst (λ p. word_at s (least r.shape + p) ≡ bits_left certain value (word_at r (least r.shape + p))) (sym e) word
        ∙ sym (after ∙ ap (λ t. if t then bits_left certain value (word_at r (least r.shape + q)) else word_at r (least r.shape + q)) (eq-eqb (least r.shape + place) (least r.shape + q) (ap (λ p. least r.shape + p) (sym e))))

    there : (q ≡ place → ⊥) → word_at s (least r.shape + q) ≡ word_after r k value certain (least r.shape + q)
    there ne = others q l ne ∙ sym (after ∙ ap (λ t. if t then bits_left certain value (word_at r (least r.shape + q)) else word_at r (least r.shape + q)) apart)
      where
        apart : (least r.shape + place == least r.shape + q) ≡ false
        apart = ⊎_elim (λ h. absurd (let sums : least r.shape + place ≡ least r.shape + q = eqb-true (least r.shape + place) (least r.shape + q) h in ne (omega (arith, sums)))) (λ h. h) (cases_Bool (least r.shape + place == least r.shape + q))

pub put_nothing : (r : KnownWords) (k : Partly) (value : KnownBits) (certain : Bool) (v : Vector) (x : Shape) → x ≡ r.shape → k ≡ whole_of v → named_by x v.signed v.bits ≡ None → (q : ℕ) → q < count r.shape → word_at r (least r.shape + q) ≡ word_after r k value certain (least r.shape + q)
put_nothing r k value certain v x same is names q l = sym (sure_after r k value certain v None (least r.shape + q) is (subst (λ y. named_by y v.signed v.bits ≡ None) same names))

-- ---- a memory that is forgotten

none_known : (b : Kept) (m w i : ℕ) → IsForgotten b m → (n k : ℕ) → map b (map (λ j. cell m (i * w + j)) (range_with_len n k)) ≡ unknown k
none_known b m w i none n zero = refl
none_known b m w i none n (suc k) = ap₂ (λ p ps. p ∷ ps) (none (cell m (i * w + n)) refl) (none_known b m w i none (n + 1) k)

pub unwritten_stands : (d : Design) (b : Kept) (m : ℕ) (s : Shape) → s.first ≡ (memory_at d m).first → s.last ≡ (memory_at d m).last → s.width ≡ (memory_at d m).width → IsForgotten b m → StandsFor d b m (unwritten s)
unwritten_stands d b m s first last width none =
    record {
      first = first;
      last = last;
      width = width;
      words = λ i at.
          let low : min s.first s.last ≤ i = at.0 in
          let high : i ≤ max s.first s.last = at.1 in
          get_or-replicate (count s) (i - least s) (unknown s.width) (unknown s.width) (omega (arith, low, high)) ∙ ap unknown width ∙ sym (none_known b m (memory_at d m).width i none 0 (memory_at d m).width);
    }
