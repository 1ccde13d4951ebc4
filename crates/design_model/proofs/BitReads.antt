-- The value of a term depends only on the bits that it may read; an assignment with constant indexes writes each cell of its target.
use Rattle.std.proofs.Common.{◌≡◌, ◌⊎◌, inl, inr, ⊎_elim, ℕ, zero, suc, ◌+◌, ◌*◌, ◌<◌, Bool, true, false, not, ◌&&◌, ◌||◌, ◌==◌, List, [], ◌∷◌, ◌++◌, map, length, refl, sym, ap, ap₂, subst, ◌∙◌, arith, eq-eqb, ℤ, pos, negsuc, ◌+ℤ◌, Option, Some, None, if◌then◌else◌, add-zero}
use Rattle.std.proofs.lemmas.Bool.{and_from, and_parts, or_left, or_right, ltb-true, eqb-true, false≢true}
use Rattle.std.specs.Prelude.{nat_lt, max}
use Rattle.std.specs.List.{range_with_len}
use Rattle.std.specs.Prelude.{slice_index_or}
use Rattle.event_machine.specs.Cell.{Cell, Values, Write, same_cell}
use Rattle.four_state.specs.Arithmetic.{natural}
use Rattle.four_state.specs.Parts.{bits_from, index, option_bit, within}
use Rattle.four_state.specs.Vector.{extend, fill, fit, top}
use Rattle.four_state.specs.declared.bit.Bit.{Bit}
use Rattle.four_state.specs.declared.bit.Bit.TheVariants.{X, Zero}
use Rattle.four_state.specs.declared.operator.Binary.{Binary}
use Rattle.design_model.specs.Tree.{Head, Term, Terms, a_term, binary, bit, bits_of, choice, concat, no_terms, number, part, repeat, sign, signal, slide, unary, word}
use Rattle.design_model.specs.Design.{Design, cell, is_memory, memory_at, signal_at, signal_bits}
use Rattle.design_model.specs.Value.{bits_from_option, head, joined, named_word, offset_option, option_word, part_width, range_of, slide_offset, value}
use Rattle.design_model.specs.Assignment.{bit_writes, bit_writes_option, option_cell, signal_range, writes_to}
use Rattle.design_model.specs.Mentions.{blank, has_cell, is_constant, static_writes}
use Rattle.design_model.specs.Shape.{are_alone, has_shape, is_logic, is_shaped, is_shift, is_wide_binary, is_wide_unary, own_sign, own_width}
use Rattle.design_model.specs.Lawful.{is_plain, may_read, slide_writes, some_may_read}
use Rattle.design_model.proofs.ConstantTerms.{value_constant}
use Rattle.design_model.proofs.Named.{WritesCell-from, length-fit, option_bits_range}

pub if_cases : (b x y : Bool) → (if b then x else y) ≡ true → (x ≡ true) ⊎ (y ≡ true)
if_cases true x y e = inl e
if_cases false x y e = inr e

if_three : (a b c p q r s : Bool) → (if a then p else (if b then q else (if c then r else s))) ≡ true → (p ≡ true) ⊎ ((q ≡ true) ⊎ ((r ≡ true) ⊎ (s ≡ true)))
if_three true b c p q r s e = inl e
if_three false true c p q r s e = inr (inl e)
if_three false false true p q r s e = inr (inr (inl e))
if_three false false false p q r s e = inr (inr (inr e))

-- what `is_shaped` asks of two operands
abbrev pub binary_shaped : Design → ℕ → Bool → Binary → Term → Term → Bool
binary_shaped d w g op t y =
    if is_wide_binary op then is_shaped d w g t && is_shaped d w g y else (if is_shift op then is_shaped d w g t && is_shaped d (own_width d y) (own_sign d y) y else (if is_logic op then is_shaped d (own_width d t) (own_sign d t) t && is_shaped d (own_width d y) (own_sign d y) y else is_shaped d (max (own_width d t) (own_width d y)) (own_sign d t && own_sign d y) t && is_shaped d (max (own_width d t) (own_width d y)) (own_sign d t && own_sign d y) y))

abbrev pub TwoShapes : Design → Term → Term → Type 0
TwoShapes d t y = (w1 : ℕ) × (g1 : Bool) × (w2 : ℕ) × (g2 : Bool) × (is_shaped d w1 g1 t ≡ true) × (is_shaped d w2 g2 y ≡ true)

two_shapes : (d : Design) (w1 w2 : ℕ) (g1 g2 : Bool) (t y : Term) → (is_shaped d w1 g1 t && is_shaped d w2 g2 y) ≡ true → TwoShapes d t y
two_shapes d w1 w2 g1 g2 t y e = let q = and_parts (is_shaped d w1 g1 t) (is_shaped d w2 g2 y) e in (w1, g1, w2, g2, q.0, q.1)

pub binary_shape : (d : Design) (w : ℕ) (g : Bool) (op : Binary) (t y : Term) → binary_shaped d w g op t y ≡ true → TwoShapes d t y
binary_shape d w g op t y e =
    ⊎_elim (two_shapes d w w g g t y)
    (⊎_elim (two_shapes d w (own_width d y) g (own_sign d y) t y)
    (⊎_elim (two_shapes d (own_width d t) (own_width d y) (own_sign d t) (own_sign d y) t y)
    (two_shapes d (max (own_width d t) (own_width d y)) (max (own_width d t) (own_width d y)) (own_sign d t && own_sign d y) (own_sign d t && own_sign d y) t y)))
    (if_three (is_wide_binary op) (is_shift op) (is_logic op) (is_shaped d w g t && is_shaped d w g y) (is_shaped d w g t && is_shaped d (own_width d y) (own_sign d y) y) (is_shaped d (own_width d t) (own_sign d t) t && is_shaped d (own_width d y) (own_sign d y) y) (is_shaped d (max (own_width d t) (own_width d y)) (own_sign d t && own_sign d y) t && is_shaped d (max (own_width d t) (own_width d y)) (own_sign d t && own_sign d y) y) e)

drop_and : (b c x : Bool) → c ≡ true → (not (b && c) || x) ≡ true → (not b || x) ≡ true
drop_and true c x e h = subst (λ z. (not z || x) ≡ true) e h
drop_and false c x e h = refl

module _ (d : Design) (u v : Values Bit) where
  cells_of : (s : ℕ) (ks : List ℕ) → ((k : ℕ) → u (cell s k) ≡ v (cell s k)) → map u (map (cell s) ks) ≡ map v (map (cell s) ks)
  cells_of s [] h = refl
  cells_of s (k ∷ ks) h = ap₂ (λ b bs. b ∷ bs) (h k) (cells_of s ks h)

  words_of : (m i w : ℕ) (ks : List ℕ) → ((k : ℕ) → u (cell m k) ≡ v (cell m k)) → map u (map (λ k. cell m (i * w + k)) ks) ≡ map v (map (λ k. cell m (i * w + k)) ks)
  words_of m i w [] h = refl
  words_of m i w (k ∷ ks) h = ap₂ (λ b bs. b ∷ bs) (h (i * w + k)) (words_of m i w ks h)

  option_words : (m : ℕ) (o : Option ℕ) → ((k : ℕ) → u (cell m k) ≡ v (cell m k)) → option_word d u m o ≡ option_word d v m o
  option_words m None h = refl
  option_words m (Some i) h = words_of m i (memory_at d m).width (range_with_len 0 (memory_at d m).width) h

  nth_same : (s k n j : ℕ) (b c : Bit) → u (cell s (n + j)) ≡ v (cell s (n + j)) → j < k → slice_index_or (fit k b (map u (map (cell s) (range_with_len n k)))) j X ≡ slice_index_or (fit k c (map v (map (cell s) (range_with_len n k)))) j X
  nth_same s zero n j b c e h = absurd (omega (arith, h))
  nth_same s (suc k) n zero b c e h = rw add-zero at e
  nth_same s (suc k) n (suc j) b c e h =
      let next : n + suc j ≡ (n + 1) + j = omega arith in
      nth_same s k (n + 1) j b c (subst (λ y. u (cell s y) ≡ v (cell s y)) next e) (omega arith)

  -- a part of a signal depends on the bits that a write to it would write
  part_bits : (s w : ℕ) (b c : Bit) (from : ℤ) → ((x : Cell) → has_cell (bit_writes s (signal_at d s).width from (fill w X)) x ≡ true → u x ≡ v x) → bits_from (fit (signal_at d s).width b (signal_bits d u s)) from w ≡ bits_from (fit (signal_at d s).width c (signal_bits d v s)) from w
  part_bits s zero b c from h = refl
  part_bits s (suc w) b c from h =
      let width : ℕ = (signal_at d s).width in
      ap₂ (λ x xs. x ∷ xs)
      (subst (λ y. option_bit (fit width b (signal_bits d u s)) (within y from) ≡ option_bit (fit width c (signal_bits d v s)) (within (length (fit width c (signal_bits d v s))) from)) (sym (length-fit width b (signal_bits d u s)))
      (subst (λ y. option_bit (fit width b (signal_bits d u s)) (within width from) ≡ option_bit (fit width c (signal_bits d v s)) (within y from)) (sym (length-fit width c (signal_bits d v s))) (first (signal_at d s).width from refl h)))
      (part_bits s w b c (from +ℤ pos 1) (λ x e. h x (more (within width from) (bit_writes s width (from +ℤ pos 1) (fill w X)) x e)))
    where
      more : (o : Option ℕ) (ws : List (Write Bit)) (x : Cell) → has_cell ws x ≡ true → has_cell (writes_to (option_cell s o) (X ∷ []) ++ ws) x ≡ true
      more None ws x e = e
      more (Some k) ws x e = or_right (same_cell (cell s k) x) (has_cell ws x) e

      found : (k : ℕ) (ws : List (Write Bit)) → has_cell (writes_to (option_cell s (Some k)) (X ∷ []) ++ ws) (cell s k) ≡ true
      found k ws = or_left (same_cell (cell s k) (cell s k)) (has_cell ws (cell s k)) (and_from (s == s) (k == k) (eq-eqb s s refl) (eq-eqb k k refl))

      first : (width : ℕ) (from : ℤ) → width ≡ (signal_at d s).width → ((x : Cell) → has_cell (writes_to (option_cell s (within width from)) (X ∷ []) ++ bit_writes s (signal_at d s).width (from +ℤ pos 1) (fill w X)) x ≡ true → u x ≡ v x) → option_bit (fit (signal_at d s).width b (signal_bits d u s)) (within width from) ≡ option_bit (fit (signal_at d s).width c (signal_bits d v s)) (within width from)
      first width (negsuc k) same h = refl
      first width (pos k) same h = go (nat_lt k width) refl h
        where
          go : (t : Bool) → nat_lt k width ≡ t → ((x : Cell) → has_cell (writes_to (option_cell s (if t then Some k else None)) (X ∷ []) ++ bit_writes s (signal_at d s).width (pos k +ℤ pos 1) (fill w X)) x ≡ true → u x ≡ v x) → option_bit (fit (signal_at d s).width b (signal_bits d u s)) (if t then Some k else None) ≡ option_bit (fit (signal_at d s).width c (signal_bits d v s)) (if t then Some k else None)
          go false e h = refl
          go true e h = nth_same s (signal_at d s).width 0 k b c (subst (λ y. u (cell s y) ≡ v (cell s y)) (sym zero_plus) (h (cell s k) (found k _))) (subst (λ y. k < y) same (ltb-true k width e))
            where
              zero_plus : 0 + k ≡ k
              zero_plus = omega arith

  -- the two states agree on each bit that a term may read
  abbrev pub SameBits : Term → Type 0
  SameBits t = (c : Cell) → may_read d t c ≡ true → u c ≡ v c

  abbrev pub SameBitsOf : Terms → Type 0
  SameBitsOf ts = (c : Cell) → some_may_read d ts c ≡ true → u c ≡ v c

  -- a select of a signal by constant indexes
  plain_select : (h : Head) (s w : ℕ) (from : Option ℤ) → h.width ≡ (signal_at d s).width → ((x : Cell) → has_cell (bit_writes_option s (signal_at d s).width from (fill w X)) x ≡ true → u x ≡ v x) → bits_from_option (value d u (signal h s)) from w ≡ bits_from_option (value d v (signal h s)) from w
  plain_select h s w None same e = refl
  plain_select h s w (Some from) same e =
      subst (λ y. bits_from (fit y (if h.signed then top (signal_bits d u s) else Zero) (signal_bits d u s)) from w ≡ bits_from (fit y (if h.signed then top (signal_bits d v s) else Zero) (signal_bits d v s)) from w) (sym same)
      (part_bits s w (if h.signed then top (signal_bits d u s) else Zero) (if h.signed then top (signal_bits d v s) else Zero) from e)

  -- the value of the term is the same
  abbrev SameValue : Term → Type 0
  SameValue t = value d u t ≡ value d v t

  -- a bit-select or a part-select, where the indexes have the same values: of a signal by constant indexes, or of what is the same
  select_same : (t i : Term) (w : ℕ) → (is_plain t && is_constant i ≡ true → (h : Head) (s : ℕ) → t ≡ signal h s → h.width ≡ (signal_at d s).width) → SameValue i → ((c : Cell) → may_read d t c ≡ true → (not (is_plain t && is_constant i) || has_cell (static_writes d (bits_of c.thing i w)) c) ≡ true → u c ≡ v c) → (SameBits t → SameValue t) → bits_from_option (value d u t) (offset_option (range_of d t) (index (head i).signed (value d u i))) w ≡ bits_from_option (value d v t) (offset_option (range_of d t) (index (head i).signed (value d v i))) w
  select_same t i w shape e same rec = go (is_plain t && is_constant i) refl
    where
      moved : bits_from_option (value d v t) (offset_option (range_of d t) (index (head i).signed (value d u i))) w ≡ bits_from_option (value d v t) (offset_option (range_of d t) (index (head i).signed (value d v i))) w
      moved = ap (λ y. bits_from_option (value d v t) (offset_option (range_of d t) (index (head i).signed y)) w) e

      go : (b : Bool) → (is_plain t && is_constant i) ≡ b → bits_from_option (value d u t) (offset_option (range_of d t) (index (head i).signed (value d u i))) w ≡ bits_from_option (value d v t) (offset_option (range_of d t) (index (head i).signed (value d v i))) w
      go false f = ap (λ y. bits_from_option y (offset_option (range_of d t) (index (head i).signed (value d u i))) w) (rec (λ c r. same c r (subst (λ b. (not b || has_cell (static_writes d (bits_of c.thing i w)) c) ≡ true) (sym f) refl))) ∙ moved
      go true f = of_plain t f shape same ∙ moved
        where
          of_plain : (t : Term) → (is_plain t && is_constant i) ≡ true → (is_plain t && is_constant i ≡ true → (h : Head) (s : ℕ) → t ≡ signal h s → h.width ≡ (signal_at d s).width) → ((c : Cell) → may_read d t c ≡ true → (not (is_plain t && is_constant i) || has_cell (static_writes d (bits_of c.thing i w)) c) ≡ true → u c ≡ v c) → bits_from_option (value d u t) (offset_option (range_of d t) (index (head i).signed (value d u i))) w ≡ bits_from_option (value d v t) (offset_option (range_of d t) (index (head i).signed (value d u i))) w
          of_plain (signal h s) f shape same =
              subst (λ y. bits_from_option (value d u (signal h s)) (offset_option (signal_range d s) (index (head i).signed y)) w ≡ bits_from_option (value d v (signal h s)) (offset_option (signal_range d s) (index (head i).signed y)) w) (value_constant d blank u i f)
              (plain_select h s w (offset_option (signal_range d s) (index (head i).signed (value d blank i))) (shape f h s refl) (λ c r. same c (eq-eqb c.thing s (on_s c r)) (or_right (not (is_plain (signal h s) && is_constant i)) _ (subst (λ y. has_cell (static_writes d (bits_of y i w)) c ≡ true) (sym (on_s c r)) r))))
            where
              on_s : (c : Cell) → has_cell (bit_writes_option s (signal_at d s).width (offset_option (signal_range d s) (index (head i).signed (value d blank i))) (fill w X)) c ≡ true → c.thing ≡ s
              on_s c r = (option_bits_range s (signal_at d s).width (offset_option (signal_range d s) (index (head i).signed (value d blank i))) (fill w X) c (WritesCell-from _ c r)).0
          of_plain _ f shape same = absurd (false≢true f)

  -- the same of an indexed part-select
  slide_same : (t b : Term) (up : Bool) (w : ℕ) → (is_plain t && is_constant b ≡ true → (h : Head) (s : ℕ) → t ≡ signal h s → h.width ≡ (signal_at d s).width) → SameValue b → ((c : Cell) → may_read d t c ≡ true → (not (is_plain t && is_constant b) || has_cell (slide_writes d c.thing up b w) c) ≡ true → u c ≡ v c) → (SameBits t → SameValue t) → bits_from_option (value d u t) (slide_offset (range_of d t) up w (index (head b).signed (value d u b))) w ≡ bits_from_option (value d v t) (slide_offset (range_of d t) up w (index (head b).signed (value d v b))) w
  slide_same t b up w shape e same rec = go (is_plain t && is_constant b) refl
    where
      moved : bits_from_option (value d v t) (slide_offset (range_of d t) up w (index (head b).signed (value d u b))) w ≡ bits_from_option (value d v t) (slide_offset (range_of d t) up w (index (head b).signed (value d v b))) w
      moved = ap (λ y. bits_from_option (value d v t) (slide_offset (range_of d t) up w (index (head b).signed y)) w) e

      go : (k : Bool) → (is_plain t && is_constant b) ≡ k → bits_from_option (value d u t) (slide_offset (range_of d t) up w (index (head b).signed (value d u b))) w ≡ bits_from_option (value d v t) (slide_offset (range_of d t) up w (index (head b).signed (value d v b))) w
      go false f = ap (λ y. bits_from_option y (slide_offset (range_of d t) up w (index (head b).signed (value d u b))) w) (rec (λ c r. same c r (subst (λ k. (not k || has_cell (slide_writes d c.thing up b w) c) ≡ true) (sym f) refl))) ∙ moved
      go true f = of_plain t f shape same ∙ moved
        where
          of_plain : (t : Term) → (is_plain t && is_constant b) ≡ true → (is_plain t && is_constant b ≡ true → (h : Head) (s : ℕ) → t ≡ signal h s → h.width ≡ (signal_at d s).width) → ((c : Cell) → may_read d t c ≡ true → (not (is_plain t && is_constant b) || has_cell (slide_writes d c.thing up b w) c) ≡ true → u c ≡ v c) → bits_from_option (value d u t) (slide_offset (range_of d t) up w (index (head b).signed (value d u b))) w ≡ bits_from_option (value d v t) (slide_offset (range_of d t) up w (index (head b).signed (value d u b))) w
          of_plain (signal h s) f shape same =
              subst (λ y. bits_from_option (value d u (signal h s)) (slide_offset (signal_range d s) up w (index (head b).signed y)) w ≡ bits_from_option (value d v (signal h s)) (slide_offset (signal_range d s) up w (index (head b).signed y)) w) (value_constant d blank u b f)
              (plain_select h s w (slide_offset (signal_range d s) up w (index (head b).signed (value d blank b))) (shape f h s refl) (λ c r. same c (eq-eqb c.thing s (on_s c r)) (or_right (not (is_plain (signal h s) && is_constant b)) _ (subst (λ y. has_cell (slide_writes d y up b w) c ≡ true) (sym (on_s c r)) r))))
            where
              on_s : (c : Cell) → has_cell (slide_writes d s up b w) c ≡ true → c.thing ≡ s
              on_s c r = (option_bits_range s (signal_at d s).width (slide_offset (signal_range d s) up w (index (head b).signed (value d blank b))) (fill w X) c (WritesCell-from _ c r)).0
          of_plain _ f shape same = absurd (false≢true f)

  own_shape : (t : Term) (k : Head) (s : ℕ) → t ≡ signal k s → is_shaped d (own_width d t) (own_sign d t) t ≡ true → k.width ≡ (signal_at d s).width
  own_shape t k s is shape = eqb-true _ _ (and_parts (k.width == (signal_at d s).width) _ (and_parts (has_shape (signal_at d s).width (signal_at d s).signed k) _ (subst (λ y. is_shaped d (own_width d y) (own_sign d y) y ≡ true) is shape)).0).0

  mutual
    pub value_reads : (w : ℕ) (g : Bool) (t : Term) → is_shaped d w g t ≡ true → SameBits t → value d u t ≡ value d v t
    value_reads w g (number h n) shape same = refl
    value_reads w g (signal h s) shape same = ap (extend h.width h.signed) (cells_of s (range_with_len 0 (signal_at d s).width) (λ k. same (cell s k) (eq-eqb s s refl)))
    value_reads w g (word h m i) shape same =
        let e : SameValue i = value_reads (own_width d i) (own_sign d i) i (and_parts (has_shape w g h && is_memory d m) _ shape).1 (λ c r. same c (or_right (c.thing == m) _ r)) in
        ap (extend h.width h.signed) (option_words m (named_word (memory_at d m) (index (head i).signed (value d u i))) (λ k. same (cell m k) (or_left (m == m) (may_read d i (cell m k)) (eq-eqb m m refl))) ∙ ap (λ y. option_word d v m (named_word (memory_at d m) (index (head i).signed y))) e)
    value_reads w g (bit h t i) shape same =
        let p = and_parts (has_shape w g h && is_shaped d (own_width d t) (own_sign d t) t) _ shape in
        let q = and_parts (has_shape w g h) _ p.0 in
        let e : SameValue i = value_reads (own_width d i) (own_sign d i) i p.1 (λ c r. same c (or_left (may_read d i c) _ r)) in
        ap (extend h.width h.signed)
        (select_same t i 1 (λ f k s is. own_shape t k s is q.1) e (λ c r f. same c (or_right (may_read d i c) _ (and_from (may_read d t c) _ r f))) (value_reads (own_width d t) (own_sign d t) t q.1))
    value_reads w g (part h t i j) shape same =
        let p5 = and_parts _ (is_constant j) shape in
        let p4 = and_parts _ (is_constant i) p5.0 in
        let p3 = and_parts _ (is_shaped d (own_width d j) (own_sign d j) j) p4.0 in
        let p2 = and_parts _ (is_shaped d (own_width d i) (own_sign d i) i) p3.0 in
        let p1 = and_parts (has_shape w g h) (is_shaped d (own_width d t) (own_sign d t) t) p2.0 in
        let wide : ℕ = part_width (value d blank i) (value d blank j) in
        let off_u : Option ℤ = offset_option (range_of d t) (index (head j).signed (value d u j)) in
        let off_v : Option ℤ = offset_option (range_of d t) (index (head j).signed (value d v j)) in
        let wide_u : part_width (value d u i) (value d u j) ≡ wide = ap₂ part_width (value_constant d u blank i p4.1) (value_constant d u blank j p5.1) in
        let wide_v : wide ≡ part_width (value d v i) (value d v j) = ap₂ part_width (value_constant d blank v i p4.1) (value_constant d blank v j p5.1) in
        let rec : SameBits t → SameValue t = value_reads (own_width d t) (own_sign d t) t p1.1 in
        ap (extend h.width h.signed)
        (ap (bits_from_option (value d u t) off_u) wide_u ∙ select_same t j wide (λ f k s is. own_shape t k s is p1.1) (value_constant d u v j p5.1) (λ c r f. same c (and_from (may_read d t c) _ r (drop_and (is_plain t) (is_constant j) _ p5.1 f))) rec ∙ ap (bits_from_option (value d v t) off_v) wide_v)
    value_reads w g (slide h t b k up) shape same =
        let p4 = and_parts _ (is_constant k) shape in
        let p3 = and_parts _ (is_shaped d (own_width d k) (own_sign d k) k) p4.0 in
        let p2 = and_parts _ (is_shaped d (own_width d b) (own_sign d b) b) p3.0 in
        let p1 = and_parts (has_shape w g h) (is_shaped d (own_width d t) (own_sign d t) t) p2.0 in
        let wide : ℕ = natural (value d blank k) in
        let wide_u : natural (value d u k) ≡ wide = ap natural (value_constant d u blank k p4.1) in
        let wide_v : wide ≡ natural (value d v k) = ap natural (value_constant d blank v k p4.1) in
        let e : SameValue b = value_reads (own_width d b) (own_sign d b) b p2.1 (λ c r. same c (or_left (may_read d b c) _ r)) in
        let off_u : ℕ → Option ℤ = λ n. slide_offset (range_of d t) up n (index (head b).signed (value d u b)) in
        let off_v : ℕ → Option ℤ = λ n. slide_offset (range_of d t) up n (index (head b).signed (value d v b)) in
        ap (extend h.width h.signed)
        (ap (λ n. bits_from_option (value d u t) (off_u n) n) wide_u ∙ slide_same t b up wide (λ f k s is. own_shape t k s is p1.1) e (λ c r f. same c (or_right (may_read d b c) _ (and_from (may_read d t c) _ r f))) (value_reads (own_width d t) (own_sign d t) t p1.1) ∙ ap (λ n. bits_from_option (value d v t) (off_v n) n) wide_v)
    value_reads w g (unary h op t) shape same =
        let e : SameValue t = ⊎_elim (λ p. value_reads w g t p same) (λ p. value_reads (own_width d t) (own_sign d t) t p same) (if_cases (is_wide_unary op) (is_shaped d w g t) (is_shaped d (own_width d t) (own_sign d t) t) (and_parts (has_shape w g h) (if is_wide_unary op then is_shaped d w g t else is_shaped d (own_width d t) (own_sign d t) t) shape).1) in
        rw e
    value_reads w g (binary h op t y) shape same =
        let left : SameBits t = λ c r. same c (or_left (may_read d t c) _ r) in
        let right : SameBits y = λ c r. same c (or_right (may_read d t c) _ r) in
        let k = binary_shape d w g op t y (and_parts (has_shape w g h) (binary_shaped d w g op t y) shape).1 in
        rw (value_reads k.0 k.1 t k.4 left, value_reads k.2 k.3 y k.5 right)
    value_reads w g (choice h x t y) shape same =
        let p3 = and_parts _ (is_shaped d w g y) shape in
        let p2 = and_parts _ (is_shaped d w g t) p3.0 in
        let p1 = and_parts (has_shape w g h) (is_shaped d (own_width d x) (own_sign d x) x) p2.0 in
        rw (value_reads (own_width d x) (own_sign d x) x p1.1 (λ c r. same c (or_left (may_read d x c) _ r)), value_reads w g t p2.1 (λ c r. same c (or_right (may_read d x c) _ (or_left (may_read d t c) _ r))), value_reads w g y p3.1 (λ c r. same c (or_right (may_read d x c) _ (or_right (may_read d t c) _ r))))
    value_reads w g (concat h ts) shape same = rw (joined_reads ts (and_parts (has_shape w g h) _ shape).1 same)
    value_reads w g (repeat h n ts) shape same =
        let p2 = and_parts _ (are_alone d ts) shape in
        let p1 = and_parts _ (is_constant n) p2.0 in
        rw (value_constant d u v n p1.1, joined_reads ts p2.1 same)
    value_reads w g (sign h s t) shape same = rw (value_reads (own_width d t) (own_sign d t) t (and_parts (has_shape w g h) _ shape).1 same)

    pub joined_reads : (ts : Terms) → are_alone d ts ≡ true → SameBitsOf ts → joined d u ts ≡ joined d v ts
    joined_reads no_terms shape same = refl
    joined_reads (a_term t ts) shape same =
        let p = and_parts (is_shaped d (own_width d t) (own_sign d t) t) (are_alone d ts) shape in
        rw (value_reads (own_width d t) (own_sign d t) t p.0 (λ c r. same c (or_left (may_read d t c) _ r)), joined_reads ts p.1 (λ c r. same c (or_right (may_read d t c) _ r)))
