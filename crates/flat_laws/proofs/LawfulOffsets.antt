-- The bits that a select with a constant index writes are those of its offsets.
use Rattle.std.proofs.Common.{◌≡◌, ◌⊎◌, inl, inr, ℕ, zero, suc, ◌+◌, ◌-◌, ◌<◌, ◌≤◌, ◌==◌, nat_le, nat_lt, Bool, true, false, ◌||◌, if◌then◌else◌, List, [], ◌∷◌, ◌++◌, length, filter, ℤ, pos, negsuc, ◌+ℤ◌, ◌-ℤ◌, Option, Some, None, refl, sym, ap, ◌∙◌, subst, arith}
use Rattle.std.proofs.lemmas.Bool.{false≢true, cases_lt, eqb-true, leb-true, lt-ltb, ltb-true}
use Rattle.std.proofs.lemmas.Int.{ints}
use Rattle.std.proofs.lemmas.List.{length-replicate}
use Rattle.std.specs.List.{range_with_len}
use Rattle.event_machine.specs.Cell.{Cell, Values, WritesCell}
use Rattle.four_state.specs.Parts.{index, within}
use Rattle.four_state.specs.Vector.{fill}
use Rattle.four_state.specs.declared.bit.Bit.{Bit}
use Rattle.four_state.specs.declared.bit.Bit.TheVariants.{X}
use Rattle.design_model.specs.Assignment.{bit_writes, bit_writes_option, option_cell, writes_to}
use Rattle.design_model.specs.Design.{Design, In}
use Rattle.design_model.specs.Lawful.{span}
use Rattle.design_model.specs.Shape.{same_bool}
use Rattle.design_model.specs.Value.{head, least_index, offset_option, slide_offset, value}
use Rattle.design_model.specs.declared.design.Range.{Range}
use Rattle.verilog_tree.specs.Tree.{Expr}
use Rattle.flat_design.specs.Expressions.{is_inside}
use Rattle.flat_design.specs.Scope.{Scope}
use Rattle.flat_design.specs.Targets.{lowest_index, moved_index, offsets_from}
use Rattle.flat_design.specs.Terms.{alone}
use Rattle.flat_laws.proofs.IndexValues.{IsNumber, IsSmall, alone_index, moved, moved_index_number}
use Rattle.flat_laws.proofs.LawfulBounds.{IsBounded}

-- ---- the places of bits

pub in_range : (n k i : ℕ) → n ≤ i → i < n + k → In i (range_with_len n k)
in_range n zero i h l = absurd (omega arith)
in_range n (suc k) i h l = by_first (in_range (n + 1) k i) (cases_lt n i)
  where
    by_first : (n + 1 ≤ i → i < n + 1 + k → In i (range_with_len (n + 1) k)) → (n < i) ⊎ (i ≤ n) → In i (range_with_len n (suc k))
    by_first rest (inl over) = inr (rest (omega arith) (omega arith))
    by_first rest (inr here) = inl (omega arith)

pub in_filter_back : {A : Type 0} (p : A → Bool) (x : A) (xs : List A) → In x xs → p x ≡ true → In x (filter p xs)
in_filter_back p x [] h k = absurd h
in_filter_back p x (y ∷ ys) h k = by_test (in_filter_back p x ys) (p y) refl h
  where
    by_test : (In x ys → p x ≡ true → In x (filter p ys)) → (b : Bool) → p y ≡ b → (y ≡ x) ⊎ In x ys → In x (if b then y ∷ filter p ys else filter p ys)
    by_test rest true is (inl e) = inl e
    by_test rest true is (inr l) = inr (rest l k)
    by_test rest false is (inl e) = absurd (false≢true (sym is ∙ subst (λ z. p z ≡ true) (sym e) k))
    by_test rest false is (inr l) = rest l k

-- a bit that is written: so far above the first offset, and below the width
pub record IsAt (s n : ℕ) (from : ℤ) (w : ℕ) (c : Cell) : Type 0 where
  pub step : ℕ
  pub step_in : step < w
  pub place : from +ℤ pos step ≡ pos c.place
  pub thing : c.thing ≡ s
  pub inside : c.place < n

at_next : (s n : ℕ) (from : ℤ) (w : ℕ) (c : Cell) → IsAt s n (from +ℤ pos 1) w c → IsAt s n from (suc w) c
at_next s n (pos m) w c h = record { step = suc h.step; step_in = omega (arith, h.step_in); place = (let e = h.place in omega (arith, ints)); thing = h.thing; inside = h.inside }
at_next s n (negsuc m) w c h = record { step = suc h.step; step_in = omega (arith, h.step_in); place = (let e = h.place in omega (arith, ints)); thing = h.thing; inside = h.inside }

pub bits_at : (s n : ℕ) (from : ℤ) (bs : List Bit) (c : Cell) → WritesCell (bit_writes s n from bs) c → IsAt s n from (length bs) c
bits_at s n from [] c h = absurd h
bits_at s n from (b ∷ bs) c h = by_sign from (bits_at s n (from +ℤ pos 1) bs c) h
  where
    by_sign : (from : ℤ) → (WritesCell (bit_writes s n (from +ℤ pos 1) bs) c → IsAt s n (from +ℤ pos 1) (length bs) c) → WritesCell (writes_to (option_cell s (within n from)) (b ∷ []) ++ bit_writes s n (from +ℤ pos 1) bs) c → IsAt s n from (length (b ∷ bs)) c
    by_sign (negsuc k) rest h = at_next s n (negsuc k) (length bs) c (rest h)
    by_sign (pos k) rest h = by_test (nat_lt k n) refl h
      where
        by_test : (t : Bool) → nat_lt k n ≡ t → WritesCell (writes_to (option_cell s (if t then Some k else None)) (b ∷ []) ++ bit_writes s n (pos k +ℤ pos 1) bs) c → IsAt s n (pos k) (length (b ∷ bs)) c
        by_test false is h = at_next s n (pos k) (length bs) c (rest h)
        by_test true is (inr h) = at_next s n (pos k) (length bs) c (rest h)
        by_test true is (inl e) =
            let same : k ≡ c.place = ap (λ x. x.place) e in
            let less : k < n = ltb-true k n is in
            record { step = 0; step_in = omega arith; place = omega (arith, ints); thing = sym (ap (λ x. x.thing) e); inside = omega arith }

offset_in : (n w : ℕ) (from : ℤ) (i : ℕ) → (step : ℕ) → step < w → from +ℤ pos step ≡ pos i → i < n → In i (offsets_from n w (Some from))
offset_in n w (pos k) i step h e less = in_filter_back (λ j. nat_lt j n) i (range_with_len k w) (in_range k w i (omega (arith, ints)) (omega (arith, ints))) (lt-ltb i n less)
offset_in n w (negsuc k) i step h e less = in_filter_back (λ j. nat_lt j n) i (range_with_len 0 (w - (k + 1))) (in_range 0 (w - (k + 1)) i (omega arith) (omega (arith, ints))) (lt-ltb i n less)

-- the bits that are written from an offset
pub written_offset : (s n w : ℕ) (from : Option ℤ) (c : Cell) → WritesCell (bit_writes_option s n from (fill w X)) c → In c.place (offsets_from n w from)
written_offset s n w None c h = absurd h
written_offset s n w (Some from) c h =
    let a = bits_at s n from (fill w X) c h in offset_in n w from c.place a.step (subst (λ k. a.step < k) (length-replicate w X) a.step_in) a.place a.inside

-- ---- the lowest bit of an indexed part

-- bits that are inside begin at a bit of the range
inside_at : (r : Range) (q : ℤ) (w : ℕ) → is_inside r (Some q) w ≡ true → (j : ℕ) × (q ≡ pos j) × (j + w ≤ span r.high r.low)
inside_at r (pos j) w h = (j, refl, leb-true (j + w) (span r.high r.low) h)
inside_at r (negsuc j) w h = absurd (false≢true h)

-- then the base is small
small_rising : (r : Range) (k w : ℕ) (z : ℤ) → IsBounded r → k < 128 → is_inside r (Some (pos r.low -ℤ (z +ℤ pos k))) w ≡ true → IsSmall z
small_rising r k w (pos a) b small h = let q = inside_at r _ w h in let e = q.1 in let l = q.2 in omega (arith, ints, b.low, b.high)
small_rising r k w (negsuc a) b small h = let q = inside_at r _ w h in let e = q.1 in let l = q.2 in omega (arith, ints, b.low, b.high)

small_falling : (r : Range) (k w : ℕ) (z : ℤ) → IsBounded r → k < 128 → is_inside r (Some ((z -ℤ pos k) -ℤ pos r.low)) w ≡ true → IsSmall z
small_falling r k w (pos a) b small h = let q = inside_at r _ w h in let e = q.1 in let l = q.2 in omega (arith, ints, b.low, b.high)
small_falling r k w (negsuc a) b small h = let q = inside_at r _ w h in let e = q.1 in let l = q.2 in omega (arith, ints, b.low, b.high)

back_again : (z : ℤ) (k : ℕ) → (z -ℤ pos k) +ℤ pos k ≡ z
back_again (pos a) k = omega (arith, ints)
back_again (negsuc a) k = omega (arith, ints)

none_added : (z : ℤ) (w : ℕ) → w ≡ 1 → z +ℤ pos (w - 1) ≡ z
none_added (pos a) w e = omega (arith, ints)
none_added (negsuc a) w e = omega (arith, ints)

none_taken : (z : ℤ) (w : ℕ) → w ≡ 1 → z -ℤ pos (w - 1) ≡ z
none_taken (pos a) w e = omega (arith, ints)
none_taken (negsuc a) w e = omega (arith, ints)

-- how far above the lowest bit an index is, where indexes fall from left to right, or rise
abbrev offset_of : Range → Bool → ℤ → ℤ
offset_of r falls i = if falls then i -ℤ pos r.low else pos r.low -ℤ i

-- the index of the lowest of w bits from z on, up or down
abbrev lowest_of : Bool → Bool → ℕ → ℤ → ℤ
lowest_of up falls w z = if falls then least_index up z w else least_index up z w +ℤ pos (w - 1)

-- the index of the lowest bit says the offset of the part
pub lowest_offset : (base : ℕ) (d : Design) (v : Values Bit) (g : Scope) (r : Range) (up : Bool) (w : ℕ) (e : Expr) (z : ℤ) → IsNumber g e z → IsBounded r → w ≤ 128 → is_inside r (slide_offset r up w (Some z)) w ≡ true → (n : ℕ) →
    offset_option r (index (head (lowest_index base g r up w e n)).signed (value d v (lowest_index base g r up w e n))) ≡ slide_offset r up w (Some z)
lowest_offset base d v g r up w e z h b small inside n = by_way up (nat_le r.low r.high) (w == 1) refl refl inside
  where
    own : index (head (alone base g e n)).signed (value d v (alone base g e n)) ≡ Some z
    own = alone_index base d v g e z h n

    by_moved : (u : Bool) → IsSmall z → index (head (moved_index base g u (w - 1) e n)).signed (value d v (moved_index base g u (w - 1) e n)) ≡ Some (moved u (w - 1) z)
    by_moved u little = moved_index_number base d v g u (w - 1) e z h (omega arith) (inr little) n

    from_index : (falls : Bool) → nat_le r.low r.high ≡ falls → (o : Option ℤ) (i : ℤ) → o ≡ Some i → offset_option r o ≡ Some (offset_of r falls i)
    from_index falls f o i e = ap (offset_option r) e ∙ ap (λ t. Some (offset_of r t i)) f

    by_way : (u falls one : Bool) → nat_le r.low r.high ≡ falls → (w == 1) ≡ one → is_inside r (Some (offset_of r falls (lowest_of u falls w z))) w ≡ true →
        offset_option r (index (head (if same_bool u falls || one then alone base g e n else moved_index base g u (w - 1) e n)).signed (value d v (if same_bool u falls || one then alone base g e n else moved_index base g u (w - 1) e n))) ≡
        Some (offset_of r falls (lowest_of u falls w z))
    by_way true true one f o k = from_index true f _ z own
    by_way false false one f o k = from_index false f _ z own ∙ ap (λ i. Some (offset_of r false i)) (sym (back_again z (w - 1)))
    by_way true false true f o k = from_index false f _ z own ∙ ap (λ i. Some (offset_of r false i)) (sym (none_added z w (eqb-true w 1 o)))
    by_way false true true f o k = from_index true f _ z own ∙ ap (λ i. Some (offset_of r true i)) (sym (none_taken z w (eqb-true w 1 o)))
    by_way true false false f o k = from_index false f _ _ (by_moved true (small_rising r (w - 1) w z b (omega arith) k))
    by_way false true false f o k = from_index true f _ _ (by_moved false (small_falling r (w - 1) w z b (omega arith) k))
