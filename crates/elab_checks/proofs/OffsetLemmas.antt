-- The bits that a select without a fault names, by how far they are above the lowest bit.
use Rattle.std.proofs.Common.{◌≡◌, ◌≤◌, ◌∙◌, refl, sym, ap, ℕ, zero, suc, ◌+◌, nat_le, nat_lt, Bool, true, false, not, ◌&&◌, [], ◌∷◌, ℤ, pos, negsuc, Option, Some, None, arith}
use Rattle.std.specs.Prelude.{filter}
use Rattle.std.specs.List.{range_with_len}
use Rattle.std.proofs.lemmas.Bool.{false≢true}
use Rattle.std.proofs.lemmas.Bool.Decides.{nat_tests}
use Rattle.cov_host.specs.declared.place.Place.{Place}
use Rattle.design_model.specs.Lawful.{span}
use Rattle.design_model.specs.Value.{offset, slide_offset}
use Rattle.design_model.specs.declared.design.Range.{Range}
use Rattle.verilog_tree.specs.Tree.{Expr, identifier, bit_select, part_select, indexed_part}
use Rattle.verilog_tree.specs.declared.item.Named.{Named}
use Rattle.four_state.specs.Parts.{index_of}
use Rattle.four_state.specs.declared.index.Index.TheVariants.{At}
use Rattle.elab_const.specs.Faults.{is_bad_bound}
use Rattle.elab_const.specs.Meaning.{count_of, falls, number_of, part_width}
use Rattle.elab_const.specs.Scope.{IsWidth}
use Rattle.elab_const.proofs.AnswerLemmas.{width_within}
use Rattle.flat_design.specs.Expressions.{Selected, faults, bound_faults, is_inside, is_sound_constant, part_range_faults, range_faults, select_faults, selected, selected_of, size_faults, slide_faults, some_offset, width_faults, word_faults}
use Rattle.flat_design.specs.Fault.{Fault, fault_at, fault_if, none}
use Rattle.flat_design.specs.declared.fault.ElabKind.TheVariants.{WrongUse}
use Rattle.flat_design.specs.Identifiers.{base_name, identifiers, named}
use Rattle.flat_design.specs.Scope.{Scope, is_faulty_entry, is_memory_name, look_up, names, names_constants, names_faulty, natural_number, range_or, range_width, shape, whole_number}
use Rattle.flat_design.specs.Targets.{offsets_from, offsets_if}
use Rattle.flat_design.specs.declared.entry.Entry.TheVariants.{Signal}
use Rattle.flat_design.specs.declared.entry.SignalEntry.{SignalEntry}
use Rattle.elab_checks.specs.Selected.{contains, has_slide}
use Rattle.elab_checks.proofs.CheckLemmas.{width_known}
use Rattle.elab_checks.proofs.ExpressionLemmas.{bounds_sound}
use Rattle.elab_checks.proofs.RangeLemmas.{part_inside, slide_inside}
use Rattle.flat_design.proofs.NoConstFaults.{answer_none, both_none, both_true, bound_clean, four_none, neither_of_three, none_both, none_else, none_then, number_clean, true_both, width_clean}

-- of numbers from k on that are all below the size, all stay
below_stay : (size k w : ℕ) → k + w ≤ size → filter (λ i. nat_lt i size) (range_with_len k w) ≡ range_with_len k w
below_stay size k zero h = refl
below_stay size k (suc w) h =
    let e : nat_lt k size ≡ true = grind (arith, nat_tests) in
    rw e (ap (λ xs. k ∷ xs) (below_stay size (k + 1) w (omega arith)))

-- bits that are inside, from this offset on
pub inside_offsets : (r : Range) (o : Option ℤ) (k w : ℕ) → o ≡ Some (pos k) → is_inside r o w ≡ true → (range_with_len k w ≡ offsets_from (span r.high r.low) w o) × (k + w ≤ span r.high r.low)
inside_offsets r o k w e h =
    let test : nat_le (k + w) (span r.high r.low) ≡ true = sym (ap (λ x. is_inside r x w) e) ∙ h in
    let within : k + w ≤ span r.high r.low = grind (arith, nat_tests) in
    (sym (ap (offsets_from (span r.high r.low) w) e ∙ below_stay (span r.high r.low) k w within), within)

-- the index that has this number
pub index_at : (o : Option ℤ) (n : ℕ) → index_of o ≡ At n → o ≡ Some (pos n)
index_at None n e = absurd cc
index_at (Some (pos k)) n e = cc
index_at (Some (negsuc k)) n e = absurd cc

-- a bound has a number
pub bound_at : (o : Option ℤ) → is_bad_bound (index_of o) ≡ false → o ≡ Some (pos (count_of (index_of o)))
bound_at None e = absurd cc
bound_at (Some (pos n)) e = refl
bound_at (Some (negsuc n)) e = absurd cc

-- there are no bits from a base that has no number
pub slide_nowhere : (r : Range) (up : Bool) (w : ℕ) (o : Option ℤ) → 1 ≤ w → ((n : ℕ) → index_of o ≡ At n → ⊥) → is_inside r (slide_offset r up w o) w ≡ true → [] ≡ offsets_from (span r.high r.low) w (slide_offset r up w o)
slide_nowhere r up w None some other h = refl
slide_nowhere r up w (Some (pos n)) some other h = absurd (other n refl)
slide_nowhere r up w (Some (negsuc n)) some other h = absurd (false≢true (sym (slide_inside r.high r.low w up (Some (negsuc n)) some) ∙ h))

-- the bits of a part
pub part_value : (r : Range) (o : Option ℤ) (low w : ℕ) → is_bad_bound (index_of o) ≡ false → pos low ≡ offset r (pos (count_of (index_of o))) → is_inside r (Some (offset r (pos (count_of (index_of o))))) w ≡ true →
    range_with_len low w ≡ offsets_from (span r.high r.low) w (some_offset r o)
part_value r o low w good is h =
    let at = ap (some_offset r) (bound_at o good) in
    (inside_offsets r (some_offset r o) low w (at ∙ ap Some (sym is)) (ap (λ x. is_inside r x w) at ∙ h)).0

-- the base of an indexed part has all its bits in range
pub slide_known : (r s : Range) (up : Bool) (w v : ℕ) (o : Option ℤ) (n : ℕ) → s ≡ r → v ≡ w → 1 ≤ w → index_of o ≡ At n → is_inside r (slide_offset r up w o) w ≡ true → has_slide s up v (At n) ≡ true
slide_known r s up w v o n range width some is h =
    ap (λ x. has_slide x up v (At n)) range ∙ ap (λ x. has_slide r up x (At n)) width ∙ ap (has_slide r up w) (sym is) ∙ sym (slide_inside r.high r.low w up o some) ∙ h

-- the bits of an indexed part
pub slide_value : (r s : Range) (up : Bool) (w v : ℕ) (o : Option ℤ) (n low : ℕ) → s ≡ r → v ≡ w → index_of o ≡ At n → Some (pos low) ≡ slide_offset s up v (Some (pos n)) → is_inside r (slide_offset r up w o) w ≡ true →
    range_with_len low w ≡ offsets_from (span r.high r.low) w (slide_offset r up w o)
slide_value r s up w v o n low range width is from h =
    let at : slide_offset r up w o ≡ Some (pos low) =
    ap (slide_offset r up w) (index_at o n is) ∙ ap (λ x. slide_offset r up x (Some (pos n))) (sym width) ∙ ap (λ x. slide_offset x up v (Some (pos n))) (sym range) ∙ sym from in
    (inside_offsets r (slide_offset r up w o) low w at h).0

-- the bits from a constant index
pub offsets_when : (b : Bool) (s : SignalEntry) (w : ℕ) (o : Option ℤ) → b ≡ true → offsets_from (range_width s.range) w o ≡ offsets_if b s w o
offsets_when b s w o e = rw e refl

-- what an inside test that is not failed says
not_outside : (b : Bool) (f : Fault) → none (fault_if (not b) f) ≡ true → b ≡ true
not_outside true f e = refl
not_outside false f e = absurd cc

-- a select of a signal selects from its range
bits_of_range : (o : Option Range) (x : Named) → none (select_faults (selected_of o x)) ≡ true → (selected_of o x ≡ Selected.bits_in (range_or o) x) × (o ≡ Some (range_or o))
bits_of_range None x s = absurd cc
bits_of_range (Some r) x s = (refl, refl)

-- a signal is no memory
not_memory : (g : Scope) (of : Expr) (s : SignalEntry) → look_up g (base_name of).name ≡ Some (Signal s) → is_memory_name g of ≡ false
not_memory g (identifier p x) s e = rw e refl
not_memory g _ s e = refl

-- what a select of a signal selects from, and whether its indexes fall
selected_bits : (g : Scope) (of : Expr) (s : SignalEntry) → look_up g (base_name of).name ≡ Some (Signal s) → none (select_faults (selected g of)) ≡ true →
    (x : Named) × (selected g of ≡ Selected.bits_in (range_or s.range) x) × (falls (names g) of ≡ nat_le (range_or s.range).low (range_or s.range).high)
selected_bits g (identifier p x) s e h =
    let found : none (select_faults (selected_of s.range (named x p))) ≡ true = rw e at h in
    let range = bits_of_range s.range (named x p) found in
    (named x p, rw e range.0, rw (e, range.1) refl)
selected_bits g (bit_select p (identifier q x) i) s e h = let bad = rw e at h in absurd cc
selected_bits g _ s e h = absurd cc

module _ (g : Scope) (s : SignalEntry) where
  -- whether bits from an offset on are bits of the signal
  abbrev is_in : Option ℤ → ℕ → Bool
  is_in = is_inside (range_or s.range)

  -- an index without a fault
  pub sound_bit : (p : Place) (of i : Expr) → look_up g (base_name of).name ≡ Some (Signal s) → none (faults g (bit_select p of i)) ≡ true →
      (none (faults g i) ≡ true) × (names_constants g i ≡ true → is_in (some_offset (range_or s.range) (whole_number g i)) 1 ≡ true)
  sound_bit p of i e h =
      let f = none_else (is_memory_name g of) (word_faults g (look_up g (base_name of).name) (base_name of) i (faults g i)) _ (not_memory g of s e) h in
      let q = four_none (faults g of) (select_faults (selected g of)) (faults g i) _ f in
      let b = selected_bits g of s e q.1 in (
        q.2,
        λ constant.
            let inside = none_then (is_sound_constant g i (faults g i)) (range_faults (selected g of) 1 (λ r. some_offset r (whole_number g i))) [] (true_both _ _ constant q.2) q.3 in
            not_outside _ _ (rw b.1 at inside),
      )

  -- what holds of a part without a fault
  pub record SoundPart (p : Place) (of h l : Expr) (k : Place) : Type 0 where
    pub constant : names_constants g l ≡ true
    pub sound : none (faults g l) ≡ true
    pub number : is_bad_bound (number_of (names g) l) ≡ false
    pub first : contains (range_or s.range) (natural_number g l) ≡ true
    pub inside : is_in (Some (offset (range_or s.range) (pos (natural_number g l)))) (shape g (part_select p of h l k)).width ≡ true

  -- the width of a part, and that it is inside
  part_in_range : (r : Range) (x : Named) (k : Place) (h l : ℕ) → none (part_range_faults (Selected.bits_in r x) k h l) ≡ true →
      (1 ≤ part_width (nat_le r.low r.high) h l) × (is_inside r (Some (offset r (pos l))) (part_width (nat_le r.low r.high) h l) ≡ true)
  part_in_range r x k h l e =
      let width = part_width (nat_le r.low r.high) h l in
      let both = both_none (size_faults width k) _ e in
      let size = width_within width k (answer_none _ _ both.0) in
      (size.0, not_outside _ _ (after _ _ both.0 both.1))
    where
      after : (a b : Bool) → a ≡ true → none (fault_if (a && b) (fault_at WrongUse x)) ≡ true → none (fault_if b (fault_at WrongUse x)) ≡ true
      after true b p q = q
      after false b p q = absurd cc

  pub sound_part : (p : Place) (of h l : Expr) (k : Place) → look_up g (base_name of).name ≡ Some (Signal s) → none (faults g (part_select p of h l k)) ≡ true → names_faulty g (part_select p of h l k) ≡ false → SoundPart p of h l k
  sound_part p of h l k e f n =
      let q = four_none (select_faults (selected g of)) (bound_faults g k h (faults g h)) (bound_faults g k l (faults g l)) _ (both_none (faults g of) _ f).1 in
      let c = neither_of_three (λ x. is_faulty_entry (look_up g x.name)) (identifiers of) (identifiers h) (identifiers l) n in
      let hc = (number_clean g h (faults g h) (bound_clean g k h (faults g h) q.1 c.1).0 c.1).0 in
      let lc = (number_clean g l (faults g l) (bound_clean g k l (faults g l) q.2 c.2).0 c.2).0 in
      let both = none_both (bound_faults g k h (faults g h)) (bound_faults g k l (faults g l)) q.1 q.2 in
      let bounds = bounds_sound g k h l hc lc both in
      let b = selected_bits g of s e q.0 in
      let range = none_then _ (part_range_faults (selected g of) k (natural_number g h) (natural_number g l)) [] (true_both _ _ (true_both _ _ hc lc) both) q.3 in
      let within = part_in_range (range_or s.range) b.0 k (natural_number g h) (natural_number g l) (rw b.1 at range) in
      let r = range_or s.range in
      record {
        constant = lc;
        sound = bounds.2;
        number = bounds.3;
        first = (both_true _ _ (sym (part_inside r.high r.low (natural_number g h) (natural_number g l) within.0) ∙ within.1)).1;
        inside = rw b.2 within.1;
      }

  -- what holds of an indexed part without a fault
  pub record SoundSlide (b w : Expr) (up : Bool) : Type 0 where
    pub base : none (faults g b) ≡ true
    pub constant : names_constants g w ≡ true
    pub width : none (faults g w) ≡ true
    pub some : IsWidth (natural_number g w)
    pub inside : names_constants g b ≡ true → is_in (slide_offset (range_or s.range) up (natural_number g w) (whole_number g b)) (natural_number g w) ≡ true

  pub sound_slide : (p : Place) (of b w : Expr) (up : Bool) (k : Place) → look_up g (base_name of).name ≡ Some (Signal s) → none (faults g (indexed_part p of b w up k)) ≡ true → names_faulty g (indexed_part p of b w up k) ≡ false → SoundSlide b w up
  sound_slide p of b w up k e f n =
      let q = four_none (select_faults (selected g of)) (faults g b) (width_faults g k w (faults g w)) _ (both_none (faults g of) _ f).1 in
      let c = neither_of_three (λ x. is_faulty_entry (look_up g x.name)) (identifiers of) (identifiers b) (identifiers w) n in
      let wc = (number_clean g w (faults g w) (width_clean g k w (faults g w) q.2 c.2).0 c.2).0 in
      let known = width_known g k w wc q.2 in
      let bits = selected_bits g of s e q.0 in
      record {
        base = q.1;
        constant = wc;
        width = known.0;
        some = known.1;
        inside = λ constant.
            let range = none_then _ (slide_faults g (selected g of) b (natural_number g w) up) [] (true_both _ _ (true_both _ _ (true_both _ _ constant q.1) wc) q.2) q.3 in
            not_outside _ _ (rw bits.1 at range);
      }
