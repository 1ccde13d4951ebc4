-- A select by a constant index without a fault lies in the range of what it is taken of.
use Rattle.std.proofs.Common.{◌≡◌, ℕ, ◌+◌, Bool, true, false, not, ◌&&◌, ◌||◌, if◌then◌else◌, List, [], ◌∷◌, ◌++◌, length, ℤ, pos, negsuc, Option, Some, None, refl, sym, ap, ◌∙◌, subst}
use Rattle.std.specs.Prelude.{nat_le}
use Rattle.std.proofs.lemmas.Bool.{false≢true, le-leb}
use Rattle.cov_host.specs.declared.place.Place.{Place}
use Rattle.four_state.specs.Arithmetic.{natural}
use Rattle.four_state.specs.Parts.{index}
use Rattle.design_model.specs.Assignment.{signal_range}
use Rattle.design_model.specs.Design.{Design, memory_at, signal_at}
use Rattle.design_model.specs.Lawful.{span}
use Rattle.design_model.specs.Mentions.{blank, is_constant}
use Rattle.design_model.specs.Shape.{own_width}
use Rattle.design_model.specs.Tree as t
use Rattle.design_model.specs.Tree.{Head, Term}
use Rattle.design_model.specs.Value.{head, offset_option, range_of, slide_offset, value}
use Rattle.design_model.specs.WellFormed.{are_among, is_select_inside, is_word_index}
use Rattle.design_model.specs.declared.design.Memory.{Memory}
use Rattle.design_model.specs.declared.design.Range.{Range}
use Rattle.verilog_tree.specs.declared.item.Named.{Named}
use Rattle.verilog_tree.specs.Tree.{Expr, bit_select, identifier, indexed_part, part_select}
use Rattle.elab_const.specs.Meaning as of_const
use Rattle.elab_const.specs.Meaning.{falls, shape_as, signal_falls, word_falls}
use Rattle.elab_const.specs.declared.width.Shape.{Shape}
use Rattle.flat_design.specs.Expressions.{Selected, bits_in, bound_faults, faults, index_faults, is_inside, is_sound_constant, is_word_of_memory, part_range_faults, range_faults, select_faults, selected, selected_name, selected_of, selected_word, size_faults, slide_faults, some_offset, use_faults, width_faults, word_faults}
use Rattle.flat_design.specs.Fault.{none}
use Rattle.flat_design.specs.Identifiers.{base_name, named}
use Rattle.flat_design.specs.Numbering.{nodes}
use Rattle.flat_design.specs.Scope.{Scope, is_faulty_entry, is_memory_entry, look_up, names, names_constants, natural_number, range_or, shape, thing_number, thing_of, value_entry, whole_number}
use Rattle.flat_design.specs.declared.entry.Entry.{Entry}
use Rattle.flat_design.specs.declared.entry.Entry.TheVariants.{Constant as a_constant, Turn as a_turn, Signal as a_signal, Memory as a_memory, LoopVariable as a_loop_variable, Instance as an_instance, NoConstant as no_constant, Faulty as a_faulty_one}
use Rattle.flat_design.specs.declared.entry.MemoryEntry.{MemoryEntry}
use Rattle.flat_design.specs.declared.entry.SignalEntry.{SignalEntry}
use Rattle.flat_design.specs.Terms.{alone, head_as, name_term, term, word_or_bit}
use Rattle.flat_design.proofs.NoConstFaults.{both_none, four_none, none_both, none_then, not_if, true_both}
use Rattle.flat_laws.proofs.ConstantNames.{constant_names}
use Rattle.flat_laws.proofs.IndexValues.{alone_natural, alone_whole}
use Rattle.flat_laws.proofs.LawfulDrivers.{range_is}
use Rattle.flat_laws.proofs.LawfulReads.{index_is, offset_same}
use Rattle.flat_laws.proofs.LawfulScope.{EntryMatches}
use Rattle.flat_laws.proofs.LawfulTargets.{IsGoodScope}
use Rattle.flat_laws.proofs.OwnShapes.{memory_here}
use Rattle.flat_laws.proofs.SelectNumbers.{bound_number, counted_number, part_width_is, width_constant, width_number, width_one}

pub if_constant : (b x : Bool) → (b ≡ true → x ≡ true) → (not b || x) ≡ true
if_constant true x f = f refl
if_constant false x f = refl

pub none_empty : {A : Type 0} (xs : List A) → none xs ≡ true → xs ≡ []
none_empty [] h = refl
none_empty (x ∷ xs) h = absurd (false≢true h)

not_false : (b : Bool) → not b ≡ false → b ≡ true
not_false true h = refl
not_false false h = absurd (false≢true (sym h))

-- the two ways to ask for bits that are inside
pub among_inside : (r : Range) (o : Option ℤ) (w : ℕ) → is_inside r o w ≡ true → are_among (span r.high r.low) w o ≡ true
among_inside r None w h = refl
among_inside r (Some (negsuc k)) w h = h
among_inside r (Some (pos k)) w h = h

word_inside : (m : MemoryEntry) (y : Memory) (o : Option ℤ) → y.first ≡ m.words.high → y.last ≡ m.words.low → is_word_of_memory o m ≡ true → is_word_index y o ≡ true
word_inside m y None a b h = refl
word_inside m y (Some (negsuc k)) a b h = h
word_inside m y (Some (pos k)) a b h = rw (a, b) h

module _ (d : Design) (base : ℕ) (base_is : base ≡ length d.signals) (g : Scope) (good : IsGoodScope d.signals d.memories g) where
  -- what a select is taken of: its term has the range of the expression
  pub record IsRangedOf (of : Selected) (falling : Bool) (x : Term) : Type 0 where
    pub range : Range
    pub name : Named
    pub found : of ≡ bits_in range name
    pub range_is : range_of d x ≡ range
    pub width : own_width d x ≡ span range.high range.low
    pub falls_is : falling ≡ nat_le range.low range.high

  of_name : (p : Place) (x : List ℕ) (s : Shape) (o : Option Entry) → EntryMatches d.signals d.memories o → is_faulty_entry o ≡ false → none (use_faults o (named x p)) ≡ true → none (select_faults (selected_name o (named x p))) ≡ true → IsRangedOf (selected_name o (named x p)) (signal_falls (value_entry o)) (name_term o (head_as p s None))
  of_name p x s (Some (a_signal e)) m sound free select = by_range e.range refl select
    where
      by_range : (r : Option Range) → e.range ≡ r → none (select_faults (selected_of r (named x p))) ≡ true → IsRangedOf (selected_of e.range (named x p)) (signal_falls (value_entry (Some (a_signal e)))) (t.signal (head_as p s None) e.number)
      by_range None is k = absurd (false≢true k)
      by_range (Some r) is k = record {
        range = r;
        name = named x p;
        found = ap (λ z. selected_of z (named x p)) is;
        range_is = range_is d e m ∙ ap range_or is;
        width = m.width ∙ ap (λ z. span (range_or z).high (range_or z).low) is;
        falls_is = rw is refl;
      }
  of_name p x s None m sound free select = absurd (false≢true free)
  of_name p x s (Some (a_constant v)) m sound free select = absurd (false≢true select)
  of_name p x s (Some (a_turn v)) m sound free select = absurd (false≢true select)
  of_name p x s (Some (a_memory k)) m sound free select = absurd (false≢true select)
  of_name p x s (Some a_loop_variable) m sound free select = absurd (false≢true select)
  of_name p x s (Some an_instance) m sound free select = absurd (false≢true select)
  of_name p x s (Some no_constant) m sound free select = absurd (false≢true select)
  of_name p x s (Some a_faulty_one) m sound free select = absurd (false≢true (sym sound))

  of_word : (q : Place) (x : List ℕ) (h : Head) (a b c : Term) (o : Option Entry) → EntryMatches d.signals d.memories o → is_faulty_entry o ≡ false → (is_memory_entry o ≡ false → none (use_faults o (named x q)) ≡ true) → none (select_faults (selected_word o (named x q))) ≡ true →
      IsRangedOf (selected_word o (named x q)) (word_falls (value_entry o)) (word_or_bit (is_memory_entry o) (thing_number base (thing_of o)) h a b c)
  of_word q x h a b c (Some (a_memory e)) m sound free select = by_range e.range refl select
    where
      by_range : (r : Option Range) → e.range ≡ r → none (select_faults (selected_of r (named x q))) ≡ true → IsRangedOf (selected_of e.range (named x q)) (word_falls (value_entry (Some (a_memory e)))) (t.word h (base + e.number) b)
      by_range None is k = absurd (false≢true k)
      by_range (Some r) is k = record {
        range = r;
        name = named x q;
        found = ap (λ z. selected_of z (named x q)) is;
        range_is = two _ _ (range_or e.range) (ap (λ z. z.high) (memory_here d base base_is e.number) ∙ m.high) (ap (λ z. z.low) (memory_here d base base_is e.number) ∙ m.low) ∙ ap range_or is;
        width = ap (λ z. z.width) (memory_here d base base_is e.number) ∙ (m.width ∙ ap (λ z. span (range_or z).high (range_or z).low) is);
        falls_is = rw is refl;
      }
        where
          two : (x y : ℕ) (r : Range) → x ≡ r.high → y ≡ r.low → record { high = x; low = y } ≡ r
          two x y r a b = λ i. record { high = a i; low = b i }
  of_word q x h a b c None m sound free select = absurd (false≢true (free refl))
  of_word q x h a b c (Some (a_constant v)) m sound free select = absurd (false≢true select)
  of_word q x h a b c (Some (a_turn v)) m sound free select = absurd (false≢true select)
  of_word q x h a b c (Some (a_signal s)) m sound free select = absurd (false≢true select)
  of_word q x h a b c (Some a_loop_variable) m sound free select = absurd (false≢true select)
  of_word q x h a b c (Some an_instance) m sound free select = absurd (false≢true select)
  of_word q x h a b c (Some no_constant) m sound free select = absurd (false≢true select)
  of_word q x h a b c (Some a_faulty_one) m sound free select = absurd (false≢true (sym sound))

  -- the range of what a select without fault is taken of
  ranged : (of : Expr) → none (faults g of) ≡ true → none (select_faults (selected g of)) ≡ true → (n : ℕ) (s : Shape) → IsRangedOf (selected g of) (falls (names g) of) (term base g of n s)
  ranged (identifier p x) free select n s = of_name p x s (look_up g x) (good.matches x) (good.sound.sound x) free select
  ranged (bit_select p (identifier q x) i) free select n s =
      of_word q x (head_as p s None) (term base g (identifier q x) n (shape g (identifier q x))) (term base g i n (shape g i)) (term base g i (n + nodes g (identifier q x)) (shape g i)) (look_up g x) (good.matches x) (good.sound.sound x) (λ no. by_kind (is_memory_entry (look_up g x)) no free) select
    where
      by_kind : (b : Bool) → b ≡ false → none (if b then word_faults g (look_up g x) (named x q) i (faults g i) else use_faults (look_up g x) (named x q) ++ select_faults (selected g (identifier q x)) ++ faults g i ++ index_faults g (selected g (identifier q x)) i (faults g i)) ≡ true → none (use_faults (look_up g x) (named x q)) ≡ true
      by_kind false is k = (four_none (use_faults (look_up g x) (named x q)) (select_faults (selected g (identifier q x))) (faults g i) _ k).0
      by_kind true is k = absurd (false≢true (sym is))
  ranged _ free select n s = absurd (false≢true select)

  -- the same of a signal by its name
  pub signal_ranged : (of : Expr) (e : SignalEntry) → look_up g (base_name of).name ≡ Some (a_signal e) → none (faults g of) ≡ true → none (select_faults (selected g of)) ≡ true → (h : Head) × IsRangedOf (selected g of) (falls (names g) of) (t.signal h e.number)
  signal_ranged (identifier q x) e found free select =
      (head_as q (shape_as 1 false) None, subst (λ o. IsRangedOf (selected_name (look_up g x) (named x q)) (signal_falls (value_entry (look_up g x))) (name_term o (head_as q (shape_as 1 false) None))) found (of_name q x (shape_as 1 false) (look_up g x) (good.matches x) (good.sound.sound x) free select))
  signal_ranged (bit_select q (identifier r x) i) e found free select = absurd (false≢true (subst (λ o. none (select_faults (selected_word o (named x r))) ≡ true) found select))
  signal_ranged _ e found free select = absurd (false≢true select)

  -- the offset of a constant index in the range is inside
  pub among : (of : Expr) (x : Term) (at : IsRangedOf (selected g of) (falls (names g) of) x) (w : ℕ) (o p : Option ℤ) → o ≡ p → is_inside at.range (some_offset at.range p) w ≡ true → are_among (own_width d x) w (offset_option (range_of d x) o) ≡ true
  among of x at w o p same inside =
      subst (λ k. are_among k w (offset_option (range_of d x) o) ≡ true) (sym at.width)
      (subst (λ r. are_among (span at.range.high at.range.low) w (offset_option r o) ≡ true) (sym at.range_is)
      (subst (λ z. are_among (span at.range.high at.range.low) w (offset_option at.range z) ≡ true) (sym same)
      (subst (λ z. are_among (span at.range.high at.range.low) w z ≡ true) (sym (offset_same at.range p)) (among_inside at.range (some_offset at.range p) w inside))))

  -- the number of a constant index
  pub index_number : (i : Expr) → none (faults g i) ≡ true → (n : ℕ) → is_constant (alone base g i n) ≡ true → (names_constants g i ≡ true) × (index (head (alone base g i n)).signed (value d blank (alone base g i n)) ≡ whole_number g i)
  index_number i free n c =
      let a = constant_names base g good.sound i free n (shape g i) c in
      (a, index_is base d g i a (none_empty (faults g i) free) n)

  index_bits : (of i : Expr) (x : Term) (at : IsRangedOf (selected g of) (falls (names g) of) x) → none (faults g i) ≡ true → none (index_faults g (selected g of) i (faults g i)) ≡ true → names_constants g i ≡ true → is_inside at.range (some_offset at.range (whole_number g i)) 1 ≡ true
  index_bits of i x at sound ranges a =
      not_false _ (not_if _ _ (subst (λ z. none (range_faults z 1 (λ r. some_offset r (whole_number g i))) ≡ true) at.found (none_then (is_sound_constant g i (faults g i)) _ [] (true_both _ _ a sound) ranges)))

  -- a bit
  pub bit_inside : (h : Head) (of i : Expr) → none (faults g of) ≡ true → none (select_faults (selected g of)) ≡ true → none (faults g i) ≡ true → none (index_faults g (selected g of) i (faults g i)) ≡ true → (n m : ℕ) → is_select_inside d (t.bit h (term base g of n (shape g of)) (alone base g i m)) ≡ true
  bit_inside h of i free select sound ranges n m =
      let at = ranged of free select n (shape g of) in
      if_constant _ _ (λ c. let a = index_number i sound m c in among of (term base g of n (shape g of)) at 1 _ (whole_number g i) a.1 (index_bits of i (term base g of n (shape g of)) at sound ranges a.0))

  -- a bit of a signal
  pub signal_bit : (of i : Expr) (e : SignalEntry) → look_up g (base_name of).name ≡ Some (a_signal e) → none (faults g of) ≡ true → none (select_faults (selected g of)) ≡ true → none (faults g i) ≡ true → none (index_faults g (selected g of) i (faults g i)) ≡ true → (m : ℕ) →
      (not (is_constant (alone base g i m)) || are_among (signal_at d e.number).width 1 (offset_option (signal_range d e.number) (index (head (alone base g i m)).signed (value d blank (alone base g i m))))) ≡ true
  signal_bit of i e found free select sound ranges m =
      let at = signal_ranged of e found free select in
      if_constant _ _ (λ c. let a = index_number i sound m c in among of (t.signal at.0 e.number) at.1 1 _ (whole_number g i) a.1 (index_bits of i (t.signal at.0 e.number) at.1 sound ranges a.0))

  -- a word
  pub word_inside_memory : (o : Option Entry) → EntryMatches d.signals d.memories o → is_memory_entry o ≡ true → (x : Named) (i : Expr) → none (faults g i) ≡ true → none (word_faults g o x i (faults g i)) ≡ true → (m : ℕ) →
      (not (is_constant (alone base g i m)) || is_word_index (memory_at d (thing_number base (thing_of o))) (index (head (alone base g i m)).signed (value d blank (alone base g i m)))) ≡ true
  word_inside_memory (Some (a_memory e)) k is x i sound free m =
      if_constant _ _ (λ c.
      let a = index_number i sound m c in
      let y = memory_here d base base_is e.number in
      let w = not_false _ (both (is_sound_constant g i (faults g i)) _ (true_both _ _ a.0 sound) (not_if _ _ (both_none (faults g i) _ free).1)) in
      subst (λ o. is_word_index (memory_at d (base + e.number)) o ≡ true) (sym a.1) (word_inside e (memory_at d (base + e.number)) (whole_number g i) (ap (λ z. z.first) y ∙ k.first) (ap (λ z. z.last) y ∙ k.last) w))
    where
      both : (a b : Bool) → a ≡ true → (a && b) ≡ false → b ≡ false
      both true b p q = q
      both false b p q = absurd (false≢true p)
  word_inside_memory None k is x i sound free m = absurd (false≢true is)
  word_inside_memory (Some (a_constant v)) k is x i sound free m = absurd (false≢true is)
  word_inside_memory (Some (a_turn v)) k is x i sound free m = absurd (false≢true is)
  word_inside_memory (Some (a_signal s)) k is x i sound free m = absurd (false≢true is)
  word_inside_memory (Some a_loop_variable) k is x i sound free m = absurd (false≢true is)
  word_inside_memory (Some an_instance) k is x i sound free m = absurd (false≢true is)
  word_inside_memory (Some no_constant) k is x i sound free m = absurd (false≢true is)
  word_inside_memory (Some a_faulty_one) k is x i sound free m = absurd (false≢true is)

  -- a part
  pub part_bits : (p : Place) (of i j : Expr) (b : Place) (x : Term) (at : IsRangedOf (selected g of) (falls (names g) of) x) → none (bound_faults g b i (faults g i)) ≡ true → none (bound_faults g b j (faults g j)) ≡ true →
      none (if names_constants g i && names_constants g j && none (bound_faults g b i (faults g i) ++ bound_faults g b j (faults g j)) then part_range_faults (selected g of) b (natural_number g i) (natural_number g j) else []) ≡ true →
      is_inside at.range (some_offset at.range (whole_number g j)) (shape g (part_select p of i j b)).width ≡ true
  part_bits p of i j b x at fi fj ranges =
      let a = bound_number d base g good b i fi in
      let c = bound_number d base g good b j fj in
      let all = true_both _ _ (true_both _ _ a.1 c.1) (none_both (bound_faults g b i (faults g i)) (bound_faults g b j (faults g j)) fi fj) in
      let w : ℕ = of_const.part_width (nat_le at.range.low at.range.high) (natural_number g i) (natural_number g j) in
      let faulty = subst (λ z. none (part_range_faults z b (natural_number g i) (natural_number g j)) ≡ true) at.found (none_then _ _ [] all ranges) in
      let q = both_none (size_faults w b) _ faulty in
      let inside = not_false _ (second (none (size_faults w b)) _ q.0 (not_if _ _ q.1)) in
      let low : whole_number g j ≡ Some (pos (natural_number g j)) = c.0.1.number ∙ ap (λ k. Some (pos k)) (sym (counted_number d base g good j c.0.0 c.0.1)) in
      subst (λ f. is_inside at.range (some_offset at.range (whole_number g j)) (of_const.part_width f (natural_number g i) (natural_number g j)) ≡ true) (sym at.falls_is)
      (subst (λ o. is_inside at.range (some_offset at.range o) w ≡ true) (sym low) inside)
    where
      second : (a b : Bool) → a ≡ true → (a && b) ≡ false → b ≡ false
      second true b p q = q
      second false b p q = absurd (false≢true p)

  pub part_inside : (h : Head) (p : Place) (of i j : Expr) (b : Place) → none (faults g (part_select p of i j b)) ≡ true → (n m k : ℕ) → is_select_inside d (t.part h (term base g of n (shape g of)) (alone base g i m) (alone base g j k)) ≡ true
  part_inside h p of i j b free n m k =
      let first = both_none (faults g of) _ free in
      let parts = four_none (select_faults (selected g of)) (bound_faults g b i (faults g i)) (bound_faults g b j (faults g j)) _ first.1 in
      let at = ranged of first.0 parts.0 n (shape g of) in
      let c = bound_number d base g good b j parts.2 in
      let width = part_width_is d base g good p of i j b m k (none_empty _ free) parts.1 parts.2 in
      let same = alone_whole base d blank g j c.0.1.is_constant c.0.1.no_fault k in
      subst (λ w. are_among (own_width d (term base g of n (shape g of))) w (offset_option (range_of d (term base g of n (shape g of))) (index (head (alone base g j k)).signed (value d blank (alone base g j k)))) ≡ true) (sym width)
      (among of (term base g of n (shape g of)) at (shape g (part_select p of i j b)).width _ (whole_number g j) same (part_bits p of i j b _ at parts.1 parts.2 parts.3))

  -- an indexed part
  pub slide_bits : (of b w : Expr) (up : Bool) (k : Place) (x : Term) (at : IsRangedOf (selected g of) (falls (names g) of) x) → names_constants g b ≡ true → none (faults g b) ≡ true → names_constants g w ≡ true → none (width_faults g k w (faults g w)) ≡ true →
      none (if is_sound_constant g b (faults g b) && names_constants g w && none (width_faults g k w (faults g w)) then slide_faults g (selected g of) b (natural_number g w) up else []) ≡ true →
      is_inside at.range (slide_offset at.range up (natural_number g w) (whole_number g b)) (natural_number g w) ≡ true
  slide_bits of b w up k x at cb fb cw fw ranges =
      not_false _ (not_if _ _ (subst (λ z. none (slide_faults g z b (natural_number g w) up) ≡ true) at.found (none_then _ _ [] (true_both _ _ (true_both _ _ (true_both _ _ cb fb) cw) fw) ranges)))

  pub slide_inside : (h : Head) (p : Place) (of b w : Expr) (up : Bool) (k : Place) → none (faults g (indexed_part p of b w up k)) ≡ true → (n m l : ℕ) → is_select_inside d (t.slide h (term base g of n (shape g of)) (alone base g b m) (alone base g w l) up) ≡ true
  slide_inside h p of b w up k free n m l =
      let first = both_none (faults g of) _ free in
      let parts = four_none (select_faults (selected g of)) (faults g b) (width_faults g k w (faults g w)) _ first.1 in
      let at = ranged of first.0 parts.0 n (shape g of) in
      let number = width_number d base g good k w parts.2 in
      let width : natural (value d blank (alone base g w l)) ≡ natural_number g w = alone_natural base d blank g w number.0 number.1 l ∙ sym (counted_number d base g good w number.0 number.1) in
      subst (λ z. (nat_le 1 z && (not (is_constant (alone base g b m)) || are_among (own_width d (term base g of n (shape g of))) z (slide_offset (range_of d (term base g of n (shape g of))) up z (index (head (alone base g b m)).signed (value d blank (alone base g b m)))))) ≡ true) (sym width)
      (true_both _ _ (le-leb 1 (natural_number g w) (width_one d base g good k w parts.2))
      (if_constant _ _ (λ c.
      let a = index_number b parts.1 m c in
      let inside = slide_bits of b w up k (term base g of n (shape g of)) at a.0 parts.1 (width_constant d base g good k w parts.2) parts.2 parts.3 in
      subst (λ z. are_among z (natural_number g w) (slide_offset (range_of d (term base g of n (shape g of))) up (natural_number g w) (index (head (alone base g b m)).signed (value d blank (alone base g b m)))) ≡ true) (sym at.width)
      (subst (λ r. are_among (span at.range.high at.range.low) (natural_number g w) (slide_offset r up (natural_number g w) (index (head (alone base g b m)).signed (value d blank (alone base g b m)))) ≡ true) (sym at.range_is)
      (subst (λ o. are_among (span at.range.high at.range.low) (natural_number g w) (slide_offset at.range up (natural_number g w) o) ≡ true) (sym a.1) (among_inside at.range (slide_offset at.range up (natural_number g w) (whole_number g b)) (natural_number g w) inside))))))
