-- The points of bits and words that are found are those of the design.
use Rattle.std.proofs.Common.{◌≡◌, ◌↔◌, ◌<◌, ◌≤◌, ◌+◌, ◌-◌, ◌++◌, ℕ, zero, suc, Bool, true, false, not, nat_le, nat_lt, min, max, inl, inr, List, [], ◌∷◌, length, map, get_or, refl, sym, ap, subst, ◌∙◌, arith, length-append, zero-add}
use Rattle.std.specs.declared.cmp.Ordering.TheVariants.{Equal}
use Rattle.std.specs.List.{dedup, range_with_len}
use Rattle.std.specs.List.Sorted.{IsPermutation}
use Rattle.std.specs.Ordering.{eq_by_cmp, nat_cmp, ordering_then}
use Rattle.std.proofs.lemmas.Bool.{and_parts, cases_lt}
use Rattle.std.proofs.lemmas.Bool.Decides.{nat_tests}
use Rattle.std.proofs.lemmas.List.{get_or-map, get_or_append_left, get_or-append_right, length-map}
use Rattle.design_model.specs.Design.{AreDistinct, Design, In, Named, is_memory, memory_at, no_instance, no_memory, no_signal, signal_at}
use Rattle.design_model.specs.Lawful.{IsLawfulDesign, is_memory_of, is_signal}
use Rattle.design_model.specs.Points.{IsPoint}
use Rattle.design_model.specs.declared.design.Memory.{Memory}
use Rattle.design_model.specs.declared.design.Signal.{Signal}
use Rattle.design_model.specs.declared.point.Point.TheVariants.{Toggle as toggle_point, Word as word_point}
use Rattle.cover_points.specs.Order.{bytes_cmp, index_cmp, path_at, second_rank, thing_instance, thing_name}
use Rattle.cover_points.specs.Texts.{each_from}
use Rattle.cover_points.specs.Things.{index_points, memory_indexes, signal_indexes, toggle_view, two_points, word_view}
use Rattle.cover_points.specs.declared.points.IndexPoint.{IndexPoint}
use Rattle.cover_points.proofs.Members.{both_equal, in_flat_map, in_flat_map_back, in_left, in_map, in_at, once_from, once_keeps, same_bytes, same_number, same_place}
use Rattle.cover_points.proofs.Orders.{index_total}
use Rattle.cover_points.proofs.Pieces.{parts_of, test_at, whole_of}

pub in_range : (i a n : ℕ) → In i (range_with_len a n) → (a ≤ i) × (i < a + n)
in_range i a zero h = absurd h
in_range i a (suc n) (inl e) = (omega arith, omega arith)
in_range i a (suc n) (inr h) = let r = in_range i (a + 1) n h in (omega arith, omega arith)

pub range_in : (i a n : ℕ) → a ≤ i → i < a + n → In i (range_with_len a n)
range_in i a zero l m = absurd (omega arith)
range_in i a (suc n) l m = elim (cases_lt a i) [ inl k ↦ inr (range_in i (a + 1) n (omega arith) (omega arith)) | inr k ↦ inl (omega arith) ]

-- the points of the indexes between two bounds
pub index_from : (x : IndexPoint) (k a b : ℕ) → In x (index_points k a b) → (x.thing ≡ k) × (min a b ≤ x.index) × (x.index ≤ max a b)
index_from x k a b h =
    let i = in_flat_map (two_points k) x (range_with_len (min a b) (max a b - min a b + 1)) h in
    let r = in_range i.0 (min a b) (max a b - min a b + 1) i.1 in
    by_point i.0 r i.2
  where
    by_point : (i : ℕ) → (min a b ≤ i) × (i < min a b + (max a b - min a b + 1)) → In x (two_points k i) → (x.thing ≡ k) × (min a b ≤ x.index) × (x.index ≤ max a b)
    by_point i r (inl e) = let f : i ≡ x.index = ap (λ (y : IndexPoint). y.index) e in (sym (ap (λ (y : IndexPoint). y.thing) e), omega (arith, r.0), omega (arith, r.1))
    by_point i r (inr (inl e)) = let f : i ≡ x.index = ap (λ (y : IndexPoint). y.index) e in (sym (ap (λ (y : IndexPoint). y.thing) e), omega (arith, r.0), omega (arith, r.1))
    by_point i r (inr (inr e)) = absurd e

two_have : (k i : ℕ) (s : Bool) → In (record { thing = k; index = i; second = s }) (two_points k i)
two_have k i false = inl refl
two_have k i true = inr (inl refl)

pub index_have : (k a b i : ℕ) (s : Bool) → min a b ≤ i → i ≤ max a b → In (record { thing = k; index = i; second = s }) (index_points k a b)
index_have k a b i s l m = in_flat_map_back (two_points k) i (range_with_len (min a b) (max a b - min a b + 1)) _ (range_in i (min a b) (max a b - min a b + 1) l (omega arith)) (two_have k i s)

-- the instances and names of the signals and memories, in order of their numbers
abbrev pub things : Design → List Named
things d = map (λ s. (s.instance, s.name)) d.signals ++ map (λ m. (m.instance, m.name)) d.memories

distinct_left : {A : Type 0} (xs ys : List A) → AreDistinct (xs ++ ys) → AreDistinct xs
distinct_left [] ys h = tt
distinct_left (x ∷ xs) ys h = ((λ i. h.0 (in_left x xs ys i)), distinct_left xs ys h.1)

pub same_item : {A : Type 0} (xs : List A) (i j : ℕ) (d : A) → AreDistinct xs → i < length xs → j < length xs → get_or xs i d ≡ get_or xs j d → i ≡ j
same_item [] i j d h l m e = absurd (omega arith)
same_item (x ∷ xs) zero zero d h l m e = refl
same_item (x ∷ xs) zero (suc j) d h l m e = absurd (h.0 (subst (λ k. In k xs) (sym e) (in_at xs j d (omega arith))))
same_item (x ∷ xs) (suc i) zero d h l m e = absurd (h.0 (subst (λ k. In k xs) e (in_at xs i d (omega arith))))
same_item (x ∷ xs) (suc i) (suc j) d h l m e = ap suc (same_item xs i j d h.1 (omega arith) (omega arith) e)

-- a signal or memory of the design, with an instance of the design, by its instance and name
pub record IsNamed (d : Design) (x : ℕ) : Type 0 where
  pub listed : x < length (things d)
  pub instance : thing_instance d x < length d.instances
  pub is : get_or (things d) x (0, []) ≡ (thing_instance d x, thing_name d x)

same_second : (a b : Bool) → second_rank a ≡ second_rank b → a ≡ b
same_second false false e = refl
same_second true true e = refl
same_second false true e = absurd (omega arith)
same_second true false e = absurd (omega arith)

-- two points that are equal in the order are the same
pub one_index : (d : Design) → IsLawfulDesign d → (x y : IndexPoint) → IsNamed d x.thing → IsNamed d y.thing → index_cmp d x y ≡ Equal → x ≡ y
one_index d lawful x y h k tied =
    let paths = bytes_cmp (path_at d.instances (thing_instance d x.thing)) (path_at d.instances (thing_instance d y.thing)) in
    let names = bytes_cmp (thing_name d x.thing) (thing_name d y.thing) in
    let last = both_equal (ordering_then (ordering_then paths names) (nat_cmp x.index y.index)) (nat_cmp (second_rank x.second) (second_rank y.second)) tied in
    let middle = both_equal (ordering_then paths names) (nat_cmp x.index y.index) last.0 in
    let first = both_equal paths names middle.0 in
    let instance : thing_instance d x.thing ≡ thing_instance d y.thing = same_place (λ i. i.path) d.instances _ _ no_instance lawful.instance_paths h.instance k.instance (same_bytes _ _ first.0) in
    let name : thing_name d x.thing ≡ thing_name d y.thing = same_bytes _ _ first.1 in
    let make : ℕ → List ℕ → Named = λ (i : ℕ). λ (n : List ℕ). (i, n) in
    let pair : get_or (things d) x.thing (0, []) ≡ get_or (things d) y.thing (0, []) =
    h.is ∙ ap (λ i. make i (thing_name d x.thing)) instance ∙ ap (make (thing_instance d y.thing)) name ∙ sym k.is in
    let things_once : AreDistinct (things d) = distinct_left (things d) (map (λ c. (c.instance, c.name)) d.constants) (distinct_left _ _ lawful.names) in
    let thing : x.thing ≡ y.thing = same_item (things d) x.thing y.thing (0, []) things_once h.listed k.listed pair in
    let whole : ℕ → ℕ → Bool → IndexPoint = λ (t : ℕ). λ (i : ℕ). λ (s : Bool). record { thing = t; index = i; second = s } in
    ap (λ t. whole t x.index x.second) thing ∙ ap (λ i. whole y.thing i x.second) (same_number x.index y.index middle.1) ∙ ap (whole y.thing y.index) (same_second x.second y.second (same_number _ _ last.1))

-- the first part of a test of several
pub signal_instance : (d : Design) (s : Signal) → is_signal d s ≡ true → s.instance < length d.instances
signal_instance d s h = grind (arith, nat_tests)

pub memory_instance : (d : Design) (m : Memory) → is_memory_of d m ≡ true → m.instance < length d.instances
memory_instance d m h = grind (arith, nat_tests)

pub signal_named : (d : Design) → IsLawfulDesign d → (x : ℕ) → x < length d.signals → IsNamed d x
signal_named d lawful x l =
    let pair : Signal → Named = λ (s : Signal). (s.instance, s.name) in
    let other : Memory → Named = λ (m : Memory). (m.instance, m.name) in
    let yes : nat_lt x (length d.signals) ≡ true = grind (arith, nat_tests) in
    let m : x < length (map pair d.signals) = omega (arith, length-map d.signals pair) in
    record {
      listed = omega (arith, m, length-append (map pair d.signals) (map other d.memories));
      instance = rw yes (signal_instance d (signal_at d x) (test_at (is_signal d) d.signals x no_signal lawful.signals l));
      is = rw yes (get_or_append_left (map pair d.signals) (map other d.memories) (0, []) x m ∙ get_or-map pair d.signals x no_signal (0, []) l);
    }

pub memory_named : (d : Design) → IsLawfulDesign d → (k : ℕ) → k < length d.memories → IsNamed d (length d.signals + k)
memory_named d lawful k l =
    let pair : Signal → Named = λ (s : Signal). (s.instance, s.name) in
    let other : Memory → Named = λ (m : Memory). (m.instance, m.name) in
    let x = length d.signals + k in
    let no : nat_lt x (length d.signals) ≡ false = grind (arith, nat_tests) in
    let yes : nat_le (length d.signals) x ≡ true = grind (arith, nat_tests) in
    let place : x - length d.signals ≡ k = omega arith in
    let m = length-map d.signals pair in
    record {
      listed = omega (arith, m, l, length-map d.memories other, length-append (map pair d.signals) (map other d.memories));
      instance = rw (no, yes, place) (memory_instance d (get_or d.memories k no_memory) (test_at (is_memory_of d) d.memories k no_memory lawful.memories l));
      is = rw (no, yes, get_or-append_right (map pair d.signals) (map other d.memories) (length d.signals) x (0, []) m (omega arith), place) (get_or-map other d.memories k no_memory (0, []) l);
    }

not_not : (b : Bool) → not (not b) ≡ b
not_not false = refl
not_not true = refl

-- a point that is found for the signals is one of a bit
pub record IsBit (d : Design) (x : IndexPoint) : Type 0 where
  pub listed : x.thing < length d.signals
  pub least : min (signal_at d x.thing).high (signal_at d x.thing).low ≤ x.index
  pub greatest : x.index ≤ max (signal_at d x.thing).high (signal_at d x.thing).low

pub bit_is_of : (d : Design) (x : IndexPoint) → In x (each_from signal_indexes 0 d.signals) → IsBit d x
bit_is_of d x h =
    let r = parts_of signal_indexes x no_signal 0 d.signals h in
    let s = get_or d.signals r.0 no_signal in
    let b = index_from x (0 + r.0) s.high s.low r.2 in
    let e : x.thing ≡ r.0 = omega (arith, b.0) in
    record { listed = omega (arith, r.1); least = rw e b.1; greatest = rw e b.2 }

pub toggles_are : (d : Design) → IsLawfulDesign d → (found sorted kept : List IndexPoint) → found ≡ each_from signal_indexes 0 d.signals → IsPermutation found sorted → kept ≡ dedup (eq_by_cmp (index_cmp d)) sorted → (s i : ℕ) (rise : Bool) → In (toggle_point s i rise) (map toggle_view kept) ↔ IsPoint d [] (toggle_point s i rise)
toggles_are d lawful found sorted kept is moved kept_is s i rise = (there, back)
  where
    of_found : (x : IndexPoint) → In x found → IsBit d x
    of_found x h = bit_is_of d x (subst (In x) is h)

    there : In (toggle_point s i rise) (map toggle_view kept) → (s < length d.signals) × ((min (signal_at d s).high (signal_at d s).low ≤ i) × (i ≤ max (signal_at d s).high (signal_at d s).low))
    there h =
        let y = in_map toggle_view (toggle_point s i rise) kept h in
        let b = of_found y.0 (once_from (index_total d) found sorted moved y.0 (subst (In y.0) kept_is y.1)) in
        let thing_is : y.0.thing ≡ s = cc in
        let index_is : y.0.index ≡ i = cc in
        (rw thing_is at b.listed, (rw (thing_is, index_is) at b.least, rw (thing_is, index_is) at b.greatest))

    same : (x y : IndexPoint) → In x found → In y found → index_cmp d x y ≡ Equal → toggle_view x ≡ toggle_view y
    same x y h k e = ap toggle_view (one_index d lawful x y (signal_named d lawful x.thing (of_found x h).listed) (signal_named d lawful y.thing (of_found y k).listed) e)

    back : (s < length d.signals) × ((min (signal_at d s).high (signal_at d s).low ≤ i) × (i ≤ max (signal_at d s).high (signal_at d s).low)) → In (toggle_point s i rise) (map toggle_view kept)
    back h =
        let x : IndexPoint = record { thing = s; index = i; second = not rise } in
        let bounds = get_or d.signals s no_signal in
        let here : In x (index_points s bounds.high bounds.low) = index_have s bounds.high bounds.low i (not rise) h.1.0 h.1.1 in
        let there : In x found = subst (In x) (sym is) (whole_of signal_indexes x no_signal 0 d.signals s h.0 (subst (λ n. In x (index_points n bounds.high bounds.low)) (sym (zero-add s)) here)) in
        let kept_there : In (toggle_view x) (map toggle_view kept) = subst (λ ks. In (toggle_view x) (map toggle_view ks)) (sym kept_is) (once_keeps (index_total d) found sorted moved toggle_view same x there) in
        subst (λ b. In (toggle_point s i b) (map toggle_view kept)) (not_not rise) kept_there

-- the memory with a number
memory_is : (d : Design) (k : ℕ) → memory_at d (length d.signals + k) ≡ get_or d.memories k no_memory
memory_is d k =
    let yes : nat_le (length d.signals) (length d.signals + k) ≡ true = grind (arith, nat_tests) in
    let place : length d.signals + k - length d.signals ≡ k = omega arith in
    rw (yes, place) refl

is_memory_yes : (d : Design) (k : ℕ) → k < length d.memories → is_memory d (length d.signals + k) ≡ true
is_memory_yes d k l =
    let yes : nat_le (length d.signals) (length d.signals + k) ≡ true = grind (arith, nat_tests) in
    let under : nat_lt (length d.signals + k) (length d.signals + length d.memories) ≡ true = grind (arith, nat_tests) in
    rw (yes, under) refl

memory_place : (d : Design) (m : ℕ) → is_memory d m ≡ true → (k : ℕ) × (k < length d.memories) × (length d.signals + k ≡ m)
memory_place d m h =
    let p = and_parts (nat_le (length d.signals) m) (nat_lt m (length d.signals + length d.memories)) h in
    let a : length d.signals ≤ m = let q = p.0 in grind (arith, nat_tests) in
    let b : m < length d.signals + length d.memories = let q = p.1 in grind (arith, nat_tests) in
    (m - length d.signals, omega arith, omega arith)

-- a point that is found for the memories is one of a word
pub record IsWord (d : Design) (x : IndexPoint) : Type 0 where
  pub place : ℕ
  pub listed : place < length d.memories
  pub thing_is : x.thing ≡ length d.signals + place
  pub least : min (memory_at d x.thing).first (memory_at d x.thing).last ≤ x.index
  pub greatest : x.index ≤ max (memory_at d x.thing).first (memory_at d x.thing).last

pub word_is_of : (d : Design) (x : IndexPoint) → In x (each_from memory_indexes (length d.signals) d.memories) → IsWord d x
word_is_of d x h =
    let r = parts_of memory_indexes x no_memory (length d.signals) d.memories h in
    let m = get_or d.memories r.0 no_memory in
    let b = index_from x (length d.signals + r.0) m.first m.last r.2 in
    let e : memory_at d x.thing ≡ m = ap (memory_at d) b.0 ∙ memory_is d r.0 in
    record { place = r.0; listed = r.1; thing_is = b.0; least = rw e b.1; greatest = rw e b.2 }

pub words_are : (d : Design) → IsLawfulDesign d → (found sorted kept : List IndexPoint) → found ≡ each_from memory_indexes (length d.signals) d.memories → IsPermutation found sorted → kept ≡ dedup (eq_by_cmp (index_cmp d)) sorted → (m i : ℕ) (write : Bool) → In (word_point m i write) (map word_view kept) ↔ IsPoint d [] (word_point m i write)
words_are d lawful found sorted kept is moved kept_is m i write = (there, back)
  where
    of_found : (x : IndexPoint) → In x found → IsWord d x
    of_found x h = word_is_of d x (subst (In x) is h)

    there : In (word_point m i write) (map word_view kept) → (is_memory d m ≡ true) × (min (memory_at d m).first (memory_at d m).last ≤ i) × (i ≤ max (memory_at d m).first (memory_at d m).last)
    there h =
        let y = in_map word_view (word_point m i write) kept h in
        let b = of_found y.0 (once_from (index_total d) found sorted moved y.0 (subst (In y.0) kept_is y.1)) in
        let thing_is : y.0.thing ≡ m = cc in
        let index_is : y.0.index ≡ i = cc in
        let place_is : length d.signals + b.place ≡ m = sym b.thing_is ∙ thing_is in
        (subst (λ n. is_memory d n ≡ true) place_is (is_memory_yes d b.place b.listed), rw (thing_is, index_is) at b.least, rw (thing_is, index_is) at b.greatest)

    named : (x : IndexPoint) → IsWord d x → IsNamed d x.thing
    named x w = subst (IsNamed d) (sym w.thing_is) (memory_named d lawful w.place w.listed)

    same : (x y : IndexPoint) → In x found → In y found → index_cmp d x y ≡ Equal → word_view x ≡ word_view y
    same x y h k e = ap word_view (one_index d lawful x y (named x (of_found x h)) (named y (of_found y k)) e)

    back : (is_memory d m ≡ true) × (min (memory_at d m).first (memory_at d m).last ≤ i) × (i ≤ max (memory_at d m).first (memory_at d m).last) → In (word_point m i write) (map word_view kept)
    back h =
        let x : IndexPoint = record { thing = m; index = i; second = write } in
        let p = memory_place d m h.0 in
        let bounds = get_or d.memories p.0 no_memory in
        let e : memory_at d m ≡ bounds = ap (memory_at d) (sym p.2) ∙ memory_is d p.0 in
        let here : In x (index_points m bounds.first bounds.last) = index_have m bounds.first bounds.last i write (rw e at h.1) (rw e at h.2) in
        let there : In x found = subst (In x) (sym is) (whole_of memory_indexes x no_memory (length d.signals) d.memories p.0 p.1 (subst (λ n. In x (index_points n bounds.first bounds.last)) (sym p.2) here)) in
        subst (λ ks. In (word_view x) (map word_view ks)) (sym kept_is) (once_keeps (index_total d) found sorted moved word_view same x there)
