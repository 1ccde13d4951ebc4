-- One more word is written.
use Rattle.std.proofs.Common.{◌≡◌, ⊎_elim, ℕ, zero, suc, ◌+◌, ◌-◌, ◌<◌, ◌≤◌, ◌==◌, ◌&&◌, ◌||◌, Bool, true, false, if◌then◌else◌, List, [], ◌∷◌, ◌++◌, length, map, get_or, refl, sym, ap, subst, ◌∙◌, arith, eq-eqb, nat_le, nat_lt}
use Rattle.std.proofs.Math.ListN.{get_or-map}
use Rattle.std.proofs.lemmas.Bool.{and_from, and_parts, eqb-true, false≢true, leb-true, ltb-true, or_cases}
use Rattle.std.proofs.lemmas.List.{length-map}
use Rattle.index_sets.specs.Members.{Members}
use Rattle.write_log.specs.Entries.{has}
use Rattle.word_log.specs.Seen.{words_seen}
use Rattle.word_log.proofs.SeenSets.{no_set}
use Rattle.written_words.specs.Written.{AreSmall, AreWritten, WrittenState, has_word, in_range, is_followed, no_range, range_at, sizes_of}
use Rattle.written_words.specs.declared.range.WordRange.{WordRange}

-- two tests that hold together
same_tests : (a b : Bool) → (a ≡ true → b ≡ true) → (b ≡ true → a ≡ true) → a ≡ b
same_tests true b there back = sym (there refl)
same_tests false true there back = absurd (false≢true (back refl))
same_tests false false there back = refl

-- there are as many sets as ranges, each of the size of its range
pub sets_length : (words : List Members) (ranges : List WordRange) → map (λ w. w.size) words ≡ sizes_of ranges → length words ≡ length ranges
sets_length words ranges sizes = sym (length-map words (λ (w : Members). w.size)) ∙ ap length sizes ∙ length-map ranges (λ (r : WordRange). r.count)

pub set_size : (words : List Members) (ranges : List WordRange) (m : ℕ) → map (λ w. w.size) words ≡ sizes_of ranges → (get_or words m no_set).size ≡ (range_at ranges m).count
set_size words ranges m sizes = sym (get_or-map (λ (w : Members). w.size) words m no_set) ∙ ap (λ xs. get_or xs m 0) sizes ∙ get_or-map (λ (r : WordRange). r.count) ranges m no_range

-- a word in the range has a place below the count
pub place_below : (r : WordRange) (i q : ℕ) → in_range r i ≡ true → i ≡ r.least + q → q < r.count
place_below r i q inside is =
    let p = and_parts (nat_le r.least i) (nat_lt (i - r.least) r.count) inside in
    let below : i - r.least < r.count = ltb-true (i - r.least) r.count p.1 in
    omega (arith, below, is)

-- what is listed now is within the ranges
pub now_within : (ranges : List WordRange) (xs ys : List ℕ) (m : ℕ) → ((k : ℕ) → has xs k ≡ true → k < length ranges) → m < length ranges → ((k : ℕ) → has ys k ≡ (has xs k || (m == k))) → (k : ℕ) → has ys k ≡ true → k < length ranges
now_within ranges xs ys m before here same k e = ⊎_elim (λ h. before k h) (λ h. subst (λ z. z < length ranges) (eqb-true m k h) here) (or_cases (has xs k) (m == k) (sym (same k) ∙ e))

-- and what is written is inside of its range
pub now_inside : (ranges : List WordRange) (words words' : List Members) (m q : ℕ) → ((k i : ℕ) → has (words_seen words k) i ≡ true → i < (range_at ranges k).count) → q < (range_at ranges m).count
    → ((k : ℕ × ℕ) → has (words_seen words' k.0) k.1 ≡ (has (words_seen words k.0) k.1 || ((m == k.0) && (q == k.1)))) → (k i : ℕ) → has (words_seen words' k) i ≡ true → i < (range_at ranges k).count
now_inside ranges words words' m q before here same k i e =
    ⊎_elim (λ h. before k i h)
    (λ h. let p = and_parts (m == k) (q == i) h in subst (λ z. z < (range_at ranges k).count) (eqb-true q i p.1) (subst (λ z. q < (range_at ranges z).count) (eqb-true m k p.0) here))
    (or_cases (has (words_seen words k) i) ((m == k) && (q == i)) (sym (same (k, i)) ∙ e))

-- the test of a followed word, with one more
one_more : (f h x y : Bool) → (f ≡ true → x ≡ y) → (f && (h || x)) ≡ ((f && h) || (f && y))
one_more true h x y same = ap (λ t. h || t) (same refl)
one_more false h x y same = refl

module _ (w : WrittenState) (words' : List Members) (memory place index : ℕ) (r : WordRange) (is : range_at w.ranges memory ≡ r) (named : index ≡ r.least + place)
    (seen : (k : ℕ × ℕ) → has (words_seen words' k.0) k.1 ≡ (has (words_seen w.words k.0) k.1 || ((memory == k.0) && (place == k.1)))) (m i : ℕ) where
  -- the memory and place are those of the number and index
  named_so : is_followed w m i ≡ true → ((memory == m - w.first) && (place == i - (range_at w.ranges (m - w.first)).least)) ≡ ((w.first + memory == m) && (index == i))
  named_so followed = same_tests _ _ there back
    where
      parts : (nat_le w.first m ≡ true) × (in_range (range_at w.ranges (m - w.first)) i ≡ true)
      parts = and_parts (nat_le w.first m) _ followed

      first : w.first ≤ m
      first = leb-true w.first m parts.0

      least : (range_at w.ranges (m - w.first)).least ≤ i
      least = leb-true _ i (and_parts (nat_le (range_at w.ranges (m - w.first)).least i) _ parts.1).0

      range_is : memory ≡ m - w.first → (range_at w.ranges (m - w.first)).least ≡ r.least
      range_is e = ap (λ k. (range_at w.ranges k).least) (sym e) ∙ ap (λ (z : WordRange). z.least) is

      there : ((memory == m - w.first) && (place == i - (range_at w.ranges (m - w.first)).least)) ≡ true → ((w.first + memory == m) && (index == i)) ≡ true
      there e =
          let p = and_parts (memory == m - w.first) _ e in
          let at : memory ≡ m - w.first = eqb-true memory (m - w.first) p.0 in
          let here : place ≡ i - (range_at w.ranges (m - w.first)).least = eqb-true place _ p.1 in
          let low = range_is at in
          let f = first in
          let l = least in
          and_from (w.first + memory == m) (index == i) (eq-eqb (w.first + memory) m (omega (arith, at, f))) (eq-eqb index i (omega (arith, here, low, l, named)))

      back : ((w.first + memory == m) && (index == i)) ≡ true → ((memory == m - w.first) && (place == i - (range_at w.ranges (m - w.first)).least)) ≡ true
      back e =
          let p = and_parts (w.first + memory == m) (index == i) e in
          let number : w.first + memory ≡ m = eqb-true (w.first + memory) m p.0 in
          let at : memory ≡ m - w.first = omega (arith, number) in
          let same : index ≡ i = eqb-true index i p.1 in
          let low = range_is at in
          and_from (memory == m - w.first) _ (eq-eqb memory (m - w.first) at) (eq-eqb place _ (omega (arith, same, low, named)))

  pub word_added : (is_followed w m i && has (words_seen words' (m - w.first)) (i - (range_at w.ranges (m - w.first)).least)) ≡ (has_word w m i || (is_followed w m i && ((w.first + memory == m) && (index == i))))
  word_added =
      ap (λ t. is_followed w m i && t) (seen (m - w.first, i - (range_at w.ranges (m - w.first)).least))
      ∙ one_more (is_followed w m i) (has (words_seen w.words (m - w.first)) (i - (range_at w.ranges (m - w.first)).least)) _ _ named_so

-- one range more
pub small_more : (rs : List WordRange) (r : WordRange) → AreSmall rs → r.least + r.count ≤ 4294967296 → AreSmall (rs ++ r ∷ [])
small_more [] r small one zero l = one
small_more [] r small one (suc m) l = absurd (omega (arith, l))
small_more (x ∷ rs) r small one zero l = small 0 (omega arith)
small_more (x ∷ rs) r small one (suc m) l = small_more rs r (λ k below. small (suc k) (omega (arith, below))) one m (omega (arith, l))

-- ---- where all is emptied

module _ (ranges : List WordRange) (listed : Members) (old new : List Members) (emptied : (m : ℕ) → words_seen new m ≡ (if has listed.items m then [] else words_seen old m)) (sets : AreWritten ranges listed old) where
  pub none_seen : (m : ℕ) → words_seen new m ≡ []
  none_seen m = emptied m ∙ go (has listed.items m) refl
    where
      go : (t : Bool) → has listed.items m ≡ t → (if t then [] else words_seen old m) ≡ []
      go true e = refl
      go false e = sets.unlisted m e

  none_inside : (m q : ℕ) → has (words_seen new m) q ≡ true → q < (range_at ranges m).count
  none_inside m q e = absurd (false≢true (sym (ap (λ xs. has xs q) (none_seen m)) ∙ e))

  pub all_emptied : (none : Members) → none.items ≡ [] → none.size ≡ listed.size → map (λ s. s.size) new ≡ map (λ s. s.size) old → AreWritten ranges none new
  all_emptied none items size sizes =
      record {
        count = size ∙ sets.count ∙ sym (length-map old (λ (s : Members). s.size)) ∙ ap length (sym sizes) ∙ length-map new (λ (s : Members). s.size);
        sizes = sizes ∙ sets.sizes;
        unlisted = λ m e. none_seen m;
        within = λ m e. absurd (false≢true (sym (ap (λ xs. has xs m) items) ∙ e));
        inside = none_inside;
        small = sets.small;
      }
