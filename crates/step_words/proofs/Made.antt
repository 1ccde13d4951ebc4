-- The words of which nothing is known are those of the followed memories.
use Rattle.std.proofs.Common.{◌≡◌, ℕ, zero, suc, ◌+◌, ◌-◌, ◌*◌, ◌<◌, Bool, true, false, if◌then◌else◌, List, [], ◌∷◌, ◌++◌, map, length, take, get_or, replicate, None, max, min, refl, sym, ap, ap₂, subst, ◌∙◌, arith, le-leb}
use Rattle.std.specs.List.{range_with_len}
use Rattle.std.proofs.lemmas.List.{get_or-replicate, length-replicate}
use Rattle.std.proofs.lemmas.List.FromFn.{length-map-range_with_len}
use Rattle.event_machine.specs.Cell.{Cell}
use Rattle.body_store.specs.Made.{nothing}
use Rattle.design_model.specs.BodyLaws.{word_indexes}
use Rattle.design_model.specs.Design.{Design, In, cell, memory_at, no_memory, word_cells}
use Rattle.design_model.specs.declared.design.Memory.{Memory}
use Rattle.store_knowledge.specs.body_replay.KnownBits.{KnownBits}
use Rattle.written_words.specs.Written.{AreRanges, flag_at, no_range, range_at, range_of}
use Rattle.written_words.specs.declared.range.WordRange.{WordRange}
use Rattle.step_words.specs.Changes.{word_in}
use Rattle.step_words.specs.Unknown.{unknown_all, unknown_words}
use Rattle.step_words.specs.Words.{FitsRanges, HasWords, StepState, words_of}
use Rattle.step_words.proofs.Lists.{number_in}

-- ---- of a list of memories

pub unknown_count : (ms : List Memory) (fs : List Bool) → length fs ≡ length ms → length (unknown_all ms fs) ≡ length ms
unknown_count [] fs e = refl
unknown_count (m ∷ ms) [] e = absurd (omega (arith, e))
unknown_count (m ∷ ms) (f ∷ fs) e = let rest = unknown_count ms fs (omega (arith, e)) in omega (arith, rest)

pub unknown_at : (ms : List Memory) (fs : List Bool) (i : ℕ) → i < length ms → length fs ≡ length ms → get_or (unknown_all ms fs) i [] ≡ unknown_words (get_or ms i no_memory) (flag_at fs i)
unknown_at [] fs i l e = absurd (omega (arith, l))
unknown_at (m ∷ ms) [] i l e = absurd (omega (arith, e))
unknown_at (m ∷ ms) (f ∷ fs) zero l e = refl
unknown_at (m ∷ ms) (f ∷ fs) (suc i) l e = unknown_at ms fs i (omega (arith, l)) (omega (arith, e))

unknown_next : (ms : List Memory) (fs : List Bool) (i : ℕ) (x : Memory) (f : Bool) → i < length ms → length fs ≡ length ms → unknown_all (take (suc i) ms) (take (suc i) fs) ≡ unknown_all (take i ms) (take i fs) ++ unknown_words (get_or ms i x) (get_or fs i f) ∷ []
unknown_next [] fs i x f l e = absurd (omega (arith, l))
unknown_next (m ∷ ms) [] i x f l e = absurd (omega (arith, e))
unknown_next (m ∷ ms) (g ∷ gs) zero x f l e = refl
unknown_next (m ∷ ms) (g ∷ gs) (suc i) x f l e = ap (λ ws. unknown_words m g ∷ ws) (unknown_next ms gs i x f (omega (arith, l)) (omega (arith, e)))

-- one memory more
pub unknown_more : (ms : List Memory) (fs : List Bool) (i : ℕ) (x : Memory) (f : Bool) → i < length ms → length fs ≡ length ms → unknown_all (take (i + 1) ms) (take (i + 1) fs) ≡ unknown_all (take i ms) (take i fs) ++ unknown_words (get_or ms i x) (get_or fs i f) ∷ []
unknown_more ms fs i x f l e = let next : i + 1 ≡ suc i = omega arith in ap (λ n. unknown_all (take n ms) (take n fs)) next ∙ unknown_next ms fs i x f l e

pub unknown_pushed : (ms : List Memory) (fs : List Bool) (i : ℕ) (items more : List (List KnownBits)) (new : List KnownBits) (x : Memory) (f : Bool) → i < length ms → length fs ≡ length ms → items ≡ unknown_all (take i ms) (take i fs) → x ≡ get_or ms i x → f ≡ get_or fs i f
    → new ≡ unknown_words x f → more ≡ items ++ new ∷ [] → more ≡ unknown_all (take (i + 1) ms) (take (i + 1) fs)
unknown_pushed ms fs i items more new x f l e are memory flag is pushed =
    pushed ∙ ap₂ (λ (a : List (List KnownBits)) b. a ++ b ∷ []) are (is ∙ ap₂ unknown_words memory flag) ∙ sym (unknown_more ms fs i x f l e)

-- ---- of the memories of a design

nothing_of : (cs : List Cell) → map nothing cs ≡ replicate (length cs) None
nothing_of [] = refl
nothing_of (c ∷ cs) = ap (λ ps. None ∷ ps) (nothing_of cs)

module _ (d : Design) (flags : List Bool) (ranges : List WordRange) (x : StepState) (first : x.first ≡ length d.signals) (words : x.words ≡ unknown_all d.memories flags) (size : length flags ≡ length d.memories) (are : AreRanges d.memories flags ranges) where
  abbrev n : ℕ
  n = length d.signals

  memory_is : (m : ℕ) → memory_at d (n + m) ≡ get_or d.memories m no_memory
  memory_is m =
      let back : (n + m) - n ≡ m = omega arith in
      ap (λ t. if t then get_or d.memories ((n + m) - n) no_memory else no_memory) (le-leb n (n + m) (omega arith)) ∙ ap (λ i. get_or d.memories i no_memory) back

  words_are : (m : ℕ) → m < length d.memories → words_of x m ≡ unknown_words (get_or d.memories m no_memory) (flag_at flags m)
  words_are m l = ap (λ ws. get_or ws m []) words ∙ unknown_at d.memories flags m l size

  count_is : (m : ℕ) → m < length d.memories → (range_at ranges m).count ≡ (if flag_at flags m then range_of (get_or d.memories m no_memory) else no_range).count
  count_is m l = ap (λ (r : WordRange). r.count) (are.each m l)

  word_is : (m q : ℕ) → m < length d.memories → q < (range_at ranges m).count → word_in (words_of x m) q ≡ replicate (memory_at d (n + m)).width None
  word_is m q l k =
      let y = get_or d.memories m no_memory in
      let count = count_is m l in
      let inside : q < (if flag_at flags m then range_of y else no_range).count = omega (arith, k, count) in
      ap (λ ws. word_in ws q) (words_are m l) ∙ get_or-replicate (if flag_at flags m then range_of y else no_range).count q (replicate y.width None) [] inside ∙ ap (λ (z : Memory). replicate z.width None) (sym (memory_is m))

  inside_is : (m q : ℕ) → m < length d.memories → q < (range_at ranges m).count → In ((range_at ranges m).least + q) (word_indexes d (n + m))
  inside_is m q l k = subst (λ (z : Memory). In ((range_at ranges m).least + q) (range_with_len (min z.first z.last) (max z.first z.last - min z.first z.last + 1))) (sym (memory_is m)) (go (flag_at flags m) (are.each m l))
    where
      go : (t : Bool) → range_at ranges m ≡ (if t then range_of (get_or d.memories m no_memory) else no_range)
          → In ((range_at ranges m).least + q) (range_with_len (min (get_or d.memories m no_memory).first (get_or d.memories m no_memory).last) (max (get_or d.memories m no_memory).first (get_or d.memories m no_memory).last - min (get_or d.memories m no_memory).first (get_or d.memories m no_memory).last + 1))
      go true e =
          let y = get_or d.memories m no_memory in
          let least = ap (λ (r : WordRange). r.least) e in
          let count = ap (λ (r : WordRange). r.count) e in
          number_in (min y.first y.last) (max y.first y.last - min y.first y.last + 1) ((range_at ranges m).least + q) (omega (arith, least)) (omega (arith, k, least, count))
      go false e = let count = ap (λ (r : WordRange). r.count) e in absurd (omega (arith, k, count))

  pub new_fits : FitsRanges d ranges x
  new_fits =
      record {
        memories = record { first = first; count = ap length words ∙ unknown_count d.memories flags size };
        ranged = are.count;
        sizes = λ m l. ap length (words_are m l) ∙ length-replicate (if flag_at flags m then range_of (get_or d.memories m no_memory) else no_range).count (replicate (get_or d.memories m no_memory).width None) ∙ sym (count_is m l);
        widths = λ m q l k. ap length (word_is m q l k) ∙ length-replicate (memory_at d (n + m)).width None;
        inside = inside_is;
      }

  pub new_words : HasWords d nothing ranges x
  new_words m q l k =
      let i = (range_at ranges m).least + q in
      word_is m q l k ∙ ap (λ w. replicate w None) (sym (length-map-range_with_len (λ j. cell (n + m) (i * (memory_at d (n + m)).width + j)) 0 (memory_at d (n + m)).width)) ∙ sym (nothing_of (word_cells d (n + m) i))
