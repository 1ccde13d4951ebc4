-- The words fit the ranges still where one of them is another, or nothing has changed.
use Rattle.std.proofs.Common.{◌≡◌, ℕ, ◌+◌, ◌<◌, ◌==◌, Bool, true, false, List, [], length, set, refl, sym, ap, ap₂, ◌∙◌, arith, eq-eqb, get_or-set_same, get_or-set_other, length-set}
use Rattle.std.proofs.lemmas.Bool.{eqb-true, false≢true}
use Rattle.design_model.specs.Design.{Design, memory_at}
use Rattle.index_sets.specs.Members.{Members}
use Rattle.store_knowledge.specs.body_replay.KnownBits.{KnownBits}
use Rattle.written_words.specs.Written.{range_at}
use Rattle.written_words.specs.declared.range.WordRange.{WordRange}
use Rattle.step_words.specs.Changes.{word_in}
use Rattle.step_words.specs.Words.{FitsRanges, StepState, after_word, unchanged, words_of}

abbrev pub set_of : ℕ → List ℕ → Members
set_of n is = record { size = n; items = is }

abbrev pub state_of : ℕ → List (List KnownBits) → Members → Members → StepState
state_of first words s t = record { first = first; words = words; changed = s; unsteady = t }

-- the sets are emptied
pub cleared_is : (x : StepState) (first : ℕ) (words : List (List KnownBits)) (c u s t : Members) → state_of first words c u ≡ x → s.size ≡ c.size → s.items ≡ [] → t.size ≡ u.size → t.items ≡ [] → state_of first words s t ≡ unchanged x
cleared_is x first words c u s t is sized none sized' none' = ap₂ (state_of first words) (ap₂ set_of sized none) (ap₂ set_of sized' none') ∙ ap unchanged is

pub unchanged_fits : (d : Design) (ranges : List WordRange) (x : StepState) → FitsRanges d ranges x → FitsRanges d ranges (unchanged x)
unchanged_fits d ranges x fits = record { memories = record { first = fits.memories.first; count = fits.memories.count }; ranged = fits.ranged; sizes = fits.sizes; widths = fits.widths; inside = fits.inside }

module _ (d : Design) (ranges : List WordRange) (x : StepState) (m q : ℕ) (ps : KnownBits) (fits : FitsRanges d ranges x) (here : m < length d.memories) (inside : q < (range_at ranges m).count) (size : length ps ≡ (memory_at d (length d.signals + m)).width) where
  abbrev y : StepState
  y = after_word m q ps x

  place : m < length x.words
  place = let h = here in let count = fits.memories.count in omega (arith, h, count)

  word_place : q < length (words_of x m)
  word_place = let i = inside in let s = fits.sizes m here in omega (arith, i, s)

  words_here : (k : ℕ) → m ≡ k → words_of y k ≡ set (words_of x m) q ps
  words_here k e = ap (words_of y) (sym e) ∙ get_or-set_same x.words m (set (words_of x m) q ps) [] place

  words_there : (k : ℕ) → (m == k) ≡ false → words_of y k ≡ words_of x k
  words_there k e = get_or-set_other x.words m k (set (words_of x m) q ps) [] (λ i. false≢true (sym e ∙ eq-eqb m k (sym i)))

  sizes_after : (k : ℕ) → length (words_of y k) ≡ length (words_of x k)
  sizes_after k = go (m == k) refl
    where
      go : (t : Bool) → (m == k) ≡ t → length (words_of y k) ≡ length (words_of x k)
      go false e = ap length (words_there k e)
      go true e = let same : m ≡ k = eqb-true m k e in ap length (words_here k same) ∙ length-set (words_of x m) q ps ∙ ap (λ j. length (words_of x j)) same

  word_after : (j : ℕ) → j < (range_at ranges m).count → length (word_in (set (words_of x m) q ps) j) ≡ (memory_at d (length d.signals + m)).width
  word_after j b = go (q == j) refl
    where
      go : (t : Bool) → (q == j) ≡ t → length (word_in (set (words_of x m) q ps) j) ≡ (memory_at d (length d.signals + m)).width
      go true e = ap (λ i. length (word_in (set (words_of x m) q ps) i)) (sym (eqb-true q j e)) ∙ ap length (get_or-set_same (words_of x m) q ps [] word_place) ∙ size
      go false e = ap length (get_or-set_other (words_of x m) q j ps [] (λ i. false≢true (sym e ∙ eq-eqb q j (sym i)))) ∙ fits.widths m j here b

  widths_after : (k j : ℕ) → k < length d.memories → j < (range_at ranges k).count → length (word_in (words_of y k) j) ≡ (memory_at d (length d.signals + k)).width
  widths_after k j l b = go (m == k) refl
    where
      go : (t : Bool) → (m == k) ≡ t → length (word_in (words_of y k) j) ≡ (memory_at d (length d.signals + k)).width
      go false e = ap (λ ws. length (word_in ws j)) (words_there k e) ∙ fits.widths k j l b
      go true e =
          let same : m ≡ k = eqb-true m k e in
          let count = ap (λ i. (range_at ranges i).count) same in
          ap (λ ws. length (word_in ws j)) (words_here k same) ∙ word_after j (omega (arith, b, count)) ∙ ap (λ i. (memory_at d (length d.signals + i)).width) same

  pub after_fits : FitsRanges d ranges y
  after_fits =
      record {
        memories = record { first = fits.memories.first; count = length-set x.words m (set (words_of x m) q ps) ∙ fits.memories.count };
        ranged = fits.ranged;
        sizes = λ k l. sizes_after k ∙ fits.sizes k l;
        widths = widths_after;
        inside = fits.inside;
      }
