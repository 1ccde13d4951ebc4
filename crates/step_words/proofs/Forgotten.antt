-- Words of which nothing is known any more.
use Rattle.std.proofs.Common.{◌≡◌, ℕ, zero, suc, ◌+◌, ◌-◌, ◌*◌, ◌<◌, ◌≤◌, false, if◌then◌else◌, List, [], ◌∷◌, None, length, map, get_or, set, take, replicate, refl, sym, ap, ap₂, ◌∙◌, arith, le-leb}
use Rattle.std.proofs.lemmas.List.{get_or-replicate, length-map, length-replicate}
use Rattle.std.proofs.lemmas.List.FromFn.{length-map-range_with_len}
use Rattle.event_machine.specs.Cell.{Cell}
use Rattle.known_state.specs.Partly.{Partly, are_sure}
use Rattle.body_store.specs.Made.{nothing}
use Rattle.design_model.specs.Design.{Design, cell, memory_at, no_memory, word_cells}
use Rattle.design_model.specs.declared.design.Memory.{Memory}
use Rattle.store_knowledge.specs.body_replay.KnownBits.{KnownBits}
use Rattle.written_words.specs.Written.{range_at}
use Rattle.written_words.specs.declared.range.WordRange.{WordRange}
use Rattle.step_words.specs.Changes.{count_unsure, word_in}
use Rattle.step_words.specs.Words.{FitsRanges, HasWords, StepState, words_of}
use Rattle.step_words.proofs.Counts.{count_same}
use Rattle.step_words.proofs.Lists.{map_replicate}

-- ---- of one memory

-- all are filled with one word of which no bit is sure
pub filled_counts : (items now : List Partly) (u : Partly) (n : ℕ) → now ≡ replicate (length items) u → are_sure u.bits ≡ false → n ≡ length now → length items ≤ 4294967296 → (n ≡ count_unsure (map (λ w. w.bits) now)) × (length now ≤ 4294967296)
filled_counts items now u n are unsure len few =
    let size : length now ≡ length items = ap length are ∙ length-replicate (length items) u in
    let count : count_unsure (map (λ (w : Partly). w.bits) now) ≡ length items =
    ap (λ (ws : List Partly). count_unsure (map (λ w. w.bits) ws)) are ∙ ap count_unsure (map_replicate (λ (w : Partly). w.bits) (length items) u) ∙ count_same (length items) u.bits unsure in
    (omega (arith, len, size, count), omega (arith, size, few))

pub filled_words : (items now : List Partly) (old : List KnownBits) (u : Partly) (n : ℕ) → now ≡ replicate (length items) u → u ≡ record { bits = replicate n None; signed = false; blame = 0 } → map (λ w. w.bits) items ≡ old
    → map (λ w. w.bits) now ≡ replicate (length old) (replicate n None)
filled_words items now old u n are made view =
    ap (map (λ (w : Partly). w.bits)) are ∙ map_replicate (λ (w : Partly). w.bits) (length items) u
    ∙ ap₂ (λ k (b : KnownBits). replicate k b) (sym (length-map items (λ (w : Partly). w.bits)) ∙ ap length view) (ap (λ (w : Partly). w.bits) made)

-- ---- of these memories, from the first on

abbrev pub forgotten_words : List Memory → List (List KnownBits) → List (List KnownBits)
forgotten_words [] ws = ws
forgotten_words (x ∷ xs) [] = []
forgotten_words (x ∷ xs) (w ∷ ws) = replicate (length w) (replicate x.width None) ∷ forgotten_words xs ws

pub forgotten_count : (xs : List Memory) (ws : List (List KnownBits)) → length (forgotten_words xs ws) ≡ length ws
forgotten_count [] ws = refl
forgotten_count (x ∷ xs) [] = refl
forgotten_count (x ∷ xs) (w ∷ ws) = let rest = forgotten_count xs ws in omega (arith, rest)

forgotten_at : (xs : List Memory) (ws : List (List KnownBits)) (i : ℕ) → i < length xs → length xs ≡ length ws → get_or (forgotten_words xs ws) i [] ≡ replicate (length (get_or ws i [])) (replicate (get_or xs i no_memory).width None)
forgotten_at [] ws i l e = absurd (omega (arith, l))
forgotten_at (x ∷ xs) [] i l e = absurd (omega (arith, e))
forgotten_at (x ∷ xs) (w ∷ ws) zero l e = refl
forgotten_at (x ∷ xs) (w ∷ ws) (suc i) l e = forgotten_at xs ws i (omega (arith, l)) (omega (arith, e))

forgotten_next : (xs : List Memory) (ws : List (List KnownBits)) (i : ℕ) (y : Memory) → i < length xs → length xs ≡ length ws
    → set (forgotten_words (take i xs) ws) i (replicate (length (get_or (forgotten_words (take i xs) ws) i [])) (replicate (get_or xs i y).width None)) ≡ forgotten_words (take (suc i) xs) ws
forgotten_next [] ws i y l e = absurd (omega (arith, l))
forgotten_next (x ∷ xs) [] i y l e = absurd (omega (arith, e))
forgotten_next (x ∷ xs) (w ∷ ws) zero y l e = refl
forgotten_next (x ∷ xs) (w ∷ ws) (suc i) y l e = ap (λ vs. replicate (length w) (replicate x.width None) ∷ vs) (forgotten_next xs ws i y (omega (arith, l)) (omega (arith, e)))

-- one memory more
pub forgotten_more : (xs : List Memory) (i : ℕ) (old now more : StepState) (y : Memory) → i < length xs → length xs ≡ length old.words → now ≡ record old { words = forgotten_words (take i xs) old.words } → y ≡ get_or xs i y
    → more ≡ record now { words = set now.words i (replicate (length (words_of now i)) (replicate y.width None)) } → more ≡ record old { words = forgotten_words (take (i + 1) xs) old.words }
forgotten_more xs i old now more y l e is memory made =
    let next : i + 1 ≡ suc i = omega arith in
    let before = forgotten_words (take i xs) old.words in
    made
    ∙ ap (λ (x : StepState). record x { words = set x.words i (replicate (length (words_of x i)) (replicate y.width None)) }) is
    ∙ ap (λ (z : Memory). record old { words = set before i (replicate (length (get_or before i [])) (replicate z.width None)) }) memory
    ∙ ap (λ (ws : List (List KnownBits)). record old { words = ws }) (forgotten_next xs old.words i y l e ∙ ap (λ n. forgotten_words (take n xs) old.words) (sym next))

-- ---- of all memories of a design

nothing_of : (cs : List Cell) → map nothing cs ≡ replicate (length cs) None
nothing_of [] = refl
nothing_of (c ∷ cs) = ap (λ ps. None ∷ ps) (nothing_of cs)

module _ (d : Design) (ranges : List WordRange) (x : StepState) (fits : FitsRanges d ranges x) where
  abbrev n : ℕ
  n = length d.signals

  abbrev y : StepState
  y = record x { words = forgotten_words d.memories x.words }

  memory_is : (m : ℕ) → memory_at d (n + m) ≡ get_or d.memories m no_memory
  memory_is m =
      let back : (n + m) - n ≡ m = omega arith in
      ap (λ t. if t then get_or d.memories ((n + m) - n) no_memory else no_memory) (le-leb n (n + m) (omega arith)) ∙ ap (λ i. get_or d.memories i no_memory) back

  words_are : (m : ℕ) → m < length d.memories → words_of y m ≡ replicate (length (words_of x m)) (replicate (get_or d.memories m no_memory).width None)
  words_are m l = forgotten_at d.memories x.words m l (sym fits.memories.count)

  word_is : (m q : ℕ) → m < length d.memories → q < (range_at ranges m).count → word_in (words_of y m) q ≡ replicate (memory_at d (n + m)).width None
  word_is m q l k =
      let size = fits.sizes m l in
      let inside : q < length (words_of x m) = omega (arith, k, size) in
      ap (λ ws. word_in ws q) (words_are m l) ∙ get_or-replicate (length (words_of x m)) q (replicate (get_or d.memories m no_memory).width None) [] inside
      ∙ ap (λ (z : Memory). replicate z.width None) (sym (memory_is m))

  pub forgotten_fits : FitsRanges d ranges y
  forgotten_fits =
      record {
        memories = record { first = fits.memories.first; count = forgotten_count d.memories x.words ∙ fits.memories.count };
        ranged = fits.ranged;
        sizes = λ m l. ap length (words_are m l) ∙ length-replicate (length (words_of x m)) (replicate (get_or d.memories m no_memory).width None) ∙ fits.sizes m l;
        widths = λ m q l k. ap length (word_is m q l k) ∙ length-replicate (memory_at d (n + m)).width None;
        inside = fits.inside;
      }

  pub forgotten_has : HasWords d nothing ranges y
  forgotten_has m q l k =
      let i = (range_at ranges m).least + q in
      word_is m q l k ∙ ap (λ w. replicate w None) (sym (length-map-range_with_len (λ j. cell (n + m) (i * (memory_at d (n + m)).width + j)) 0 (memory_at d (n + m)).width)) ∙ sym (nothing_of (word_cells d (n + m) i))
