-- What the generator computes in a step.
use Rattle.std.proofs.Common.{◌≡◌, ◌≢◌, ⊎_elim, ℕ, zero, suc, ◌<◌, ◌≤◌, Bool, true, false, nat_lt, List, length, refl, sym, ap, ◌∙◌, arith, if◌then◌else◌}
use Rattle.std.specs.Prelude.{slice_index, slice_set, replicate}
use Rattle.std.proofs.lemmas.Bool.{cases_lt, lt-ltb, ltb-true}
use Rattle.std.proofs.lemmas.List.{get_or-set_other, get_or-set_same, length-set}
use Rattle.selfrun_files.specs.Inputs.{drawn, inputs_of, next_number}
use Rattle.selfrun_files.specs.Moments.{inputs_in, moment, registers_after}

-- the moment after k steps has this number of steps
pub steps_counted : (number k : ℕ) → (moment number k).step ≡ k
steps_counted number zero = refl
steps_counted number (suc k) = omega (arith, steps_counted number k)

-- there are 16 words
pub words_counted : (number k : ℕ) → length (registers_after number k).words ≡ 16
words_counted number zero = refl
words_counted number (suc k) = go (inputs_in number k).we (words_counted number k)
  where
    go : (b : Bool) → length (registers_after number k).words ≡ 16 → length (if b then slice_set (registers_after number k).words (inputs_in number k).a (registers_after number k).p else (registers_after number k).words) ≡ 16
    go true before = length-set (registers_after number k).words (inputs_in number k).a (registers_after number k).p ∙ before
    go false before = before

-- an index is below 16
index_below : (k x : ℕ) → (inputs_of k x).a < 16
index_below k x = go (nat_lt k 16) refl
  where
    go : (b : Bool) → nat_lt k 16 ≡ b → (if b then record (drawn x) { we = true; a = k } else drawn x).a < 16
    go true is = ltb-true k 16 is
    go false is = omega arith

pub a_below : (number k : ℕ) → (inputs_in number k).a < 16
a_below number k = index_below (moment number k).step (next_number (moment number k).number)

-- in the first 16 steps the words are written one after the other
first_inputs : (k x : ℕ) → k < 16 → inputs_of k x ≡ record (drawn x) { we = true; a = k }
first_inputs k x below = ap (λ b. if b then record (drawn x) { we = true; a = k } else drawn x) (lt-ltb k 16 below)

pub first_written : (number k : ℕ) → k < 16 → ((inputs_in number k).we ≡ true) × ((inputs_in number k).a ≡ k)
first_written number k below =
    let at = first_inputs (moment number k).step (next_number (moment number k).number) (omega (arith, below, steps_counted number k)) in
    (ap (λ i. i.we) at, ap (λ i. i.a) at ∙ steps_counted number k)

-- so where a word is read, 16 steps are past
pub read_late : (number k : ℕ) → (inputs_in number k).we ≡ false → 16 ≤ k
read_late number k reads = ⊎_elim (λ early. absurd (true_false (sym (first_written number k early).0 ∙ reads))) (λ late. late) (cases_lt k 16)
  where
    true_false : true ≡ false → ⊥
    true_false e = cc

-- the registers after a step in which a word is written, and in which one is read
module _ (number k : ℕ) where
  pub q_kept : (inputs_in number k).we ≡ true → (registers_after number (suc k)).q ≡ (registers_after number k).q
  q_kept is = ap (λ b. if b then (registers_after number k).q else slice_index (registers_after number k).words (inputs_in number k).a) is

  pub q_read : (inputs_in number k).we ≡ false → (registers_after number (suc k)).q ≡ slice_index (registers_after number k).words (inputs_in number k).a
  q_read is = ap (λ b. if b then (registers_after number k).q else slice_index (registers_after number k).words (inputs_in number k).a) is

  words_written : (inputs_in number k).we ≡ true → (registers_after number (suc k)).words ≡ slice_set (registers_after number k).words (inputs_in number k).a (registers_after number k).p
  words_written is = ap (λ b. if b then slice_set (registers_after number k).words (inputs_in number k).a (registers_after number k).p else (registers_after number k).words) is

  pub words_kept : (inputs_in number k).we ≡ false → (registers_after number (suc k)).words ≡ (registers_after number k).words
  words_kept is = ap (λ b. if b then slice_set (registers_after number k).words (inputs_in number k).a (registers_after number k).p else (registers_after number k).words) is

  pub written_word : (inputs_in number k).we ≡ true → slice_index (registers_after number (suc k)).words (inputs_in number k).a ≡ (registers_after number k).p
  written_word is =
      ap (λ (ws : List ℕ). slice_index ws (inputs_in number k).a) (words_written is)
      ∙ get_or-set_same (registers_after number k).words (inputs_in number k).a (registers_after number k).p 0 (omega (arith, a_below number k, words_counted number k))

  pub other_word : (inputs_in number k).we ≡ true → (i : ℕ) → i ≢ (inputs_in number k).a → slice_index (registers_after number (suc k)).words i ≡ slice_index (registers_after number k).words i
  other_word is i apart =
      ap (λ (ws : List ℕ). slice_index ws i) (words_written is) ∙ get_or-set_other (registers_after number k).words (inputs_in number k).a i (registers_after number k).p 0 apart

-- all words are 0 at first
zeros : (n i : ℕ) → slice_index (replicate n 0) i ≡ 0
zeros zero i = refl
zeros (suc n) zero = refl
zeros (suc n) (suc i) = zeros n i

pub no_words : (number i : ℕ) → slice_index (registers_after number 0).words i ≡ 0
no_words number i = zeros 16 i
