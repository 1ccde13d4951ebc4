-- Rows of cells: the bits of a signal or a word, as they are known.
use Rattle.std.proofs.Common.{◌≡◌, ℕ, zero, suc, ◌+◌, ◌-◌, ◌*◌, ◌/◌, ◌%◌, ◌<◌, ◌≤◌, true, false, if◌then◌else◌, [], ◌∷◌, length, map, get_or, None, refl, sym, ap, ap₂, ◌∙◌, arith}
use Rattle.std.specs.Prelude.{nat_lt}
use Rattle.std.specs.List.{range_with_len}
use Rattle.std.proofs.lemmas.Bool.Decides.{nat_tests}
use Rattle.std.proofs.lemmas.List.{get_or-map}
use Rattle.std.proofs.lemmas.List.FromFn.{get_or-map-range_with_len, length-map-range_with_len}
use Rattle.std.proofs.lemmas.Nat.{div-mul-add, mod-mul-add}
use Rattle.design_model.specs.event_machine.Cell.{Cell}
use Rattle.known_state.specs.Partly.{Partly}
use Rattle.design_model.specs.Design.{Design, cell, memory_at, signal_at, signal_cells}
use Rattle.body_calls.specs.body_replay.KnownBits.{KnownBits}
use Rattle.body_calls.specs.body_replay.Store.{Kept}
use Rattle.word_log.specs.memory_rebuild.Words.{IsIndex, KnownWords, StandsFor, word_at}
use Rattle.body_store.specs.Scenes.{bit_at, has_index, kept_by, word_bit}

-- the bits are those of a row of cells
pub row_is : (k : Kept) (f : ℕ → Cell) (a w : ℕ) (ps : KnownBits) → length ps ≡ w → ((i : ℕ) → i < w → k (f (a + i)) ≡ bit_at ps i) → ps ≡ map k (map f (range_with_len a w))
row_is k f a zero [] e h = refl
row_is k f a zero (p ∷ ps) e h = absurd (omega (arith, e))
row_is k f a (suc w) [] e h = absurd (omega (arith, e))
row_is k f a (suc w) (p ∷ ps) e h =
    let start : a + 0 ≡ a = omega arith in
    let first : k (f a) ≡ p = ap (λ i. k (f i)) (sym start) ∙ h 0 (omega arith) in
    let size : length ps ≡ w = omega (arith, e) in
    ap₂ (λ x xs. x ∷ xs) (sym first) (row_is k f (a + 1) w ps size (λ i l. (let next : a + 1 + i ≡ a + suc i = omega arith in ap (λ j. k (f j)) next) ∙ h (suc i) (omega (arith, l))))

-- so is each of them
pub row_at : (k : Kept) (f : ℕ → Cell) (a w : ℕ) (ps : KnownBits) (i : ℕ) → ps ≡ map k (map f (range_with_len a w)) → i < w → k (f (a + i)) ≡ bit_at ps i
row_at k f a w ps i e l =
    let size : length (map f (range_with_len a w)) ≡ w = length-map-range_with_len f a w in
    sym (ap (λ xs. get_or xs i None) e ∙ get_or-map k (map f (range_with_len a w)) i (f 0) None (omega (arith, l, size)) ∙ ap k (get_or-map-range_with_len f a w i (a + i) (f 0) l refl))

-- ---- a signal

module _ (n : ℕ) (at : ℕ → Partly) (words : ℕ → KnownWords) where
  pub signal_bit : (s k : ℕ) → s < n → kept_by n at words (cell s k) ≡ bit_at (at s).bits k
  signal_bit s k l = let yes : nat_lt s n ≡ true = grind (arith, nat_tests, l) in ap (λ t. if t then bit_at (at s).bits k else word_bit (words (s - n)) k) yes

  pub memory_bit : (m k : ℕ) → n ≤ m → kept_by n at words (cell m k) ≡ word_bit (words (m - n)) k
  memory_bit m k l = let no : nat_lt m n ≡ false = grind (arith, nat_tests, l) in ap (λ t. if t then bit_at (at m).bits k else word_bit (words (m - n)) k) no

  pub signal_row : (d : Design) (s : ℕ) → s < n → length (at s).bits ≡ (signal_at d s).width → (at s).bits ≡ map (kept_by n at words) (signal_cells d s)
  signal_row d s l e = row_is (kept_by n at words) (cell s) 0 (signal_at d s).width (at s).bits e (λ i m. (let start : 0 + i ≡ i = omega arith in ap (λ j. kept_by n at words (cell s j)) start) ∙ signal_bit s i l)

  -- ---- the words of a memory

  pub stands_here : (d : Design) (m : ℕ) (r : KnownWords) → n ≤ m → words (m - n) ≡ r → r.shape.first ≡ (memory_at d m).first → r.shape.last ≡ (memory_at d m).last → r.shape.width ≡ (memory_at d m).width → ((i : ℕ) → IsIndex r.shape i → length (word_at r i) ≡ r.shape.width) → StandsFor d (kept_by n at words) m r
  stands_here d m r l is first last width sizes =
      record {
        first = first;
        last = last;
        width = width;
        words = λ i inside. row_is (kept_by n at words) (λ k. cell m (i * (memory_at d m).width + k)) 0 (memory_at d m).width (word_at r i) (sizes i inside ∙ width) (λ k b. bit_here i inside k b);
      }
    where
      has : (i : ℕ) → IsIndex r.shape i → has_index r.shape i ≡ true
      has i inside = let low = inside.0 in let high = inside.1 in grind (arith, nat_tests, low, high)

      bit_here : (i : ℕ) → IsIndex r.shape i → (k : ℕ) → k < (memory_at d m).width → kept_by n at words (cell m (i * (memory_at d m).width + (0 + k))) ≡ bit_at (word_at r i) k
      bit_here i inside k b =
          let w : ℕ = (memory_at d m).width in
          let start : 0 + k ≡ k = omega arith in
          let here : word_bit r (i * w + k) ≡ bit_at (word_at r i) k =
          ap (λ v. if has_index r.shape ((i * w + k) / v) then bit_at (word_at r ((i * w + k) / v)) ((i * w + k) % v) else None) width
          ∙ ap₂ (λ x y. if has_index r.shape x then bit_at (word_at r x) y else None) (div-mul-add i w k b) (mod-mul-add i w k b)
          ∙ ap (λ t. if t then bit_at (word_at r i) k else None) (has i inside) in
          ap (λ j. kept_by n at words (cell m (i * w + j))) start ∙ memory_bit m (i * w + k) l ∙ ap (λ x. word_bit x (i * w + k)) is ∙ here
