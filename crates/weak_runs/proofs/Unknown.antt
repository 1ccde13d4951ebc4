-- Reads of signals and memories of which nothing is known.
use Rattle.std.proofs.Common.{Bool, List, None, Option, Some, [], ap, false, if◌then◌else◌, length, map, refl, suc, sym, true, zero, ℕ, ◌++◌, ◌∙◌, ◌∷◌, ◌≡◌}
use Rattle.std.specs.List.{range_with_len}
use Rattle.event_machine.specs.Cell.{Cell}
use Rattle.four_state.specs.declared.bit.Bit.{Bit}
use Rattle.four_state.specs.declared.bit.Bit.TheVariants.{X}
use Rattle.four_state.specs.Vector.{fill}
use Rattle.four_state.specs.Parts.{index}
use Rattle.known_state.specs.Join.{joined}
use Rattle.design_model.specs.Design.{Design, memory_at, word_cells}
use Rattle.design_model.specs.Value.{named_word}
use Rattle.value_store.specs.body_replay.Contract.{unread}
use Rattle.value_store.specs.body_replay.KnownBits.{KnownBits, on_whole, sure, unknown, whole_bits}
use Rattle.value_store.specs.body_replay.Replay.{Mark, Spot, doubted, in_mode, named_mark, perhaps_marks}
use Rattle.value_store.specs.body_replay.Store.{Kept, join_words, kept_word, may_name, option_kept, read_word, words}
use Rattle.value_store.proofs.body_replay.Operators.{fill_length, map_length, numbers_length}
use Rattle.term_replay.specs.Words.{marks_of_words}
use Rattle.weak_runs.specs.Unread.{has_marks}

pub unknown_row : (k : Kept) (cs : List Cell) → unknown (length (map k cs)) ≡ map unread cs
unknown_row k [] = refl
unknown_row k (c ∷ cs) = ap (λ z. None ∷ z) (unknown_row k cs)

-- marks that are noted in the mode of no test
pub marks_in : (ms : List Mark) → has_marks ([] ++ map (in_mode None) ms) ≡ has_marks ms
marks_in [] = refl
marks_in (m ∷ ms) = refl

pub marks_more : (ms : List Mark) (m : Mark) → true ≡ has_marks (ms ++ m ∷ [])
marks_more [] m = refl
marks_more (x ∷ ms) m = refl

-- by whether some word is named or may be
abbrev pub answer : Bool → ℕ → KnownBits
answer true w = unknown w
answer false w = sure (fill w X)

join_length : (ps qs : KnownBits) (n : ℕ) → length ps ≡ n → length qs ≡ n → length (joined ps qs) ≡ n
join_length [] qs n e f = e
join_length (p ∷ ps) [] n e f = cc
join_length (p ∷ ps) (q ∷ qs) zero e f = cc
join_length (p ∷ ps) (q ∷ qs) (suc n) e f = let i : length ps ≡ n = cc in let j : length qs ≡ n = cc in ap suc (join_length ps qs n i j)

joined_unknown : (w : ℕ) (qs : KnownBits) → length qs ≡ w → joined (unknown w) qs ≡ unknown w
joined_unknown zero qs e = refl
joined_unknown (suc w) [] e = cc
joined_unknown (suc w) (q ∷ qs) e = let i : length qs ≡ w = cc in ap (λ z. None ∷ z) (joined_unknown w qs i)

module _ (d : Design) (m : ℕ) where
  word_length : (b : Kept) (i : ℕ) → length (kept_word d b m i) ≡ (memory_at d m).width
  word_length b i = map_length b (word_cells d m i) ∙ map_length _ (range_with_len 0 (memory_at d m).width) ∙ numbers_length 0 (memory_at d m).width

  x_length : length (sure (fill (memory_at d m).width X)) ≡ (memory_at d m).width
  x_length = map_length _ (fill (memory_at d m).width X) ∙ fill_length (memory_at d m).width X

  words_length : (b : Kept) (may : ℕ → Bool) (is : List ℕ) → length (join_words d b m may is) ≡ (memory_at d m).width
  words_length b may [] = x_length
  words_length b may (i ∷ is) = go (words_length b may is) (may i)
    where
      go : length (join_words d b m may is) ≡ (memory_at d m).width → (t : Bool) → length (if t then joined (kept_word d b m i) (join_words d b m may is) else join_words d b m may is) ≡ (memory_at d m).width
      go h true = join_length (kept_word d b m i) (join_words d b m may is) (memory_at d m).width (word_length b i) h
      go h false = h

  pub read_length : (b : Kept) (signed : Bool) (ps : KnownBits) → length (read_word d b m signed ps) ≡ (memory_at d m).width
  read_length b signed ps = go (whole_bits ps)
    where
      named : (o : Option ℕ) → length (option_kept d b m o) ≡ (memory_at d m).width
      named None = x_length
      named (Some i) = word_length b i

      go : (o : Option (List Bit)) → length (on_whole o (λ is. option_kept d b m (named_word (memory_at d m) (index signed is))) (join_words d b m (may_name (memory_at d m) signed ps) (words (memory_at d m)))) ≡ (memory_at d m).width
      go None = words_length b (may_name (memory_at d m) signed ps) (words (memory_at d m))
      go (Some bs) = named (named_word (memory_at d m) (index signed bs))

  unread_word : (i : ℕ) → kept_word d unread m i ≡ unknown (memory_at d m).width
  unread_word i = sym (unknown_row unread (word_cells d m i)) ∙ ap unknown (word_length unread i)

  module _ (at : ℕ → Spot) (blame : ℕ) where
    unread_words : (may : ℕ → Bool) (is : List ℕ) → join_words d unread m may is ≡ answer (has_marks (perhaps_marks at may is blame)) (memory_at d m).width
    unread_words may [] = refl
    unread_words may (i ∷ is) = go (unread_words may is) (may i)
      where
        go : join_words d unread m may is ≡ answer (has_marks (perhaps_marks at may is blame)) (memory_at d m).width → (t : Bool) → (if t then joined (kept_word d unread m i) (join_words d unread m may is) else join_words d unread m may is) ≡ answer (has_marks (if t then doubted (at i) blame ∷ perhaps_marks at may is blame else perhaps_marks at may is blame)) (memory_at d m).width
        go h true = ap (λ z. joined z (join_words d unread m may is)) (unread_word i) ∙ joined_unknown (memory_at d m).width (join_words d unread m may is) (words_length unread may is)
        go h false = h

    -- a word that is named or may be is not known; else x is read
    pub unread_read : (signed : Bool) (ps : KnownBits) → read_word d unread m signed ps ≡ answer (has_marks (marks_of_words (memory_at d m) at signed ps blame)) (memory_at d m).width
    unread_read signed ps = go (whole_bits ps)
      where
        named : (o : Option ℕ) → option_kept d unread m o ≡ answer (has_marks (named_mark at o)) (memory_at d m).width
        named None = refl
        named (Some i) = unread_word i

        go : (o : Option (List Bit)) → on_whole o (λ is. option_kept d unread m (named_word (memory_at d m) (index signed is))) (join_words d unread m (may_name (memory_at d m) signed ps) (words (memory_at d m))) ≡ answer (has_marks (on_whole o (λ is. named_mark at (named_word (memory_at d m) (index signed is))) (perhaps_marks at (may_name (memory_at d m) signed ps) (words (memory_at d m)) blame))) (memory_at d m).width
        go None = unread_words (may_name (memory_at d m) signed ps) (words (memory_at d m))
        go (Some bs) = named (named_word (memory_at d m) (index signed bs))
