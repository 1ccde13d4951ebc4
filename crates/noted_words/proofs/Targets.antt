-- The writes of an assignment that does not mark a word miss its cells.
use Rattle.std.proofs.Common.{◌≡◌, inl, inr, ℕ, ◌+◌, ◌<◌, ◌≤◌, ◌==◌, ◌&&◌, Bool, true, false, List, [], ◌∷◌, ◌++◌, map, take, drop, length, refl, sym, ap, subst, ◌∙◌, arith, Option, Some, None, if◌then◌else◌, nat_le, nat_lt}
use Rattle.std.proofs.lemmas.Bool.{and_parts, eqb-true, leb-true}
use Rattle.std.proofs.Common.{ltb-true}
use Rattle.std.specs.List.{range_with_len}
use Rattle.design_model.specs.event_machine.Cell.{Cell}
use Rattle.design_model.specs.four_state.declared.bit.Bit.{Bit}
use Rattle.design_model.specs.four_state.Parts.{index}
use Rattle.design_model.specs.Tree.{Target, all_of, bits_of, word_of, several, Targets, no_targets, a_target}
use Rattle.design_model.specs.Design.{Design, In, cell, is_memory, memory_at, word_cells}
use Rattle.design_model.specs.Value.{head, named_word}
use Rattle.design_model.specs.Assignment.{targets_width}
use Rattle.design_model.specs.Shape.{are_targets, is_target}
use Rattle.body_replay.specs.KnownBits.{KnownBits, on_whole, whole_bits}
use Rattle.body_replay.specs.Store.{Kept, known_value, known_word_writes, known_writes, known_writes_all, may_name, perhaps_words, weaken, words, write_word, writes_of}
use Rattle.body_replay.specs.Replay.{Blames, HasMark, Mark, all_written_marks, blame_of, doubted, hit, index_first, named_mark, perhaps_marks, word_marks, word_write, written_marks}
use Rattle.body_replay.proofs.Frames.{Misses, miss_append, miss_target, miss_weaken}
use Rattle.body_replay.proofs.Marks.{mark_left, mark_right}
use Rattle.body_replay.proofs.Words.{other_word}

-- the cells of a word are of its memory
thing_of : (m : ℕ) (f : ℕ → ℕ) (ns : List ℕ) (c : Cell) → In c (map (λ k. cell m (f k)) ns) → c.thing ≡ m
thing_of m f [] c h = absurd h
thing_of m f (n ∷ ns) c (inl e) = ap (λ x. x.thing) (sym e)
thing_of m f (n ∷ ns) c (inr h) = thing_of m f ns c h

module _ (d : Design) (m i : ℕ) (is_memory_m : is_memory d m ≡ true) (among : In i (words (memory_at d m))) (c : Cell) (at : In c (word_cells d m i)) where
  pub of_memory : c.thing ≡ m
  of_memory = thing_of m _ (range_with_len 0 (memory_at d m).width) c at

  first_memory : length d.signals ≤ m
  first_memory = leb-true (length d.signals) m (and_parts (nat_le (length d.signals) m) _ is_memory_m).0

  -- a signal is no memory
  pub signal_apart : (s : ℕ) → nat_lt s (length d.signals) ≡ true → (s == c.thing) ≡ false
  signal_apart s below = go (s == c.thing) refl
    where
      go : (t : Bool) → (s == c.thing) ≡ t → t ≡ false
      go false e = refl
      go true e = let same : s ≡ c.thing = eqb-true s c.thing e in let under : s < length d.signals = ltb-true s (length d.signals) below in let least = first_memory in let own = of_memory in absurd (omega (arith, same, under, least, own))

  abbrev pub Unmarked : List Mark → Type 0
  Unmarked ms = HasMark (word_write m i) ms → ⊥

  not_named : (j : ℕ) → Unmarked (hit (word_write m j) ∷ []) → (j == i) ≡ false
  not_named j un = go (j == i) refl
    where
      go : (t : Bool) → (j == i) ≡ t → t ≡ false
      go false e = refl
      go true e = absurd (un (inl (ap (word_write m) (eqb-true j i e))))

  named_misses : (o : Option ℕ) (ps : KnownBits) → Unmarked (named_mark (word_write m) o) → Misses c (known_word_writes d m o ps)
  named_misses None ps un = tt
  named_misses (Some j) ps un = other_word d m i c at j (not_named j un) ps

  perhaps_misses : (may : ℕ → Bool) (blame : ℕ) (ps : KnownBits) (js : List ℕ) → Unmarked (perhaps_marks (word_write m) may js blame) → Misses c (perhaps_words d m may js ps)
  perhaps_misses may blame ps [] un = tt
  perhaps_misses may blame ps (j ∷ js) un = go (may j) un (λ h. perhaps_misses may blame ps js h)
    where
      go : (t : Bool) → Unmarked (if t then doubted (word_write m j) blame ∷ perhaps_marks (word_write m) may js blame else perhaps_marks (word_write m) may js blame)
          → (Unmarked (perhaps_marks (word_write m) may js blame) → Misses c (perhaps_words d m may js ps))
          → Misses c (if t then weaken (writes_of (word_cells d m j) ps) ++ perhaps_words d m may js ps else perhaps_words d m may js ps)
      go true un rest =
          miss_append c (weaken (writes_of (word_cells d m j) ps)) (perhaps_words d m may js ps)
          (miss_weaken c (writes_of (word_cells d m j) ps) (other_word d m i c at j (apart (j == i) refl) ps)) (rest (λ h. un (inr h)))
        where
          apart : (t : Bool) → (j == i) ≡ t → t ≡ false
          apart false e = refl
          apart true e = absurd (un (inl (ap (word_write m) (eqb-true j i e))))
      go false un rest = rest un

  word_misses : (signed : Bool) (is ps : KnownBits) (blame : ℕ) → Unmarked (word_marks d (word_write m) m signed is blame) → Misses c (write_word d m signed is ps)
  word_misses signed is ps blame un = go (whole_bits is) un
    where
      go : (o : Option (List Bit)) → Unmarked (on_whole o (λ bs. named_mark (word_write m) (named_word (memory_at d m) (index signed bs))) (perhaps_marks (word_write m) (may_name (memory_at d m) signed is) (words (memory_at d m)) blame))
          → Misses c (on_whole o (λ bs. known_word_writes d m (named_word (memory_at d m) (index signed bs)) ps) (perhaps_words d m (may_name (memory_at d m) signed is) (words (memory_at d m)) ps))
      go None un = perhaps_misses (may_name (memory_at d m) signed is) blame ps (words (memory_at d m)) un
      go (Some bs) un = named_misses (named_word (memory_at d m) (index signed bs)) ps un

  mutual
    pub target_misses : (b : Kept) (e : Blames) (first : Option ℕ) (x : Target) (ps : KnownBits) → is_target d x ≡ true → Unmarked (written_marks d b e first x) → Misses c (known_writes d b x ps)
    target_misses b e first (all_of s) ps is un = miss_target d b c (all_of s) ps (signal_apart s is)
    target_misses b e first (bits_of s low w) ps is un = miss_target d b c (bits_of s low w) ps (signal_apart s (and_parts (nat_lt s (length d.signals)) _ (and_parts (nat_lt s (length d.signals) && _) _ is).0).0)
    target_misses b e first (word_of k j) ps is un = go (k == c.thing) refl
      where
        go : (t : Bool) → (k == c.thing) ≡ t → Misses c (known_writes d b (word_of k j) ps)
        go false e' = miss_target d b c (word_of k j) ps e'
        go true e' = subst (λ z. Misses c (write_word d z (head j).signed (known_value d b j) ps)) (sym same) (word_misses (head j).signed (known_value d b j) ps (blame_of d b e first j) (subst (λ z. Unmarked (word_marks d (word_write z) z (head j).signed (known_value d b j) (blame_of d b e first j))) same un))
          where
            same : k ≡ m
            same = eqb-true k c.thing e' ∙ of_memory
    target_misses b e first (several ts) ps is un = targets_miss b e first ts ps is un

    pub targets_miss : (b : Kept) (e : Blames) (first : Option ℕ) (ts : Targets) (ps : KnownBits) → are_targets d ts ≡ true → Unmarked (all_written_marks d b e first ts) → Misses c (known_writes_all d b ts ps)
    targets_miss b e first no_targets ps is un = tt
    targets_miss b e first (a_target t ts) ps is un =
        let p = and_parts (is_target d t) (are_targets d ts) is in
        miss_append c (known_writes d b t (drop (targets_width d ts) ps)) (known_writes_all d b ts (take (targets_width d ts) ps))
        (target_misses b e first t (drop (targets_width d ts) ps) p.0 (λ h. un (mark_left (word_write m i) (written_marks d b e first t) (all_written_marks d b e (index_first d b e first t) ts) h)))
        (targets_miss b e (index_first d b e first t) ts (take (targets_width d ts) ps) p.1 (λ h. un (mark_right (word_write m i) (written_marks d b e first t) (all_written_marks d b e (index_first d b e first t) ts) h)))
