-- A write of one signal or memory leaves the cells of others.
use Rattle.std.proofs.Common.{Bool, List, None, Option, Some, [], ap, ap₂, false, if◌then◌else◌, map, refl, true, ℕ, ◌&&◌, ◌==◌, ◌++◌, ◌∙◌, ◌∷◌, ◌≡◌, ℤ, pos, ◌+ℤ◌}
use Rattle.std.specs.Prelude.{⊤}
use Rattle.std.specs.List.{range_with_len}
use Rattle.scene_laws.specs.event_machine.Cell.{Cell, same_cell}
use Rattle.value_store.specs.four_state.declared.bit.Bit.{Bit}
use Rattle.value_store.specs.four_state.Parts.{index, within}
use Rattle.design_model.specs.Design.{Design, cell, memory_at, signal_at, signal_cells, word_cells}
use Rattle.design_model.specs.Value.{named_word, offset_option}
use Rattle.design_model.specs.Assignment.{option_cell, signal_range}
use Rattle.value_store.specs.body_replay.KnownBits.{KnownBits, on_whole, whole_bits}
use Rattle.value_store.specs.body_replay.Store.{Kept, keep_all, known_bit_option, known_bit_writes, known_word_writes, may_name, perhaps_cell, perhaps_cells, perhaps_words, weaken, words, writes_of}
use Rattle.value_store.proofs.body_replay.Frames.{Misses, miss_append, miss_weaken, missed}
use Rattle.scene_laws.specs.body_calls.Lvalues.{lvalue_writes, written_thing}
use Rattle.scene_laws.specs.body_calls.declared.lvalue.Lvalue.{Lvalue}
use Rattle.scene_laws.specs.body_calls.declared.lvalue.Lvalue.TheVariants.{Part, Signal, Word}

-- cells of another thing
abbrev Others : Cell → List Cell → Type 0
Others c [] = ⊤
Others c (x ∷ xs) = (same_cell x c ≡ false) × Others c xs

other_cell : (c x : Cell) → (x.thing == c.thing) ≡ false → same_cell x c ≡ false
other_cell c x e = ap (λ t. t && (x.place == c.place)) e

others_row : (c : Cell) (m : ℕ) (f : ℕ → ℕ) (ns : List ℕ) → (m == c.thing) ≡ false → Others c (map (λ k. cell m (f k)) ns)
others_row c m f [] e = tt
others_row c m f (n ∷ ns) e = (other_cell c (cell m (f n)) e, others_row c m f ns e)

miss_row : (c : Cell) (cs : List Cell) (ps : KnownBits) → Others c cs → Misses c (writes_of cs ps)
miss_row c [] ps o = tt
miss_row c (x ∷ xs) [] o = tt
miss_row c (x ∷ xs) (p ∷ ps) o = (o.0, miss_row c xs ps o.1)

miss_cell : (c x : Cell) (ps : KnownBits) → same_cell x c ≡ false → Misses c (perhaps_cell x ps)
miss_cell c x [] e = tt
miss_cell c x (p ∷ ps) e = (e, miss_cell c x ps e)

miss_cells : (c : Cell) (cs : List Cell) (ps : KnownBits) → Others c cs → Misses c (perhaps_cells cs ps)
miss_cells c [] ps o = tt
miss_cells c (x ∷ xs) ps o = miss_append c (perhaps_cell x ps) (perhaps_cells xs ps) (miss_cell c x ps o.0) (miss_cells c xs ps o.1)

others_option : (c : Cell) (s : ℕ) (o : Option ℕ) → (s == c.thing) ≡ false → Others c (option_cell s o)
others_option c s None e = tt
others_option c s (Some k) e = (other_cell c (cell s k) e, tt)

miss_bits : (c : Cell) (s n : ℕ) (ps : KnownBits) (from : ℤ) → (s == c.thing) ≡ false → Misses c (known_bit_writes s n from ps)
miss_bits c s n [] from e = tt
miss_bits c s n (p ∷ ps) from e = miss_append c (writes_of (option_cell s (within n from)) (p ∷ [])) (known_bit_writes s n (from +ℤ pos 1) ps) (miss_row c (option_cell s (within n from)) (p ∷ []) (others_option c s (within n from) e)) (miss_bits c s n ps (from +ℤ pos 1) e)

miss_option : (c : Cell) (s n : ℕ) (o : Option ℤ) (ps : KnownBits) → (s == c.thing) ≡ false → Misses c (known_bit_option s n o ps)
miss_option c s n None ps e = tt
miss_option c s n (Some from) ps e = miss_bits c s n ps from e

miss_word : (d : Design) (c : Cell) (m : ℕ) (o : Option ℕ) (ps : KnownBits) → (m == c.thing) ≡ false → Misses c (known_word_writes d m o ps)
miss_word d c m None ps e = tt
miss_word d c m (Some i) ps e = miss_row c (word_cells d m i) ps (others_row c m _ (range_with_len 0 (memory_at d m).width) e)

miss_words : (d : Design) (c : Cell) (m : ℕ) (may : ℕ → Bool) (ps : KnownBits) (is : List ℕ) → (m == c.thing) ≡ false → Misses c (perhaps_words d m may is ps)
miss_words d c m may ps [] e = tt
miss_words d c m may ps (i ∷ is) e = go (miss_words d c m may ps is e) (may i)
  where
    go : Misses c (perhaps_words d m may is ps) → (t : Bool) → Misses c (if t then weaken (writes_of (word_cells d m i) ps) ++ perhaps_words d m may is ps else perhaps_words d m may is ps)
    go ih true = miss_append c (weaken (writes_of (word_cells d m i) ps)) (perhaps_words d m may is ps) (miss_weaken c (writes_of (word_cells d m i) ps) (miss_row c (word_cells d m i) ps (others_row c m _ (range_with_len 0 (memory_at d m).width) e))) ih
    go ih false = ih

on_whole_either : {A : Type 0} (P : A → Type 0) (o : Option (List Bit)) (f : List Bit → A) (x : A) → ((bs : List Bit) → P (f bs)) → P x → P (on_whole o f x)
on_whole_either P None f x h k = k
on_whole_either P (Some bs) f x h k = h bs

miss_lvalue : (d : Design) (c : Cell) (x : Lvalue) (ps : KnownBits) → (written_thing x == c.thing) ≡ false → Misses c (lvalue_writes d x ps)
miss_lvalue d c (Signal s) ps e = miss_row c (signal_cells d s) ps (others_row c s (λ k. k) (range_with_len 0 (signal_at d s).width) e)
miss_lvalue d c (Part s low) ps e =
    on_whole_either (Misses c) (whole_bits low.bits) (λ bs. known_bit_option s (signal_at d s).width (offset_option (signal_range d s) (index low.signed bs)) ps) (perhaps_cells (signal_cells d s) ps) (λ bs. miss_option c s (signal_at d s).width (offset_option (signal_range d s) (index low.signed bs)) ps e) (miss_cells c (signal_cells d s) ps (others_row c s (λ k. k) (range_with_len 0 (signal_at d s).width) e))
miss_lvalue d c (Word m i) ps e =
    on_whole_either (Misses c) (whole_bits i.bits) (λ bs. known_word_writes d m (named_word (memory_at d m) (index i.signed bs)) ps) (perhaps_words d m (may_name (memory_at d m) i.signed i.bits) (words (memory_at d m)) ps) (λ bs. miss_word d c m (named_word (memory_at d m) (index i.signed bs)) ps e) (miss_words d c m (may_name (memory_at d m) i.signed i.bits) ps (words (memory_at d m)) e)

same_row : (d : Design) (k : Kept) (x : Lvalue) (ps : KnownBits) (y : ℕ) (ns : List ℕ) → (written_thing x == y) ≡ false → map (keep_all k (lvalue_writes d x ps)) (map (cell y) ns) ≡ map k (map (cell y) ns)
same_row d k x ps y [] e = refl
same_row d k x ps y (n ∷ ns) e = ap₂ (λ z zs. z ∷ zs) (missed (cell y n) (lvalue_writes d x ps) k (miss_lvalue d (cell y n) x ps e)) (same_row d k x ps y ns e)

-- what is known of a signal that is not written
pub other_signal : (d : Design) (k : Kept) (x : Lvalue) (ps : KnownBits) (y : ℕ) → (written_thing x == y) ≡ false → map (keep_all k (lvalue_writes d x ps)) (signal_cells d y) ≡ map k (signal_cells d y)
other_signal d k x ps y e = same_row d k x ps y (range_with_len 0 (signal_at d y).width) e
