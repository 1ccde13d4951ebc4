-- Writes to a signal miss the cells of every other one.
use Rattle.std.proofs.Common.{◌≡◌, ℕ, ◌==◌, Bool, true, false, ◌&&◌, List, [], ◌∷◌, map, ℤ, pos, ◌+ℤ◌, Option, Some, None, refl, ap, ap₂}
use Rattle.std.specs.List.{range_with_len}
use Rattle.body_replay.specs.event_machine.Cell.{same_cell}
use Rattle.four_state.specs.declared.bit.Bit.{Bit}
use Rattle.four_state.specs.Parts.{index, within}
use Rattle.design_model.specs.Design.{Design, cell, signal_at, signal_cells}
use Rattle.design_model.specs.Value.{offset_option}
use Rattle.design_model.specs.Assignment.{option_cell, signal_range}
use Rattle.body_replay.specs.KnownBits.{KnownBits, on_whole, whole_bits}
use Rattle.body_replay.specs.Store.{Kept, KnownWrite, keep_all, known_bit_option, known_bit_writes, perhaps_cell, perhaps_cells, write_bits, writes_of}
use Rattle.body_replay.proofs.Frames.{Misses, miss_append, miss_weaken, missed}
use Rattle.value_store.specs.Held.{if_certain}

module _ (s x j : ℕ) (other : (s == x) ≡ false) where
  away : (n : ℕ) → same_cell (cell s n) (cell x j) ≡ false
  away n = ap (λ t. t && (n == j)) other

  miss_row : (ns : List ℕ) (ps : KnownBits) → Misses (cell x j) (writes_of (map (cell s) ns) ps)
  miss_row [] ps = tt
  miss_row (n ∷ ns) [] = tt
  miss_row (n ∷ ns) (p ∷ ps) = (away n, miss_row ns ps)

  miss_cell : (n : ℕ) (ps : KnownBits) → Misses (cell x j) (perhaps_cell (cell s n) ps)
  miss_cell n [] = tt
  miss_cell n (p ∷ ps) = (away n, miss_cell n ps)

  miss_cells : (ns : List ℕ) (ps : KnownBits) → Misses (cell x j) (perhaps_cells (map (cell s) ns) ps)
  miss_cells [] ps = tt
  miss_cells (n ∷ ns) ps = miss_append (cell x j) (perhaps_cell (cell s n) ps) (perhaps_cells (map (cell s) ns) ps) (miss_cell n ps) (miss_cells ns ps)

  miss_one : (o : Option ℕ) (p : Option Bit) → Misses (cell x j) (writes_of (option_cell s o) (p ∷ []))
  miss_one None p = tt
  miss_one (Some n) p = (away n, tt)

  miss_bits : (n : ℕ) (from : ℤ) (ps : KnownBits) → Misses (cell x j) (known_bit_writes s n from ps)
  miss_bits n from [] = tt
  miss_bits n from (p ∷ ps) =
      miss_append (cell x j) (writes_of (option_cell s (within n from)) (p ∷ [])) (known_bit_writes s n (from +ℤ pos 1) ps) (miss_one (within n from) p) (miss_bits n (from +ℤ pos 1) ps)

  miss_option : (n : ℕ) (o : Option ℤ) (ps : KnownBits) → Misses (cell x j) (known_bit_option s n o ps)
  miss_option n None ps = tt
  miss_option n (Some from) ps = miss_bits n from ps

  miss_write : (d : Design) (signed : Bool) (is ps : KnownBits) → Misses (cell x j) (write_bits d s signed is ps)
  miss_write d signed is ps = go (whole_bits is)
    where
      go : (o : Option (List Bit)) → Misses (cell x j) (on_whole o (λ bs. known_bit_option s (signal_at d s).width (offset_option (signal_range d s) (index signed bs)) ps) (perhaps_cells (signal_cells d s) ps))
      go None = miss_cells (range_with_len 0 (signal_at d s).width) ps
      go (Some bs) = miss_option (signal_at d s).width (offset_option (signal_range d s) (index signed bs)) ps

  if_missed : (certain : Bool) (ws : List KnownWrite) → Misses (cell x j) ws → Misses (cell x j) (if_certain certain ws)
  if_missed true ws m = m
  if_missed false ws m = miss_weaken (cell x j) ws m

-- a list of writes that misses each cell of a signal leaves it
each_missed : (x : ℕ) (ws : List KnownWrite) (k : Kept) → ((j : ℕ) → Misses (cell x j) ws) → (ns : List ℕ) → map (keep_all k ws) (map (cell x) ns) ≡ map k (map (cell x) ns)
each_missed x ws k m [] = refl
each_missed x ws k m (n ∷ ns) = ap₂ (λ a b. a ∷ b) (missed (cell x n) ws k (m n)) (each_missed x ws k m ns)

module _ (d : Design) (s x : ℕ) (other : (s == x) ≡ false) (k : Kept) (certain : Bool) where
  pub whole_missed : (ps : KnownBits) → map (keep_all k (if_certain certain (writes_of (signal_cells d s) ps))) (signal_cells d x) ≡ map k (signal_cells d x)
  whole_missed ps =
      each_missed x (if_certain certain (writes_of (signal_cells d s) ps)) k (λ j. if_missed s x j other certain (writes_of (signal_cells d s) ps) (miss_row s x j other (range_with_len 0 (signal_at d s).width) ps)) (range_with_len 0 (signal_at d x).width)

  pub part_missed : (signed : Bool) (is ps : KnownBits) → map (keep_all k (if_certain certain (write_bits d s signed is ps))) (signal_cells d x) ≡ map k (signal_cells d x)
  part_missed signed is ps =
      each_missed x (if_certain certain (write_bits d s signed is ps)) k (λ j. if_missed s x j other certain (write_bits d s signed is ps) (miss_write s x j other d signed is ps)) (range_with_len 0 (signal_at d x).width)
