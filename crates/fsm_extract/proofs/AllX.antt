-- What is read of a design of which each bit is x.
use Rattle.std.proofs.Common.{◌≡◌, ◌+◌, ◌*◌, ℕ, zero, suc, Bool, true, false, cond, List, [], ◌∷◌, Option, None, Some, map, refl, ap}
use Rattle.std.specs.List.{range_with_len}
use Rattle.design_model.specs.event_machine.Cell.{Cell}
use Rattle.four_state.specs.Parts.{index}
use Rattle.four_state.specs.Vector.{fill}
use Rattle.four_state.specs.declared.bit.Bit.{Bit}
use Rattle.four_state.specs.declared.bit.Bit.TheVariants.{X}
use Rattle.known_state.specs.Join.{joined}
use Rattle.design_model.specs.Design.{Design, cell, memory_at, signal_at, signal_cells}
use Rattle.design_model.specs.Value.{named_word}
use Rattle.scene_laws.specs.body_replay.KnownBits.{KnownBits, on_whole, whole_bits}
use Rattle.scene_laws.specs.body_replay.Store.{join_words, kept_word, may_name, option_kept, read_word, words}
use Rattle.fsm_extract.specs.Strange.{all_x}

-- so many bits that are sure to be x
abbrev strange : ℕ → KnownBits
strange w = map Some (fill w X)

cells_read : (f : ℕ → Cell) (k w : ℕ) → map all_x (map f (range_with_len k w)) ≡ strange w
cells_read f k zero = refl
cells_read f k (suc w) = ap (λ ps. Some X ∷ ps) (cells_read f (k + 1) w)

-- a signal
pub signal_read : (d : Design) (s : ℕ) → map all_x (signal_cells d s) ≡ strange (signal_at d s).width
signal_read d s = cells_read (cell s) 0 (signal_at d s).width

joined_strange : (w : ℕ) → joined (strange w) (strange w) ≡ strange w
joined_strange zero = refl
joined_strange (suc w) = ap (λ ps. Some X ∷ ps) (joined_strange w)

module _ (d : Design) (m : ℕ) where
  abbrev all : KnownBits
  all = strange (memory_at d m).width

  word_cells_read : (i : ℕ) → kept_word d all_x m i ≡ all
  word_cells_read i = cells_read (λ k. cell m (i * (memory_at d m).width + k)) 0 (memory_at d m).width

  option_read : (o : Option ℕ) → option_kept d all_x m o ≡ all
  option_read None = refl
  option_read (Some i) = word_cells_read i

  either : (b : Bool) (ps qs : KnownBits) → ps ≡ all → qs ≡ all → cond b ps qs ≡ all
  either true ps qs p q = p
  either false ps qs p q = q

  both : (ps qs : KnownBits) → ps ≡ all → qs ≡ all → joined ps qs ≡ all
  both ps qs p q = rw (p, q) (joined_strange (memory_at d m).width)

  join_read : (may : ℕ → Bool) (is : List ℕ) → join_words d all_x m may is ≡ all
  join_read may [] = refl
  join_read may (i ∷ is) = either (may i) (joined (kept_word d all_x m i) (join_words d all_x m may is)) (join_words d all_x m may is) (both _ _ (word_cells_read i) (join_read may is)) (join_read may is)

  whole_read : (signed : Bool) (ps : KnownBits) (o : Option (List Bit)) → on_whole o (λ is. option_kept d all_x m (named_word (memory_at d m) (index signed is))) (join_words d all_x m (may_name (memory_at d m) signed ps) (words (memory_at d m))) ≡ all
  whole_read signed ps None = join_read (may_name (memory_at d m) signed ps) (words (memory_at d m))
  whole_read signed ps (Some is) = option_read (named_word (memory_at d m) (index signed is))

  -- a word of a memory, by whatever index
  pub word_read : (signed : Bool) (ps : KnownBits) → read_word d all_x m signed ps ≡ all
  word_read signed ps = whole_read signed ps (whole_bits ps)
