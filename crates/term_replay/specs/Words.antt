-- The words of a memory that an index names or may name.
use Rattle.std.specs.Prelude.{◌≡◌, ℕ, ◌==◌, Bool, false, List}
use Rattle.four_state.specs.Parts.{index}
use Rattle.four_state.specs.declared.index.Index.{Index}
use Rattle.four_state.specs.declared.index.Index.TheVariants.{At, Below, Strange}
use Rattle.design_model.specs.declared.design.Memory.{Memory}
use Rattle.design_model.specs.declared.design.Range.{Range}
use Rattle.design_model.specs.Value.{named_word}
use Rattle.body_replay.specs.KnownBits.{KnownBits, on_whole, whole_bits}
use Rattle.body_replay.specs.Store.{may_name, words}
use Rattle.body_replay.specs.Replay.{Mark, Spot, named_mark, perhaps_marks}

-- the range is that of the words of the memory
pub record IsOf (r : Range) (m : Memory) : Type 0 where
  pub first : r.high ≡ m.first
  pub last : r.low ≡ m.last

-- a hit of the named word, or doubts of those that may be named
abbrev pub marks_of_words : Memory → (ℕ → Spot) → Bool → KnownBits → ℕ → List Mark
marks_of_words m at signed ps blame = on_whole (whole_bits ps) (λ is. named_mark at (named_word m (index signed is))) (perhaps_marks at (may_name m signed ps) (words m) blame)

-- the index is this number
abbrev pub is_index_at : Index → ℕ → Bool
is_index_at (At k) n = k == n
is_index_at Strange n = false
is_index_at Below n = false
