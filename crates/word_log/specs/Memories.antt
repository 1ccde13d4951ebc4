-- Memories of which the words are partly known, in a list by their numbers.
use Rattle.std.specs.Prelude.{◌≡◌, ℕ, Bool, false, List, length, slice_index_or, slice_set}
use Rattle.write_log.specs.design_model.declared.design.Memory.{Memory}
use Rattle.write_log.specs.design_model.Design.{no_memory}
use Rattle.memory_rebuild.specs.body_replay.KnownBits.{KnownBits, unknown}
use Rattle.memory_rebuild.specs.declared.shape.Shape.{Shape}
use Rattle.memory_rebuild.specs.Words.{unwritten}
use Rattle.word_log.specs.declared.memory.StoredMemory.{StoredMemory}

-- the words of a memory of a design, blamed on this number
abbrev pub shape_of : Memory → ℕ → Shape
shape_of x m = record { first = x.first; last = x.last; width = x.width; signed = x.signed; blame = m }

-- the memory with this number, none of whose words is known, and which no run has written
abbrev pub unknown_memory : Memory → ℕ → StoredMemory
unknown_memory x m = record { words = unwritten (shape_of x m); written = false }

-- what is held of the memory with this place in the list of memories
abbrev pub memory_in : List StoredMemory → ℕ → StoredMemory
memory_in rs i = slice_index_or rs i (unknown_memory no_memory 0)

-- the bits of the word at this place, counted from the one with the least index
abbrev pub word_in : StoredMemory → ℕ → KnownBits
word_in r q = slice_index_or r.words.words q (unknown r.words.shape.width)

-- the memory with other bits in the word at this place, and with this flag
abbrev pub with_word : StoredMemory → ℕ → KnownBits → Bool → StoredMemory
with_word r q ps written = record { words = record r.words { words = slice_set r.words.words q ps }; written = written }

-- the same memories, with other words
pub record SameShapes (rs rs' : List StoredMemory) : Type 0 where
  pub count : length rs' ≡ length rs
  pub shape : (i : ℕ) → (memory_in rs' i).words.shape ≡ (memory_in rs i).words.shape
  pub size : (i : ℕ) → length (memory_in rs' i).words.words ≡ length (memory_in rs i).words.words
  pub widths : (i q : ℕ) → length (word_in (memory_in rs' i) q) ≡ length (word_in (memory_in rs i) q)
