-- When what a store holds has the shapes of the signals and memories of a design.
use Rattle.std.specs.Prelude.{◌≡◌, ◌+◌, ◌<◌, ℕ, List, length, map, slice_index_or}
use Rattle.design_model.specs.declared.design.Memory.{Memory}
use Rattle.design_model.specs.declared.design.Signal.{Signal}
use Rattle.design_model.specs.Design.{no_memory}
use Rattle.word_log.specs.memory_rebuild.Words.{IsIndex, KnownWords, count, word_at}
use Rattle.write_log.specs.value_store.Signals as s
use Rattle.write_log.specs.value_store.Signals.{Signals}
use Rattle.word_log.specs.declared.memory.StoredMemory.{StoredMemory}
pub use Rattle.word_log.specs.Memories.{memory_in}
use Rattle.word_log.specs.Memories.{shape_of}

-- the words have the shape of this memory, with this number, and are as many
pub record FitsWords (x : Memory) (m : ℕ) (w : KnownWords) : Type 0 where
  pub shape : w.shape ≡ shape_of x m
  pub widths : (i : ℕ) → IsIndex w.shape i → length (word_at w i) ≡ w.shape.width
  pub size : length w.words ≡ count w.shape

-- there are as many signals and memories as a design with these has, of their shapes
pub record FitsDesign (ss : List Signal) (ms : List Memory) (v : Signals) (rs : List StoredMemory) : Type 0 where
  pub shapes : v.shapes ≡ map s.shape_of ss
  pub signals : length v.kept ≡ length ss
  pub memories : length rs ≡ length ms
  pub each : (i : ℕ) → i < length ms → FitsWords (slice_index_or ms i no_memory) (length ss + i) (memory_in rs i).words
