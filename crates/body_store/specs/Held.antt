-- When what a store holds is what is known of the cells of a design, as it is kept and as bodies read it.
use Rattle.std.specs.Prelude.{◌≡◌, ◌+◌, ◌<◌, ℕ, length, map}
use Rattle.design_model.specs.Design.{Design}
use Rattle.body_calls.specs.body_replay.Store.{Kept}
use Rattle.body_calls.specs.body_replay.Replay.{Blames}
use Rattle.word_log.specs.memory_rebuild.Words.{StandsFor}
use Rattle.write_log.specs.value_store.Signals.{Signals, read_at, shape_of}
use Rattle.write_log.specs.value_store.Held.{HoldsSignals, IsSignal}
use Rattle.word_log.specs.declared.memory.StoredMemory.{StoredMemory}
use Rattle.body_store.specs.declared.store.Store.{Store}
use Rattle.body_store.specs.Fitting.{memory_in}
use Rattle.body_store.specs.Veils.{kept_memory}

-- the words are those of memory m, as they are known, with its blame and whether the run has written it
pub record IsMemory (d : Design) (k : Kept) (e : Blames) (m : ℕ) (r : StoredMemory) : Type 0 where
  pub words : StandsFor d k m r.words
  pub blame : r.words.shape.blame ≡ e.blame m
  pub wrote : r.written ≡ e.wrote m

-- so many memories, with these by their places, are those of the design, as they are known
pub record HoldsMemories (d : Design) (k : Kept) (e : Blames) (n : ℕ) (at : ℕ → StoredMemory) : Type 0 where
  pub count : n ≡ length d.memories
  pub each : (i : ℕ) → i < length d.memories → IsMemory d k e (length d.signals + i) (at i)

-- what bodies read of each signal is what is known of it
pub record ReadsSignals (d : Design) (k : Kept) (e : Blames) (v : Signals) : Type 0 where
  pub shapes : v.shapes ≡ map shape_of d.signals
  pub count : length v.kept ≡ length d.signals
  pub each : (s : ℕ) → s < length d.signals → IsSignal d k e.blame s (read_at v s)

-- the store keeps what is known of the cells of the design, with these blames
pub record HoldsStore (d : Design) (k : Kept) (e : Blames) (x : Store) : Type 0 where
  pub signals : HoldsSignals d k e.blame x.signals
  pub memories : HoldsMemories d k e (length x.memories.items) (kept_memory x.veils x.memories.items)

-- what bodies read of the store is what is known of the cells of the design, with these blames
pub record ReadsStore (d : Design) (k : Kept) (e : Blames) (x : Store) : Type 0 where
  pub signals : ReadsSignals d k e x.signals
  pub memories : HoldsMemories d k e (length x.memories.items) (memory_in x.memories.items)
