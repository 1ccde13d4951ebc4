-- Which memories of a store are veiled, and what is kept of those.
use Rattle.std.specs.Prelude.{◌≡◌, ◌+◌, ◌<◌, ◌==◌, ◌||◌, ℕ, Bool, false, if◌then◌else◌, List, length, slice_index, slice_index_or}
use Rattle.design_model.specs.declared.design.Memory.{Memory}
use Rattle.design_model.specs.Design.{no_memory}
use Rattle.word_log.specs.memory_rebuild.Words.{KnownWords, unwritten}
use Rattle.write_log.specs.Entries.{has}
use Rattle.word_log.specs.declared.memory.StoredMemory.{StoredMemory}
use Rattle.body_store.specs.declared.veils.Veils.{Veils}
use Rattle.body_store.specs.Fitting.{FitsWords, memory_in}
use Rattle.body_store.specs.Made.{shape_of}

-- whether the memory with this place is veiled
abbrev pub is_veiled : Veils → ℕ → Bool
is_veiled v i = has v.veiled.items i

-- the words that are kept of it then
abbrev pub under_at : Veils → ℕ → KnownWords
under_at v i = slice_index_or v.under.items i (unwritten (shape_of no_memory 0))

-- what is kept of the memory with this place
abbrev pub kept_words : Veils → List StoredMemory → ℕ → KnownWords
kept_words v rs i = if is_veiled v i then under_at v i else (memory_in rs i).words

-- with whether the run of a body has written it
abbrev pub kept_memory : Veils → List StoredMemory → ℕ → StoredMemory
kept_memory v rs i = record { words = kept_words v rs i; written = (memory_in rs i).written }

-- there are words for each memory, of its shape, and each veiled memory is listed once
pub record FitsVeils (n : ℕ) (ms : List Memory) (v : Veils) : Type 0 where
  pub size : v.veiled.size ≡ length ms
  pub count : length v.under.items ≡ length ms
  pub each : (i : ℕ) → i < length ms → FitsWords (slice_index_or ms i no_memory) (n + i) (under_at v i)
  pub once : (i j : ℕ) → i < j → j < length v.veiled.items → slice_index v.veiled.items i ≡ slice_index v.veiled.items j → ⊥

-- what is kept of the memories of a store is the same, except the words of the one with this place
pub record SameButWords (p : ℕ) (v : Veils) (rs : List StoredMemory) (v' : Veils) (rs' : List StoredMemory) : Type 0 where
  pub count : length rs' ≡ length rs
  pub written : (i : ℕ) → (memory_in rs' i).written ≡ (memory_in rs i).written
  pub others : (i : ℕ) → (p == i) ≡ false → kept_words v' rs' i ≡ kept_words v rs i

-- the words of the memory with this place that bodies read, and those that are kept beside them, have changed places
pub record Exchanged (p : ℕ) (v : Veils) (rs : List StoredMemory) (v' : Veils) (rs' : List StoredMemory) : Type 0 where
  pub count : length rs' ≡ length rs
  pub written : (i : ℕ) → (memory_in rs' i).written ≡ (memory_in rs i).written
  pub veiled : v'.veiled ≡ v.veiled
  pub read : (i : ℕ) → (memory_in rs' i).words ≡ (if p == i then under_at v p else (memory_in rs i).words)
  pub under : (i : ℕ) → under_at v' i ≡ (if p == i then (memory_in rs p).words else under_at v i)

-- the memory with this place is veiled, with some words in the place of those that are kept, and all is kept as before
pub record IsAside (p : ℕ) (v : Veils) (rs : List StoredMemory) (v' : Veils) (rs' : List StoredMemory) : Type 0 where
  pub count : length rs' ≡ length rs
  pub written : (i : ℕ) → (memory_in rs' i).written ≡ (memory_in rs i).written
  pub veiled : (i : ℕ) → is_veiled v' i ≡ ((p == i) || is_veiled v i)
  pub kept : (i : ℕ) → kept_words v' rs' i ≡ kept_words v rs i
  pub others : (i : ℕ) → (p == i) ≡ false → (memory_in rs' i).words ≡ (memory_in rs i).words
