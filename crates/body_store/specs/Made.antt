-- What a store holds before anything is known.
use Rattle.std.specs.Prelude.{◌≡◌, ℕ, ◌+◌, ◌<◌, ◌≤◌, ◌==◌, false, if◌then◌else◌, List, length, slice_index_or, None}
use Rattle.design_model.specs.declared.design.Memory.{Memory}
use Rattle.body_calls.specs.body_replay.Store.{Kept}
use Rattle.body_calls.specs.body_replay.Replay.{Blames}
use Rattle.word_log.specs.declared.memory.StoredMemory.{StoredMemory}
pub use Rattle.word_log.specs.Memories.{shape_of, unknown_memory}

-- nothing is known of any cell
abbrev pub nothing : Kept
nothing c = None

-- each signal and memory is to blame for itself, and the run has written no memory
abbrev pub unblamed : Blames
unblamed = record { blame = λ x. x; wrote = λ m. false }

-- nothing is known of the cells of this signal or memory
abbrev pub without : ℕ → Kept → Kept
without t k c = if t == c.thing then None else k c

-- each signal and memory is to blame for itself, and the same memories are written
abbrev pub itself_to_blame : Blames → Blames
itself_to_blame e = record e { blame = λ x. x }

-- a word has 1 to 128 bits
abbrev pub HasWordWidth : Memory → Type 0
HasWordWidth x = (1 ≤ x.width) × (x.width ≤ 128)

-- each memory of the list is held with nothing known of it, with the numbers from this one up
pub record AreUnknown (n : ℕ) (xs : List Memory) (rs : List StoredMemory) : Type 0 where
  pub count : length rs ≡ length xs
  pub each : (i : ℕ) (r : StoredMemory) (x : Memory) → i < length xs → slice_index_or rs i r ≡ unknown_memory (slice_index_or xs i x) (n + i)
