-- What bodies read of a store: what is known of each cell of the design, and what is to blame.
use Rattle.std.specs.Prelude.{ℕ, ◌-◌, ◌/◌, ◌%◌, ◌&&◌, min, max, nat_le, nat_lt, Bool, if◌then◌else◌, List, length, slice_index_or, Option, None}
use Rattle.design_model.specs.declared.design.Design as m
use Rattle.design_model.specs.View.{design_view}
use Rattle.known_state.specs.Partly.{Partly}
use Rattle.body_calls.specs.body_replay.KnownBits.{KnownBits}
use Rattle.body_calls.specs.body_replay.Replay.{Blames}
use Rattle.body_calls.specs.body_replay.Store.{Kept}
use Rattle.design_model.specs.four_state.declared.bit.Bit.{Bit}
use Rattle.word_log.specs.memory_rebuild.declared.shape.Shape.{Shape}
use Rattle.word_log.specs.memory_rebuild.Words.{KnownWords, word_at}
use Rattle.body_calls.specs.term_replay.Stands.{Scene}
use Rattle.write_log.specs.value_store.Signals.{read_at}
use Rattle.word_log.specs.declared.memory.StoredMemory.{StoredMemory}
use Rattle.body_store.specs.declared.store.Store.{Store}
use Rattle.body_store.specs.Fitting.{memory_in}

-- what is known of the bit at this place; nothing past the end
abbrev pub bit_at : KnownBits → ℕ → Option Bit
bit_at ps k = slice_index_or ps k None

-- a word has this index
abbrev pub has_index : Shape → ℕ → Bool
has_index s i = nat_le (min s.first s.last) i && nat_le i (max s.first s.last)

-- what is known of the bit at this place of a memory; nothing where it has no word
abbrev pub word_bit : KnownWords → ℕ → Option Bit
word_bit r k = if has_index r.shape (k / r.shape.width) then bit_at (word_at r (k / r.shape.width)) (k % r.shape.width) else None

-- what is known of each cell, where there are n signals with these values, and memories with these words
abbrev pub kept_by : ℕ → (ℕ → Partly) → (ℕ → KnownWords) → Kept
kept_by n at words c = if nat_lt c.thing n then bit_at (at c.thing).bits c.place else word_bit (words (c.thing - n)) c.place

-- a signal is blamed on what its value is blamed on, and a memory on itself
abbrev pub blames_by : ℕ → (ℕ → Partly) → (ℕ → Bool) → Blames
blames_by n at wrote = record { blame = λ x. if nat_lt x n then (at x).blame else x; wrote = λ m. nat_le n m && wrote (m - n) }

-- how many signals there are
abbrev pub signal_count : Store → ℕ
signal_count x = length x.design.now.signals

-- what bodies read of a store over this design with these memories, where these are the values of the signals
abbrev pub scene_with : m.Design → List StoredMemory → (ℕ → Partly) → Scene
scene_with d rs at =
    record {
      design = design_view d;
      kept = kept_by (length d.signals) at (λ i. (memory_in rs i).words);
      blames = blames_by (length d.signals) at (λ i. (memory_in rs i).written);
    }

-- what bodies read
abbrev pub scene_of : Store → Scene
scene_of x = scene_with x.design.now x.memories.items (read_at x.signals)
