-- How the words of a memory are kept: each with the number of the epoch in which it was written.
use Rattle.std.specs.Prelude.{◌≡◌, ℕ, ◌<◌, ◌≤◌, ◌==◌, Bool, true, if◌then◌else◌, List, length, All, Contains, count_by, slice_index_or}
use Rattle.known_state.specs.Partly.{with_blame}
use Rattle.known_state.specs.Join.{joined}
use Rattle.body_replay.specs.KnownBits.{KnownBits, unknown}
use Rattle.memory_rebuild.specs.declared.shape.Shape.{Shape}
use Rattle.memory_rebuild.specs.declared.word.Word.{Word}
use Rattle.memory_rebuild.specs.Words.{count}

-- the word was written in this epoch
abbrev pub is_of : ℕ → Word → Bool
is_of epoch w = w.epoch == epoch

-- the bits of a word: of one that was not written in this epoch none is sure
abbrev pub bits_now : ℕ → ℕ → Word → KnownBits
bits_now width epoch w = if is_of epoch w then w.value.bits else unknown width

-- the value has the width and the sign of the words, and blames the memory
pub record Fits (s : Shape) (w : Word) : Type 0 where
  pub width : length w.value.bits ≡ s.width
  pub whole : w.value ≡ with_blame w.value.bits s.signed s.blame

-- each word fits, none is of a later epoch, and those of this epoch are listed; there is room to list all
pub record AreKept (s : Shape) (epoch : ℕ) (ws : List Word) (written : List ℕ) (most : ℕ) : Type 0 where
  pub at_least : 1 ≤ s.width
  pub at_most : s.width ≤ 128
  pub size : length ws ≡ count s
  pub fit : All (Fits s) ws
  pub older : All (λ w. w.epoch ≤ epoch) ws
  pub inside : All (λ i. i < length ws) written
  pub listed : (i : ℕ) (d : Word) → i < length ws → is_of epoch (slice_index_or ws i d) ≡ true → Contains written i
  pub each : length written ≡ count_by (is_of epoch) ws
  pub room : length ws ≤ most

-- the bits of a word after a value was written that may be meant for another one
abbrev pub weakened : Bool → KnownBits → KnownBits → KnownBits
weakened may value old = if may then joined old value else old
