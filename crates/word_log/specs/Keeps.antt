-- What is logged before a write of a memory.
use Rattle.std.specs.Prelude.{◌≡◌, ◌+◌, ◌<◌, ℕ, true, false, List, ◌++◌, length}
use Rattle.std.specs.List.{All}
use Rattle.known_state.specs.Partly.{Partly}
use Rattle.memory_rebuild.specs.body_replay.KnownBits.{KnownBits, unknown}
use Rattle.memory_rebuild.specs.Words.{count, least, may_be, word_after, word_at}
use Rattle.word_log.specs.declared.entry.OverwrittenWord.{OverwrittenWord}
use Rattle.word_log.specs.declared.memory.StoredMemory.{StoredMemory}
use Rattle.word_log.specs.Entries.{is_of, is_word_at, names}
use Rattle.word_log.specs.Memories.{SameShapes, memory_in, word_in}

-- the entry says what this memory holds, which is the one with this place in the list
pub record IsTaken (r : StoredMemory) (m : ℕ) (e : OverwrittenWord) : Type 0 where
  pub memory : e.memory ≡ m
  pub place : e.place < count r.words.shape
  pub listed : e.place < length r.words.words
  pub bits : e.value.bits ≡ word_in r e.place
  pub width : length e.value.bits ≡ r.words.shape.width
  pub sign_is : e.value.signed ≡ r.words.shape.signed
  pub written : e.written ≡ r.written

-- entries of the memory were added
pub record Added (r : StoredMemory) (m : ℕ) (before after entries : List OverwrittenWord) : Type 0 where
  pub added : after ≡ before ++ entries
  pub taken : All (IsTaken r m) entries

-- a write of any value by this index leaves the word at this place
abbrev pub IsLeft : StoredMemory → Partly → ℕ → Type 0
IsLeft r index q = (ps : KnownBits) → length ps ≡ r.words.shape.width → word_after r.words index ps true (least r.words.shape + q) ≡ word_at r.words (least r.words.shape + q)

-- entries were added, at least one, and one for each word that a write by this index may change
pub record Kept (r : StoredMemory) (m : ℕ) (index : Partly) (before after : List OverwrittenWord) : Type 0 where
  pub entries : List OverwrittenWord
  pub are : Added r m before after entries
  pub size : length r.words.words ≡ count r.words.shape
  pub some : names is_of entries m ≡ true
  pub left : (q : ℕ) → q < count r.words.shape → names is_word_at entries (m, q) ≡ false → IsLeft r index q

-- entries were added, one for each word that is not unknown and that the index may name
pub record NamedKept (r : StoredMemory) (m : ℕ) (index : Partly) (before after : List OverwrittenWord) : Type 0 where
  pub entries : List OverwrittenWord
  pub are : Added r m before after entries
  pub others : (q : ℕ) → q < count r.words.shape → may_be r.words.shape index (least r.words.shape + q) ≡ true → names is_word_at entries (m, q) ≡ false → word_at r.words (least r.words.shape + q) ≡ unknown r.words.shape.width

-- what a write by this index of some value leaves of memory m, and of the others
pub record AfterWrite (m : ℕ) (index : Partly) (rs rs' : List StoredMemory) : Type 0 where
  pub shapes : SameShapes rs rs'
  pub others : (i : ℕ) → (i ≡ m → ⊥) → memory_in rs' i ≡ memory_in rs i
  pub value : KnownBits
  pub width : length value ≡ (memory_in rs m).words.shape.width
  pub words : (q : ℕ) → q < count (memory_in rs m).words.shape → word_in (memory_in rs' m) q ≡ word_after (memory_in rs m).words index value true (least (memory_in rs m).words.shape + q)
