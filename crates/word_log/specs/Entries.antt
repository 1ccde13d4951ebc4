-- What the entries of a log say of the words of memories, and of which memories were written.
use Rattle.std.specs.Prelude.{◌≡◌, ◌<◌, ◌==◌, ◌&&◌, ◌||◌, ℕ, Bool, true, false, List, [], ◌∷◌, ◌++◌, length, slice_set}
use Rattle.known_state.specs.Join.{joined}
use Rattle.memory_rebuild.specs.body_replay.KnownBits.{KnownBits}
use Rattle.memory_rebuild.specs.Words.{count}
use Rattle.word_log.specs.declared.entry.OverwrittenWord.{OverwrittenWord}
use Rattle.word_log.specs.declared.memory.StoredMemory.{StoredMemory}
use Rattle.word_log.specs.Memories.{SameShapes, memory_in, with_word, word_in}

-- the word of the entry, and whether its memory was written, are put back
abbrev pub put : OverwrittenWord → List StoredMemory → List StoredMemory
put e rs = slice_set rs e.memory (with_word (memory_in rs e.memory) e.place e.value.bits e.written)

-- the entries are undone, the last first
abbrev pub undo : List OverwrittenWord → List StoredMemory → List StoredMemory
undo [] rs = rs
undo (e ∷ es) rs = put e (undo es rs)

-- the entry is of a word of these memories, with a value of its width and sign
pub record Fits (rs : List StoredMemory) (e : OverwrittenWord) : Type 0 where
  pub inside : e.memory < length rs
  pub place : e.place < count (memory_in rs e.memory).words.shape
  pub listed : e.place < length (memory_in rs e.memory).words.words
  pub held : length (word_in (memory_in rs e.memory) e.place) ≡ (memory_in rs e.memory).words.shape.width
  pub width : length e.value.bits ≡ (memory_in rs e.memory).words.shape.width
  pub sign_is : e.value.signed ≡ (memory_in rs e.memory).words.shape.signed

-- the entry is of the word at this place of this memory
abbrev pub is_word_at : OverwrittenWord → ℕ × ℕ → Bool
is_word_at e k = (e.memory == k.0) && (e.place == k.1)

-- the entry is of a word of this memory
abbrev pub is_of : OverwrittenWord → ℕ → Bool
is_of e i = e.memory == i

-- an entry passes the test
abbrev pub names : {K : Type 0} → (OverwrittenWord → K → Bool) → List OverwrittenWord → K → Bool
names here [] k = false
names here (e ∷ es) k = here e k || names here es k

-- entries were taken from the end of one list and undone, and as many added to the other one, which undo that
pub record Moved (from to : List OverwrittenWord) (rs : List StoredMemory) (from' to' : List OverwrittenWord) (rs' : List StoredMemory) : Type 0 where
  pub gone : List OverwrittenWord
  pub came : List OverwrittenWord
  pub taken : from ≡ from' ++ gone
  pub added : to' ≡ to ++ came
  pub forth : undo gone rs ≡ rs'
  pub back : undo came rs' ≡ rs
  pub words : (k : ℕ × ℕ) → names is_word_at came k ≡ names is_word_at gone k
  pub memories : (i : ℕ) → names is_of came i ≡ names is_of gone i
  pub shapes : SameShapes rs rs'

-- what is read of memories: which entries say something of it, what they say, and what two ways leave of it
pub record Reading (K V : Type 0) : Type 0 where
  pub here : OverwrittenWord → K → Bool
  pub value : OverwrittenWord → V
  pub read : List StoredMemory → K → V
  pub merge : V → V → V

-- the bits of the word at a place of a memory: of two ways what both have in common
abbrev pub words : Reading (ℕ × ℕ) KnownBits
words = record { here = is_word_at; value = λ e. e.value.bits; read = λ rs k. word_in (memory_in rs k.0) k.1; merge = joined }

-- whether the run has written a memory: after two ways if it has in one of them
abbrev pub flags : Reading ℕ Bool
flags = record { here = is_of; value = λ e. e.written; read = λ rs i. (memory_in rs i).written; merge = ◌||◌ }

-- what was read of that which was not seen is joined with what is read where the entries are undone, and the rest is left
pub record Joined {K V : Type 0} (x : Reading K V) (es : List OverwrittenWord) (seen : K → Bool) (rs rs' : List StoredMemory) : Type 0 where
  pub seen_before : (k : K) → seen k ≡ true → x.read rs' k ≡ x.read rs k
  pub unnamed : (k : K) → names x.here es k ≡ false → x.read rs' k ≡ x.read rs k
  pub joined : (k : K) → seen k ≡ false → names x.here es k ≡ true → x.read rs' k ≡ x.merge (x.read (undo es rs) k) (x.read rs k)

-- those that were seen, and those of the entries, are seen
abbrev pub Seen : {K V : Type 0} → Reading K V → List OverwrittenWord → (K → Bool) → (K → Bool) → Type 0
Seen {K} x es before after = (k : K) → after k ≡ (before k || names x.here es k)

-- of each word what both ways have in common, and of each memory whether one of them has written it
pub record IsCommon (left right after : List StoredMemory) : Type 0 where
  pub words : (i q : ℕ) → word_in (memory_in after i) q ≡ joined (word_in (memory_in left i) q) (word_in (memory_in right i) q)
  pub written : (i : ℕ) → (memory_in after i).written ≡ ((memory_in left i).written || (memory_in right i).written)
