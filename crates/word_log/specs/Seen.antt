-- The words and the memories that the end of an undecided test has joined.
use Rattle.std.specs.Prelude.{◌≡◌, ℕ, Bool, false, List, [], length, map, slice_index_or}
use Rattle.index_sets.specs.Members.{Members}
use Rattle.write_log.specs.Entries.{has}

-- the numbers of the memories that are seen, and for each memory the places of its words that are
pub record SeenWords : Type 0 where
  pub memories : Members
  pub words : List Members

-- how many words each memory has
abbrev pub seen_sizes : SeenWords → List ℕ
seen_sizes s = map (λ w. w.size) s.words

-- the words that were seen of a memory
abbrev pub words_seen : List Members → ℕ → List ℕ
words_seen sets i = (slice_index_or sets i (record { size = 0; items = [] })).items

-- the word at this place of this memory is seen
abbrev pub sees_word : SeenWords → ℕ × ℕ → Bool
sees_word s k = has (words_seen s.words k.0) k.1

-- the memory is seen
abbrev pub sees_memory : SeenWords → ℕ → Bool
sees_memory s i = has s.memories.items i

-- there is a set for each memory, and no word is seen of a memory that is not
pub record AreSeen (memories : Members) (sets : List Members) : Type 0 where
  pub count : memories.size ≡ length sets
  pub unseen : (i : ℕ) → has memories.items i ≡ false → words_seen sets i ≡ []
