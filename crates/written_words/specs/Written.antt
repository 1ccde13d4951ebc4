-- The words of memories that are written, by their memories and indexes.
use Rattle.std.specs.Prelude.{◌≡◌, ◌+◌, ◌-◌, ◌<◌, ◌≤◌, ◌&&◌, ℕ, Bool, false, true, if◌then◌else◌, List, [], length, map, max, min, nat_le, nat_lt, slice_index_or}
use Rattle.design_model.specs.declared.design.Memory.{Memory}
use Rattle.design_model.specs.Design.{no_memory}
use Rattle.index_sets.specs.Members.{Members}
use Rattle.write_log.specs.Entries.{has}
use Rattle.word_log.specs.Seen.{words_seen}
use Rattle.written_words.specs.declared.range.WordRange.{WordRange}

-- the number of the first memory, the words of each memory that are followed, the memories of which a word is written, and for each
-- memory the places of these words
pub record WrittenState : Type 0 where
  pub first : ℕ
  pub ranges : List WordRange
  pub memories : Members
  pub words : List Members

-- no words
abbrev pub no_range : WordRange
no_range = record { least = 0; count = 0 }

-- all words of a memory
abbrev pub range_of : Memory → WordRange
range_of x = record { least = min x.first x.last; count = (max x.first x.last - min x.first x.last) + 1 }

-- the words of the memory at a place
abbrev pub range_at : List WordRange → ℕ → WordRange
range_at rs m = slice_index_or rs m no_range

-- the index is that of a word in the range
abbrev pub in_range : WordRange → ℕ → Bool
in_range r i = nat_le r.least i && nat_lt (i - r.least) r.count

-- how many words of each memory there are
abbrev pub sizes_of : List WordRange → List ℕ
sizes_of rs = map (λ r. r.count) rs

-- the words of the memory with number m at this index are followed
abbrev pub is_followed : WrittenState → ℕ → ℕ → Bool
is_followed w m i = nat_le w.first m && in_range (range_at w.ranges (m - w.first)) i

-- the word of the memory with number m at this index is written
abbrev pub has_word : WrittenState → ℕ → ℕ → Bool
has_word w m i = is_followed w m i && has (words_seen w.words (m - w.first)) (i - (range_at w.ranges (m - w.first)).least)

-- each index of the ranges has 32 bits
abbrev pub AreSmall : List WordRange → Type 0
AreSmall rs = (m : ℕ) → m < length rs → (range_at rs m).least + (range_at rs m).count ≤ 4294967296

-- there is a set of places for each memory, of the size of its range and inside of it, and no word is written of a memory that is not listed
pub record AreWritten (ranges : List WordRange) (memories : Members) (words : List Members) : Type 0 where
  pub count : memories.size ≡ length words
  pub sizes : map (λ w. w.size) words ≡ sizes_of ranges
  pub unlisted : (m : ℕ) → has memories.items m ≡ false → words_seen words m ≡ []
  pub within : (m : ℕ) → has memories.items m ≡ true → m < length ranges
  pub inside : (m q : ℕ) → has (words_seen words m) q ≡ true → q < (range_at ranges m).count
  pub small : AreSmall ranges

-- the flag of the memory at a place
abbrev pub flag_at : List Bool → ℕ → Bool
flag_at flags m = slice_index_or flags m false

-- the words of these memories are followed where the flag of the memory is set
pub record AreRanges (memories : List Memory) (flags : List Bool) (ranges : List WordRange) : Type 0 where
  pub count : length ranges ≡ length memories
  pub each : (m : ℕ) → m < length memories → range_at ranges m ≡ (if flag_at flags m then range_of (slice_index_or memories m no_memory) else no_range)
