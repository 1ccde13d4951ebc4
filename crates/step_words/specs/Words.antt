-- The words of memories as they were known when a step began, and which memories have changed in it.
use Rattle.std.specs.Prelude.{◌≡◌, ◌+◌, ◌-◌, ◌<◌, ◌&&◌, ◌∷◌, ◌++◌, ℕ, Bool, true, false, not, if◌then◌else◌, List, [], length, slice_index_or, slice_set}
use Rattle.std.specs.List.{list_all, list_any}
use Rattle.design_model.specs.BodyLaws.{all_cells, word_indexes}
use Rattle.design_model.specs.Design.{Design, In, is_memory, memory_at}
use Rattle.index_sets.specs.Members.{Members}
use Rattle.replay_steps.specs.replay_model.Step.{surely_differ, surely_same}
use Rattle.store_knowledge.specs.body_replay.KnownBits.{KnownBits}
use Rattle.store_knowledge.specs.body_replay.Store.{Kept, kept_word}
use Rattle.word_log.specs.Seen.{words_seen}
use Rattle.write_log.specs.Entries.{has}
use Rattle.written_words.specs.Written.{WrittenState, range_at}
use Rattle.written_words.specs.declared.range.WordRange.{WordRange}
use Rattle.step_words.specs.Changes.{are_whole, word_in, words_agree, words_differ}

-- the number of the first memory, for each memory the words that are followed, and the memories of which a bit of a word has surely
-- changed, and of which one that was written is not surely the same
pub record StepState : Type 0 where
  pub first : ℕ
  pub words : List (List KnownBits)
  pub changed : Members
  pub unsteady : Members

-- the words of the memory at a place in the list of memories
abbrev pub words_of : StepState → ℕ → List KnownBits
words_of x m = slice_index_or x.words m []

-- a bit of a word of the memory with this number has surely changed
abbrev pub has_changed : StepState → ℕ → Bool
has_changed x m = has x.changed.items (m - x.first)

-- each bit of its words is surely the same
abbrev pub is_still : StepState → ℕ → Bool
is_still x m = not (has x.unsteady.items (m - x.first)) && are_whole (words_of x (m - x.first))

-- the memories are those of the design
pub record IsOfMemories (d : Design) (x : StepState) : Type 0 where
  pub first : x.first ≡ length d.signals
  pub count : length x.words ≡ length d.memories

-- there are words for each followed word of the design, of the width of its memory, and none for the others
pub record FitsRanges (d : Design) (ranges : List WordRange) (x : StepState) : Type 0 where
  pub memories : IsOfMemories d x
  pub ranged : length ranges ≡ length d.memories
  pub sizes : (m : ℕ) → m < length d.memories → length (words_of x m) ≡ (range_at ranges m).count
  pub widths : (m q : ℕ) → m < length d.memories → q < (range_at ranges m).count → length (word_in (words_of x m) q) ≡ (memory_at d (length d.signals + m)).width
  pub inside : (m q : ℕ) → m < length d.memories → q < (range_at ranges m).count → In ((range_at ranges m).least + q) (word_indexes d (length d.signals + m))

-- they are the words as they are known
abbrev pub HasWords : Design → Kept → List WordRange → StepState → Type 0
HasWords d k ranges x =
    (m q : ℕ) → m < length d.memories → q < (range_at ranges m).count → word_in (words_of x m) q ≡ kept_word d k (length d.signals + m) ((range_at ranges m).least + q)

-- it is found of these memories whether a bit has surely changed, and whether each is surely the same
abbrev pub AreWordChanges : Design → (ℕ → Type 0) → Kept → Kept → StepState → Type 0
AreWordChanges d Follows old new x =
    (m : ℕ) → is_memory d m ≡ true → Follows m
    → (has_changed x m ≡ list_any (λ c. surely_differ (old c) (new c)) (all_cells d m)) × (is_still x m ≡ list_all (λ c. surely_same (old c) (new c)) (all_cells d m))

-- ---- the words one after the other

-- a set with one more member, if the test holds
abbrev pub put_if : Bool → ℕ → Members → Members
put_if true m s = if has s.items m then s else record s { items = s.items ++ m ∷ [] }
put_if false m s = s

-- a word of the memory at a place is compared with what is known now, and that is kept
abbrev pub after_word : ℕ → ℕ → KnownBits → StepState → StepState
after_word m q now x =
    record {
      first = x.first;
      words = slice_set x.words m (slice_set (words_of x m) q now);
      changed = put_if (words_differ (word_in (words_of x m) q) now) m x.changed;
      unsteady = put_if (not (words_agree (word_in (words_of x m) q) now)) m x.unsteady;
    }

-- these of its words, from the least index up
abbrev pub after_places : Design → Kept → ℕ → ℕ → List ℕ → StepState → StepState
after_places d k m least [] x = x
after_places d k m least (q ∷ qs) x = after_places d k m least qs (after_word m q (kept_word d k (x.first + m) (least + q)) x)

-- the written words of these memories
abbrev pub after_memories : Design → Kept → WrittenState → List ℕ → StepState → StepState
after_memories d k w [] x = x
after_memories d k w (m ∷ ms) x = after_memories d k w ms (after_places d k m (range_at w.ranges m).least (words_seen w.words m) x)

-- no memory has changed
abbrev pub unchanged : StepState → StepState
unchanged x = record x { changed = record x.changed { items = [] }; unsteady = record x.unsteady { items = [] } }
