-- Examples of how words are compared in a step, by the design of `ram`, whose memory 6 has the words 0 to 3 of one bit.
use Rattle.std.specs.Prelude.{◌≡◌, ◌∷◌, ◌&&◌, ◌==◌, ℕ, true, false, if◌then◌else◌, List, [], Some, None, ⊤}
use Rattle.four_state.specs.declared.bit.Bit.TheVariants.{One, Zero}
use Rattle.design_model.specs.Ram.{ram}
use Rattle.body_replay.specs.KnownBits.{KnownBits}
use Rattle.body_replay.specs.Store.{Kept}
use Rattle.index_sets.specs.Members.{Members}
use Rattle.written_words.specs.declared.range.WordRange.{WordRange}
use Rattle.step_words.specs.Changes.{are_whole, count_unsure, word_in, words_agree, words_differ}
use Rattle.step_words.specs.Unknown.{unknown_all, unknown_words}
use Rattle.step_words.specs.Words.{AreWordChanges, FitsRanges, HasWords, IsOfMemories, StepState, after_memories, after_places, after_word, has_changed, is_still, put_if, unchanged, words_of}
use Rattle.worked_examples.specs.Word.Followed.{earlier, falling, later, memories, written}

-- a word of two bits that are 0, one of which the second bit is 1, and one of which that bit is not known
abbrev pub zeros : KnownBits
zeros = Some Zero ∷ Some Zero ∷ []

abbrev pub with_one : KnownBits
with_one = Some Zero ∷ Some One ∷ []

abbrev pub half : KnownBits
half = Some Zero ∷ None ∷ []

-- words differ by one bit that surely differs, and agree by all bits, each of which is sure
pub record IsChangeExample : Type 0 where
  pub differ : words_differ zeros with_one ≡ true
  pub not_differ : words_differ zeros half ≡ false
  pub agree : words_agree zeros zeros ≡ true
  pub not_agree : words_agree half half ≡ false
  pub unsure : count_unsure (zeros ∷ half ∷ with_one ∷ []) ≡ 1
  pub not_whole : are_whole (zeros ∷ half ∷ []) ≡ false
  pub whole : are_whole (zeros ∷ with_one ∷ []) ≡ true
  pub word : word_in (zeros ∷ half ∷ []) 1 ≡ half
  pub past : word_in (zeros ∷ half ∷ []) 2 ≡ []

-- the words of memory 6 are followed
abbrev pub range : List WordRange
range = record { least = 0; count = 4 } ∷ []

-- no memory has changed, and memory 6 has
abbrev pub none : Members
none = record { size = 1; items = [] }

abbrev pub first : Members
first = record { size = 1; items = 0 ∷ [] }

-- nothing is known of a word, word 3 alone is known, all are 0, and word 3 is 1
abbrev pub unknowns : List KnownBits
unknowns = (None ∷ []) ∷ (None ∷ []) ∷ (None ∷ []) ∷ (None ∷ []) ∷ []

abbrev pub one_known : List KnownBits
one_known = (None ∷ []) ∷ (None ∷ []) ∷ (None ∷ []) ∷ (Some One ∷ []) ∷ []

abbrev pub all_zero : List KnownBits
all_zero = (Some Zero ∷ []) ∷ (Some Zero ∷ []) ∷ (Some Zero ∷ []) ∷ (Some Zero ∷ []) ∷ []

abbrev pub three_zero : List KnownBits
three_zero = (Some Zero ∷ []) ∷ (Some Zero ∷ []) ∷ (Some Zero ∷ []) ∷ (Some One ∷ []) ∷ []

-- a state with these words of memory 6, and with these memories that have changed and that are not still
abbrev pub state : List KnownBits → Members → Members → StepState
state words changed unsteady = record { first = 6; words = words ∷ []; changed = changed; unsteady = unsteady }

-- of two memories the second is not followed; the state of nothing known fits the design, and one of too few words or of wide ones does not
pub record IsFitExample : Type 0 where
  pub followed : unknown_words falling true ≡ (None ∷ None ∷ []) ∷ (None ∷ None ∷ []) ∷ (None ∷ None ∷ []) ∷ []
  pub all : unknown_all memories (true ∷ false ∷ []) ≡ unknowns ∷ [] ∷ []
  pub fits : FitsRanges ram range (state unknowns none none)
  pub too_few : FitsRanges ram range (state [] none none) → ⊥
  pub too_wide : FitsRanges ram range (state (zeros ∷ zeros ∷ zeros ∷ zeros ∷ []) none none) → ⊥
  pub other_first : IsOfMemories ram (record { first = 5; words = unknowns ∷ []; changed = none; unsteady = none }) → ⊥
  pub has : HasWords ram later range (state one_known none none)
  pub has_not : HasWords ram later range (state unknowns none none) → ⊥

-- where nothing was known of a word it has not surely changed, nor is it still; where it was 0 it has changed
pub record IsStateExample : Type 0 where
  pub found : after_word 0 3 (Some One ∷ []) (state unknowns none none) ≡ state one_known none first
  pub changed : after_word 0 3 (Some One ∷ []) (state all_zero none none) ≡ state three_zero first first
  pub stayed : after_word 0 3 (Some Zero ∷ []) (state all_zero none none) ≡ state all_zero none none
  pub places : after_places ram later 0 0 (3 ∷ []) (state unknowns none none) ≡ state one_known none first
  pub memories : after_memories ram later written (0 ∷ []) (state unknowns none none) ≡ state one_known none first
  pub cleared : unchanged (state three_zero first first) ≡ state three_zero none none
  pub put : put_if true 0 none ≡ first
  pub twice : put_if true 0 first ≡ first
  pub not_put : put_if false 0 none ≡ none
  pub words : words_of (state unknowns none none) 0 ≡ unknowns
  pub past : words_of (state unknowns none none) 1 ≡ []
  pub has : has_changed (state three_zero first first) 6 ≡ true
  pub has_not : has_changed (state one_known none first) 6 ≡ false
  pub still : is_still (state all_zero none none) 6 ≡ true
  pub not_still : is_still (state three_zero first first) 6 ≡ false
  pub not_known : is_still (state unknowns none none) 6 ≡ false

-- each cell is 0, and then word 3 of memory 6 is 1
abbrev pub old : Kept
old c = Some Zero

abbrev pub new : Kept
new c = if (c.thing == 6) && (c.place == 3) then Some One else Some Zero

-- memory 6 has changed; that it has not is refused, and so is that it has where nothing was known of the word
pub record IsCompareExample : Type 0 where
  pub found : AreWordChanges ram (λ m. ⊤) old new (state three_zero first first)
  pub passed_over : AreWordChanges ram (λ m. ⊤) old new (state three_zero none none) → ⊥
  pub unsure : AreWordChanges ram (λ m. ⊤) earlier later (state one_known none first)
  pub too_sure : AreWordChanges ram (λ m. ⊤) earlier later (state one_known first first) → ⊥
