-- How the bits of two known words differ.
use Rattle.std.specs.Prelude.{ℕ, Bool, not, List, [], filter, length, slice_index_or}
use Rattle.std.specs.List.{list_all, list_any, range_with_len}
use Rattle.known_state.specs.Partly.{are_sure}
use Rattle.bit_changes.specs.Changes.{bit_at, surely_differ, surely_same}
use Rattle.store_knowledge.specs.body_replay.KnownBits.{KnownBits}

-- some bit surely differs
abbrev pub words_differ : KnownBits → KnownBits → Bool
words_differ ps qs = list_any (λ j. surely_differ (bit_at ps j) (bit_at qs j)) (range_with_len 0 (length ps))

-- each bit is surely the same
abbrev pub words_agree : KnownBits → KnownBits → Bool
words_agree ps qs = list_all (λ j. surely_same (bit_at ps j) (bit_at qs j)) (range_with_len 0 (length ps))

-- how many of these words are not wholly sure
abbrev pub count_unsure : List KnownBits → ℕ
count_unsure ws = length (filter (λ w. not (are_sure w)) ws)

-- each of them is
abbrev pub are_whole : List KnownBits → Bool
are_whole ws = list_all are_sure ws

-- the word at a place
abbrev pub word_in : List KnownBits → ℕ → KnownBits
word_in ws q = slice_index_or ws q []
