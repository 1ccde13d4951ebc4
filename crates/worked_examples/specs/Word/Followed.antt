-- Examples of the words that are followed and of those that are written, by the design of `ram`, whose memory 6 has the words 0 to 3.
use Rattle.std.specs.Prelude.{◌≡◌, ◌∷◌, ◌&&◌, ◌==◌, ℕ, true, false, if◌then◌else◌, [], List, Some, None, codes}
use Rattle.four_state.specs.declared.bit.Bit.TheVariants.{One}
use Rattle.design_model.specs.declared.design.Memory.{Memory}
use Rattle.design_model.specs.Design.{memory_at}
use Rattle.design_model.specs.Ram.{ram}
use Rattle.body_replay.specs.Store.{Kept}
use Rattle.index_sets.specs.Members.{Members}
use Rattle.written_words.specs.Written.{AreRanges, AreSmall, AreWritten, WrittenState, flag_at, has_word, in_range, is_followed, no_range, range_at, range_of, sizes_of}
use Rattle.written_words.specs.Same.{FollowsAll, SameUnwritten}
use Rattle.written_words.specs.declared.range.WordRange.{WordRange}

-- a memory with the words 5 to 7, declared from 7 down
abbrev pub falling : Memory
falling = record { instance = 0; name = codes "f"; first = 7; last = 5; high = 1; low = 0; ranged = true; width = 2; signed = false }

-- the four words of memory 6 are followed, and those of the other memory are not
abbrev pub ranges : List WordRange
ranges = record { least = 0; count = 4 } ∷ record { least = 0; count = 0 } ∷ []

abbrev pub memories : List Memory
memories = memory_at ram 6 ∷ falling ∷ []

-- a range that ends past the indexes of 32 bits
abbrev pub past_end : List WordRange
past_end = record { least = 4294967295; count = 2 } ∷ []

pub record IsRangeExample : Type 0 where
  pub all : range_of falling ≡ record { least = 5; count = 3 }
  pub least : in_range (range_of falling) 5 ≡ true
  pub greatest : in_range (range_of falling) 7 ≡ true
  pub below : in_range (range_of falling) 4 ≡ false
  pub above : in_range (range_of falling) 8 ≡ false
  pub none : in_range no_range 0 ≡ false
  pub past : range_at ranges 2 ≡ no_range
  pub sizes : sizes_of ranges ≡ 4 ∷ 0 ∷ []
  pub small : AreSmall ranges
  pub not_small : AreSmall past_end → ⊥
  pub flag : flag_at (true ∷ []) 0 ≡ true
  pub no_flag : flag_at (true ∷ []) 1 ≡ false
  pub flagged : AreRanges memories (true ∷ false ∷ []) ranges
  pub not_flagged : AreRanges memories (true ∷ true ∷ []) ranges → ⊥

-- the places of no word, of the last word of memory 6, and of one past it
abbrev pub no_places : Members
no_places = record { size = 0; items = [] }

abbrev pub last_place : Members
last_place = record { size = 4; items = 3 ∷ [] }

abbrev pub past_place : Members
past_place = record { size = 4; items = 4 ∷ [] }

-- the first of two memories is listed, and none is
abbrev pub listed : Members
listed = record { size = 2; items = 0 ∷ [] }

abbrev pub unlisted : Members
unlisted = record { size = 2; items = [] }

-- word 3 of memory 6 is written
abbrev pub written : WrittenState
written = record { first = 6; ranges = ranges; memories = listed; words = last_place ∷ no_places ∷ [] }

-- a word is followed where its memory is and has it, and is written where it is in the set
pub record IsWrittenExample : Type 0 where
  pub followed : is_followed written 6 3 ≡ true
  pub past : is_followed written 6 4 ≡ false
  pub not_followed : is_followed written 7 5 ≡ false
  pub signal : is_followed written 5 0 ≡ false
  pub word : has_word written 6 3 ≡ true
  pub other_word : has_word written 6 2 ≡ false
  pub other_memory : has_word written 7 3 ≡ false
  pub sets : AreWritten ranges listed (last_place ∷ no_places ∷ [])
  pub not_listed : AreWritten ranges unlisted (last_place ∷ no_places ∷ []) → ⊥
  pub not_inside : AreWritten ranges listed (past_place ∷ no_places ∷ []) → ⊥
  pub not_sized : AreWritten ranges listed (no_places ∷ no_places ∷ []) → ⊥

-- nothing is known, and then word 3 of memory 6 alone
abbrev pub earlier : Kept
earlier c = None

abbrev pub later : Kept
later c = if (c.thing == 6) && (c.place == 3) then Some One else None

-- no word is written
abbrev pub none_written : WrittenState
none_written = record { first = 6; ranges = ranges; memories = unlisted; words = record { size = 4; items = [] } ∷ no_places ∷ [] }

-- no memory is followed
abbrev pub none_followed : WrittenState
none_followed = record { first = 6; ranges = record { least = 0; count = 0 } ∷ []; memories = unlisted; words = no_places ∷ [] }

-- the word that changes has to be written, if it is followed
pub record IsUnwrittenExample : Type 0 where
  pub same : SameUnwritten ram earlier later written
  pub not_same : SameUnwritten ram earlier later none_written → ⊥
  pub left_out : SameUnwritten ram earlier later none_followed
  pub follows : FollowsAll ram written 6
  pub not_all : FollowsAll ram none_followed 6 → ⊥
