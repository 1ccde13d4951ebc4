-- A memory and indexes for the examples of the definitions.
use Rattle.std.specs.Prelude.{true, false, [], ◌∷◌, Some, None}
use Rattle.four_state.specs.declared.bit.Bit.TheVariants.{Zero, One}
use Rattle.known_state.specs.Partly.{Partly}
use Rattle.memory_rebuild.specs.Words.{KnownWords}

-- four words of one bit, all sure to be 0
abbrev pub four_words : KnownWords
four_words =
    record {
      shape = record { first = 3; last = 0; width = 1; signed = false; blame = 7 };
      words = (Some Zero ∷ []) ∷ (Some Zero ∷ []) ∷ (Some Zero ∷ []) ∷ (Some Zero ∷ []) ∷ [];
    }

-- 2 or 3
abbrev pub two_or_three : Partly
two_or_three = record { bits = None ∷ Some One ∷ []; signed = false; blame = 9 }

-- the same two bits as a signed number: -2 or -1
abbrev pub negative : Partly
negative = record { bits = None ∷ Some One ∷ []; signed = true; blame = 9 }

-- the number 2
abbrev pub two : Partly
two = record { bits = Some Zero ∷ Some One ∷ []; signed = false; blame = 0 }

-- the number 4
abbrev pub four : Partly
four = record { bits = Some Zero ∷ Some Zero ∷ Some One ∷ []; signed = false; blame = 0 }
