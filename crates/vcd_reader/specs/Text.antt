-- What a text means so far, and where its first fault is, in whatever pieces it comes.
use Rattle.std.specs.Prelude.{◌≡◌, ◌≤◌, ℕ, ◌-◌, Bool, true, false, not, ◌&&◌, ◌||◌, List, [], ◌∷◌, ◌++◌, length}
use Rattle.vcd_reader.specs.Words.{Word, words_of, is_white_space, IsWhole, IsBlack}
use Rattle.vcd_reader.specs.Values.{is_digit}
use Rattle.vcd_reader.specs.Body.{has_begun, is_marker}
use Rattle.vcd_reader.specs.Reading.{Body, Meaning, header, body, fault, room_of, stop_of, meaning_after, meaning_of}
use Rattle.vcd_reader.specs.declared.fault.DumpFault.{DumpFault}
use Rattle.vcd_reader.specs.declared.fault.DumpFault.TheVariants.{At}
use Rattle.vcd_reader.specs.declared.fault.DumpKind.TheVariants.{Truncated}

-- The text is whole words that mean this, and then the bytes of a word that may go on, and there was room for it.
pub record Stands (text : List ℕ) (means : Meaning) (word : List ℕ) : Type 0 where
  pub front : List ℕ
  pub split : text ≡ front ++ word
  pub whole : IsWhole front
  pub black : IsBlack word
  pub meaning : meaning_of (words_of front) ≡ means
  pub within : length text ≤ room_of means

-- a word that begins here, if there is one
abbrev pub word_at : ℕ → List ℕ → List Word
word_at at [] = []
word_at at (byte ∷ bytes) = record { at = at; bytes = byte ∷ bytes } ∷ []

-- what words mean with one more, or none, that ends here
abbrev pub after : Meaning → ℕ → List ℕ → Meaning
after means end word = meaning_after means (word_at (end - length word) word)

-- the first fault of a text, whatever comes after it
pub data HasFault : List ℕ → DumpFault → Type 0 where
  -- white space ends a word, if there is one, and leaves no room
  behind_a_word : (text word rest : List ℕ) (means next : Meaning) (space : ℕ) → Stands text means word → is_white_space space ≡ true
      → after means (length text) word ≡ next → room_of next ≤ length text → HasFault (text ++ space ∷ rest) (stop_of next)
  -- a byte of a word for which there is no room
  in_a_word : (text word rest : List ℕ) (means : Meaning) (byte : ℕ) → Stands text means word → is_white_space byte ≡ false
      → room_of means ≤ length text → HasFault (text ++ byte ∷ rest) (stop_of means)

-- the first character of a time or a change, and no more
abbrev pub is_lone : List ℕ → Bool
is_lone [] = false
is_lone (byte ∷ []) = is_marker byte || is_digit byte
is_lone (byte ∷ next ∷ bytes) = false

-- a digit of a value, and no more
abbrev pub is_one_digit : List ℕ → Bool
is_one_digit (byte ∷ []) = is_digit byte
is_one_digit _ = false

-- a word at the end of the text that breaks off
abbrev pub is_alone : Meaning → List ℕ → Bool
is_alone (body b) word = not (has_begun b.reading.begun) && is_lone word
is_alone _ word = false

-- what a text cannot end with: a header that goes on, or a change or a comment that does
abbrev pub is_open : Meaning → Bool
is_open (header reading) = true
is_open (body b) = has_begun b.reading.begun
is_open (fault f) = false

-- the first fault of a text that ends, where there is no fault before its last word
pub data EndsWithFault : List ℕ → DumpFault → Type 0 where
  in_the_last_word : (text word : List ℕ) (means : Meaning) (f : DumpFault) → Stands text means word → is_alone means word ≡ false
      → after means (length text) word ≡ fault f → EndsWithFault text f
  cut_short : (text word : List ℕ) (means : Meaning) → Stands text means word → (is_alone means word || is_open (after means (length text) word)) ≡ true
      → EndsWithFault text (At Truncated (length text))

-- the whole text is a dump with these variables, times and changes
pub record EndsAs (text : List ℕ) (b : Body) : Type 0 where
  pub word : List ℕ
  pub means : Meaning
  pub stands : Stands text means word
  pub whole : is_alone means word ≡ false
  pub meaning : after means (length text) word ≡ body b
  pub closed : has_begun b.reading.begun ≡ false
