-- The words of a text, which white space separates.
-- Bytes are written as numbers: 32 space; 9 to 13 are white space too.
use Rattle.std.specs.Prelude.{◌≡◌, ℕ, ◌+◌, ◌==◌, nat_le, Bool, true, not, ◌||◌, ◌&&◌, if◌then◌else◌, List, [], ◌∷◌}
use Rattle.std.specs.List.{list_all}

-- a word and the offset of its first byte
pub record Word : Type 0 where
  pub at : ℕ
  pub bytes : List ℕ

-- space, or one of tab, line feed, vertical tab, form feed and carriage return
abbrev pub is_white_space : ℕ → Bool
is_white_space byte = byte == 32 || (nat_le 9 byte && nat_le byte 13)

-- a byte at this offset joins the word that begins directly after it, or is a word
abbrev pub joined : ℕ → ℕ → List Word → List Word
joined at byte [] = record { at = at; bytes = byte ∷ [] } ∷ []
joined at byte (word ∷ words) =
    if word.at == at + 1 then record { at = at; bytes = byte ∷ word.bytes } ∷ words else record { at = at; bytes = byte ∷ [] } ∷ word ∷ words

-- the words of a text whose first byte has this offset
abbrev pub words_from : ℕ → List ℕ → List Word
words_from at [] = []
words_from at (byte ∷ bytes) = if is_white_space byte then words_from (at + 1) bytes else joined at byte (words_from (at + 1) bytes)

abbrev pub words_of : List ℕ → List Word
words_of text = words_from 0 text

-- whether the text is empty or ends with white space, so that none of its words can go on
abbrev pub ends_open : Bool → List ℕ → Bool
ends_open before [] = before
ends_open before (byte ∷ bytes) = ends_open (is_white_space byte) bytes

-- the text is empty or ends with white space
abbrev pub IsWhole : List ℕ → Type 0
IsWhole text = ends_open true text ≡ true

-- the bytes are a word or nothing
abbrev pub IsBlack : List ℕ → Type 0
IsBlack bytes = list_all (λ byte. not (is_white_space byte)) bytes ≡ true
