-- Identifiers of Verilog.
-- Bytes are written as numbers: 95 underscore.
use Rattle.std.specs.Prelude.{ℕ, nat_le, Bool, false, not, ◌&&◌, ◌||◌, ◌==◌, List, [], ◌∷◌, length}
use Rattle.std.specs.List.{list_all, list_any}
use Rattle.std.specs.Str.{bytes_eq}
use Rattle.std.specs.Char.{is_ascii_alphabetic, is_ascii_digit}
use Rattle.cov_host.specs.declared.identifier.TheConstants.{KEYWORDS}

-- the word is reserved (IEEE 1364-2001 annex B, as far as the profile knows it)
unfoldable pub is_reserved : List ℕ → Bool
is_reserved word = list_any (λ keyword. bytes_eq keyword.now word) KEYWORDS

-- a letter or an underscore
abbrev pub begins_name : ℕ → Bool
begins_name byte = is_ascii_alphabetic byte || byte == 95

-- a letter, a digit, an underscore or a dollar sign
abbrev pub continues_name : ℕ → Bool
continues_name byte = begins_name byte || is_ascii_digit byte || byte == 36

-- a letter or an underscore, and then letters, digits, underscores and dollar signs
abbrev pub has_name_form : List ℕ → Bool
has_name_form [] = false
has_name_form (first ∷ others) = begins_name first && list_all continues_name others

-- a simple identifier of at most 255 bytes that is no keyword (IEEE 1364-2001 clause 2.7)
abbrev pub is_identifier : List ℕ → Bool
is_identifier word = has_name_form word && nat_le (length word) 255 && not (is_reserved word)
