-- The place of a code in the order of all codes: a table by numbers has it for short codes, a sorted one for all others.
use Rattle.std.specs.Prelude.{◌≡◌, ℕ, suc, ◌+◌, ◌-◌, ◌*◌, Bool, false, bytes_eq, if◌then◌else◌, List, [], ◌∷◌, slice_index_or, Option, Some, None, option_map}
use Rattle.std.specs.List.{list_all}
use Rattle.std.specs.Global.{Vec}
use Rattle.std.specs.Map.{lookup}
use Rattle.std.specs.Ordering.{is_eq, nat_cmp}
use Rattle.std.specs.Cmp.Lexicographic.{slice_cmp}
use Rattle.vcd_reader.specs.Codes.{Code}
use Rattle.vcd_reader.specs.Header.{is_printable}
use Rattle.vcd_reader.specs.declared.places.Places.{Places}

-- a short code has at most three bytes, and all are printable
abbrev pub is_short : List ℕ → Bool
is_short (first ∷ second ∷ third ∷ fourth ∷ others) = false
is_short text = list_all is_printable text

-- the number of a code among all that are not longer; its first byte counts least
abbrev pub code_number : List ℕ → ℕ
code_number [] = 0
code_number (byte ∷ bytes) = (byte - 32) + 94 * code_number bytes

-- what a table has at a number
abbrev pub place_at : List (Option ℕ) → ℕ → Option ℕ
place_at table number = slice_index_or table number None

-- what a sorted table has for these bytes
abbrev pub place_under : List (Vec ℕ × ℕ) → List ℕ → Option ℕ
place_under entries text = lookup (λ key. is_eq (slice_cmp nat_cmp text key.items)) entries

-- the place of the code of these bytes
abbrev pub place_in : Places → List ℕ → Option ℕ
place_in places text = if is_short text then place_at places.short.items (code_number text) else place_under places.long.entries text

-- the place of the first code of these bytes in a list
abbrev pub place_of : List Code → List ℕ → Option ℕ
place_of [] text = None
place_of (code ∷ codes) text = if bytes_eq text code.text then Some 0 else option_map suc (place_of codes text)

-- the places are those of the codes of a list
abbrev pub ArePlacesOf : Places → List Code → Type 0
ArePlacesOf places codes = (text : List ℕ) → place_in places text ≡ place_of codes text
