-- Places in the sources.
-- Bytes are written as numbers: 10 line feed.
use Rattle.std.specs.Prelude.{ℕ, ◌≡◌, ◌⊎◌, length, ◌+◌, ◌^◌, ◌<◌, true, false, ◌==◌, List, [], ◌∷◌, if◌then◌else◌}
use Rattle.cov_host.specs.declared.place.Place.{Place}
use Rattle.verilog_lexer.specs.declared.spot.Spot.{Spot}

-- the place after a byte: the next column, or after a line feed the next line
abbrev pub next_place : Place → ℕ → Place
next_place place byte =
    if byte == 10 then record place { line = place.line + 1; column = 1 }
    else record place { column = place.column + 1 }

-- the same, but within a macro every place is that of the use of the macro
abbrev pub after : Spot → ℕ → Spot
after spot byte = if spot.inside then spot else record spot { place = next_place spot.place byte }

-- the spot after bytes
abbrev pub after_all : Spot → List ℕ → Spot
after_all spot [] = spot
after_all spot (byte ∷ others) = after_all (after spot byte) others

-- the line and the column stay in range over this number of bytes
pub record IsInRange (spot : Spot) (bytes : ℕ) : Type 0 where
  pub line : spot.inside ≡ false → spot.place.line + bytes < 2 ^ 32
  pub column : spot.inside ≡ false → spot.place.column + bytes < 2 ^ 32

-- within a macro
abbrev pub within_macro : Spot → Spot
within_macro spot = record spot { inside = true }

-- where the file with this number begins, seen from the directive that includes it
abbrev pub file_spot : Spot → (number : ℕ) → Spot
file_spot spot number = if spot.inside then spot else record { place = record { source = number; line = 1; column = 1 }; inside = false }

-- a place comes before another one of the same source
pub record IsBefore (first second : Place) : Type 0 where
  pub source : first.source ≡ second.source
  pub order : (first.line < second.line) ⊎ ((first.line ≡ second.line) × (first.column < second.column))

-- outside of macros the place after bytes comes after the place before them
abbrev pub PlacesRise : Type 0
PlacesRise = (place : Place) (bytes : List ℕ) → 0 < length bytes → IsBefore place (after_all (record { place = place; inside = false }) bytes).place

-- within a macro every place is that of the use of the macro
abbrev pub PlacesStay : Type 0
PlacesStay = (place : Place) (bytes : List ℕ) → (after_all (record { place = place; inside = true }) bytes).place ≡ place
