-- The fields of a line, read from left to right: what is read, and the fields that are left.
-- Bytes are written as numbers: 32 space, 48 0.
use Rattle.std.specs.Prelude.{◌≡◌, ◌==◌, ℕ, nat_le, Bool, false, not, ◌&&◌, ◌||◌, bytes_eq, if◌then◌else◌, List, [], ◌∷◌, length, codes, Option, Some, None, option_map, Result, Ok, Err}
use Rattle.std.specs.List.{slice_split, list_all}
use Rattle.std.specs.Char.{is_ascii_digit}
use Rattle.cov_host.specs.Decimal.{decimal_value}
use Rattle.coverage_db.specs.declared.line_fault.LineFault.{LineFault}
use Rattle.coverage_db.specs.declared.line_fault.LineFault.TheVariants as line_fault

infixl 10 ◌>>=◌
abbrev pub ◌>>=◌ : {A B : Type 0} → Option A → (A → Option B) → Option B
None >>= f = None
(Some x) >>= f = f x

-- what a function took, seen by view, and the fields that it left are what reading gives, unless memory ran out
abbrev pub Takes : {X Y : Type 0} → (X → Y) → Result X LineFault → List (List ℕ) → Option (Y × List (List ℕ)) → Type 0
Takes view (Ok x) left read = read ≡ Some (view x, left)
Takes view (Err line_fault.NoMemory) left read = Unit {0}
Takes view (Err line_fault.Misfit) left read = read ≡ None

-- what a function returned, seen by view, is what reading gives, unless memory ran out
abbrev pub Gives : {X Y : Type 0} → (X → Y) → Result X LineFault → Option Y → Type 0
Gives view (Ok x) read = read ≡ Some (view x)
Gives view (Err line_fault.NoMemory) read = Unit {0}
Gives view (Err line_fault.Misfit) read = read ≡ None

-- what is before the first byte of this value, and what is after it
abbrev pub split_first : ℕ → List ℕ → Option (List ℕ × List ℕ)
split_first value [] = None
split_first value (byte ∷ bytes) = if byte == value then Some ([], bytes) else option_map (λ parts. (byte ∷ parts.0, parts.1)) (split_first value bytes)

-- what is before the last byte of this value, and what is after it
abbrev pub or_here : ℕ → ℕ → List ℕ → Option (List ℕ × List ℕ) → Option (List ℕ × List ℕ)
or_here value byte bytes None = if byte == value then Some ([], bytes) else None
or_here value byte bytes (Some parts) = Some (byte ∷ parts.0, parts.1)

abbrev pub split_last : ℕ → List ℕ → Option (List ℕ × List ℕ)
split_last value [] = None
split_last value (byte ∷ bytes) = or_here value byte bytes (split_last value bytes)

-- the rest after these first bytes
abbrev pub behind : List ℕ → List ℕ → Option (List ℕ)
behind [] text = Some text
behind (byte ∷ front) [] = None
behind (byte ∷ front) (first ∷ text) = if first == byte then behind front text else None

-- the fields of a line, between its spaces
abbrev pub fields_of : List ℕ → List (List ℕ)
fields_of line = slice_split (λ byte. byte == 32) line

-- decimal digits without leading zeros
abbrev pub is_plain : List ℕ → Bool
is_plain [] = false
is_plain (first ∷ others) = list_all is_ascii_digit (first ∷ others) && (not (first == 48) || length others == 0)

-- the number that a field writes, from least to greatest
unfoldable pub number_of : ℕ → ℕ → List ℕ → Option ℕ
number_of least greatest word = if is_plain word && nat_le least (decimal_value word) && nat_le (decimal_value word) greatest then Some (decimal_value word) else None

-- a field, whatever it says
abbrev pub field_at : List (List ℕ) → Option (List ℕ × List (List ℕ))
field_at [] = None
field_at (field ∷ fields) = Some (field, fields)

-- no field
abbrev pub end_at : List (List ℕ) → Option (Unit {0} × List (List ℕ))
end_at [] = Some (tt, [])
end_at (field ∷ fields) = None

-- this field
abbrev pub equals_at : List (List ℕ) → Option (Unit {0} × List (List ℕ))
equals_at [] = None
equals_at (field ∷ fields) = if bytes_eq field (codes "=") then Some (tt, fields) else None

abbrev pub number_at : ℕ → ℕ → List (List ℕ) → Option (ℕ × List (List ℕ))
number_at least greatest fields = do
  field ← field_at fields
  number ← number_of least greatest field.0
  Some (number, field.1)
