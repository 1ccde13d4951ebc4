-- Tables of numbers by row and column, laid out flat.
use Rattle.std.specs.Prelude.{◌≡◌, ◌<◌, ◌≤◌, ◌+◌, ◌-◌, ℕ, List, [], ◌∷◌, length, min, max, slice_index_or}
use Rattle.number_tables.specs.declared.ranges.Range.{Range}
use Rattle.number_tables.specs.declared.rows.Row.{Row}
use Rattle.number_tables.specs.declared.slot.Slot.{Slot}
use Rattle.number_tables.specs.declared.table.NumberTable.{NumberTable}

-- what a list gives past its end
abbrev pub no_slot : Slot
no_slot = record { row = 0; column = 0 }

abbrev pub no_range : Range
no_range = record { least = 0; greatest = 0 }

abbrev pub no_row : Row
no_row = record { least = 0; start = 0 }

-- no slot is listed twice
abbrev pub AreApart : List Slot → Type 0
AreApart ss = (j k : ℕ) → j < length ss → k < length ss → slice_index_or ss j no_slot ≡ slice_index_or ss k no_slot → j ≡ k

-- the column is one of the range
abbrev pub IsWithin : Range → ℕ → Type 0
IsWithin r c = (r.least ≤ c) × (c ≤ r.greatest)

-- the range with one column more, and all between
abbrev pub wider : Range → ℕ → Range
wider r c = record { least = min r.least c; greatest = max r.greatest c }

-- how many columns a range has
abbrev pub width_of : Range → ℕ
width_of r = r.greatest + 1 - r.least

-- how many columns ranges have in all
abbrev pub whole_width : List Range → ℕ
whole_width [] = 0
whole_width (r ∷ rs) = width_of r + whole_width rs

-- there is room for the slot
abbrev pub HasRoom : List Range → Slot → Type 0
HasRoom rs s = (s.row < length rs) × IsWithin (slice_index_or rs s.row no_range) s.column

-- rows with these ranges, one after the other from place n on
abbrev pub laid_out : ℕ → List Range → List Row
laid_out n [] = []
laid_out n (r ∷ rs) = record { least = r.least; start = n } ∷ laid_out (n + width_of r) rs

-- the place of a column in a row
abbrev pub place_in : Row → ℕ → ℕ
place_in r c = r.start + (c - r.least)

-- the place of a slot
abbrev pub place_of : List Row → Slot → ℕ
place_of rs s = place_in (slice_index_or rs s.row no_row) s.column

-- the table has this number for the slot
abbrev pub IsNumberOf : NumberTable → Slot → ℕ → Type 0
IsNumberOf t s n = (s.row < length t.rows.items) × (place_of t.rows.items s < length t.numbers.items) × (slice_index_or t.numbers.items (place_of t.rows.items s) 0 ≡ n)
