-- Decimal numbers as words of a text.
use Rattle.std.specs.Prelude.{ℕ, List}
use Rattle.std.specs.Str.Parse.{digits_value, IsNumeral}

-- the word is one or more decimal digits, leading zeros allowed
abbrev pub IsDecimal : List ℕ → Type 0
IsDecimal word = IsNumeral 10 word

-- the number that decimal digits write, the highest first
abbrev pub decimal_value : List ℕ → ℕ
decimal_value word = digits_value 10 word
