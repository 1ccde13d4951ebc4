-- How far a header was read.
use Rattle.std.specs.Prelude.{ℕ, Bool, true, false}
use Rattle.vcd_reader.specs.declared.progress.Progress.{Progress}
use Rattle.vcd_reader.specs.declared.progress.Progress.TheVariants.{Going, AtEnd}

abbrev pub is_going : Progress → Bool
is_going Going = true
is_going _ = false

abbrev pub is_at_end : Progress → Bool
is_at_end AtEnd = true
is_at_end _ = false

-- the greatest number of bytes that were read: the white space after a header is one more than its limit
abbrev pub longest_of : Progress → ℕ
longest_of Going = 67108864
longest_of _ = 67108865

-- how many codes are counted: those of a header that goes on
abbrev pub counted_codes : Progress → ℕ → ℕ
counted_codes Going count = count
counted_codes _ count = 0
