-- What reading the digits of a literal keeps.
use Rattle.std.specs.Prelude.{ℕ, nat_le, Bool, not, if◌then◌else◌}
use Rattle.verilog_lexer.specs.Based.{is_underscore}

-- a digit, which no underscore is
abbrev pub is_digit : ℕ → Bool
is_digit byte = not (is_underscore byte)

-- the number, or 255 where it is greater
abbrev pub capped : ℕ → ℕ
capped n = if nat_le 255 n then 255 else n
