-- What is left of a text after bytes that it begins with.
use Rattle.std.specs.Prelude.{◌==◌, ℕ, Bool, false, List, length, Option, Some, None, option_map}
use Rattle.std.specs.Borrow.{Bor}
use Rattle.coverage_db.specs.Fields.{◌>>=◌, behind}

-- what is left, without where it lies in memory
abbrev pub left_of : Option (Bor (List ℕ)) → Option (List ℕ)
left_of left = option_map (λ text. text.now) left

-- what is left after these bytes more
abbrev pub after : List ℕ → Option (List ℕ) → Option (List ℕ)
after front left = left >>= λ text. behind front text

-- the text has ended
abbrev pub is_at_end : Option (List ℕ) → Bool
is_at_end None = false
is_at_end (Some left) = length left == 0
