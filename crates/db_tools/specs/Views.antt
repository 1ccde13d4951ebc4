-- What contracts see of the types of the code.
use Rattle.std.specs.Prelude.{ℕ, List, map, Option, option_map}
use Rattle.std.specs.Borrow.{Bor}

-- texts, without where they lie in memory
abbrev pub texts : List (Bor (List ℕ)) → List (List ℕ)
texts lines = map (λ line. line.now) lines

-- two parts of a text, without where they lie in memory
abbrev pub two_parts : Option (Bor (List ℕ) × Bor (List ℕ)) → Option (List ℕ × List ℕ)
two_parts parts = option_map (λ parts. (parts.0.now, parts.1.now)) parts
