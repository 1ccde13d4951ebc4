-- The window of what was read of a dump.
use Rattle.std.specs.Prelude.{ℕ, nat_lt, if◌then◌else◌, List, [], ◌∷◌, Option, None, Some}
use Rattle.coverage_db.specs.declared.window.Window.{Window}

-- the first of these times
abbrev pub first_of : List ℕ → Option ℕ
first_of [] = None
first_of (t ∷ ts) = Some t

-- from the first time to the last, where they are two
abbrev pub span_of : Option ℕ → Option ℕ → Option Window
span_of None last = None
span_of (Some first) None = None
span_of (Some first) (Some last) = if nat_lt first last then Some (record { first = first; last = last }) else None
