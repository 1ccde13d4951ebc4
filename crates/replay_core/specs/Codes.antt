-- The code of each signal.
use Rattle.std.specs.Prelude.{ℕ, Bool, List, [], ◌∷◌, is_some, map, Option, Some, None}

-- for each signal whether it has a code
abbrev pub flags_of : List (Option ℕ) → List Bool
flags_of codes = map is_some codes

-- the list of a code, if there is one
abbrev pub code_list : Option ℕ → List ℕ
code_list None = []
code_list (Some code) = code ∷ []
