-- Lists of processes.
use Rattle.std.specs.Prelude.{◌≡◌, ℕ, Bool, false, List, [], ◌∷◌, nat_eq, ⊤}
use Rattle.std.specs.List.{list_any}

-- the process is in the list
abbrev pub has : ℕ → List ℕ → Bool
has p ps = list_any (nat_eq p) ps

-- no process is in the list twice
abbrev pub IsOnce : List ℕ → Type 0
IsOnce [] = ⊤
IsOnce (p ∷ ps) = (has p ps ≡ false) × IsOnce ps
