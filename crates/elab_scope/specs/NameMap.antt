-- Maps from names.
use Rattle.std.specs.Prelude.{ℕ, if◌then◌else◌, List, bytes_eq, Option, Some}
use Rattle.std.specs.Map.{lookup}

-- what the name is bound to
abbrev pub bound_to : {V : Type 0} → List (List ℕ × V) → List ℕ → Option V
bound_to entries x = lookup (λ bound. bytes_eq x bound) entries

-- where x is bound to v
abbrev pub with_binding : {V : Type 0} → List ℕ → V → (List ℕ → Option V) → List ℕ → Option V
with_binding x v g y = if bytes_eq y x then Some v else g y
