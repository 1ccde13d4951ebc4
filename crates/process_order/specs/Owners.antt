-- Who both watches and drives a signal or memory.
use Rattle.std.specs.Prelude.{◌≡◌, ℕ, List}
use Rattle.std.specs.List.{Contains}

-- the list has the process and no other
abbrev pub IsAlone : ℕ → List ℕ → Type 0
IsAlone p owners = Contains owners p × ((q : ℕ) → Contains owners q → q ≡ p)

-- the list has another process
abbrev pub HasOther : ℕ → List ℕ → Type 0
HasOther p owners = (q : ℕ) × Contains owners q × (q ≡ p → ⊥)
