-- The signals and values of machines.
use Rattle.std.specs.Prelude.{◌≡◌, ◌<◌, ℕ, List, [], length, slice_index_or}
use Rattle.design_model.specs.Design.{Design, In}
use Rattle.design_model.specs.Points.{IsNameOf}
use Rattle.design_model.specs.declared.design.Constant.{Constant}

-- a signal of the design, by a name that it has in the instance
abbrev pub IsNamedSignal : Design → ℕ → List ℕ → ℕ → Type 0
IsNamedSignal d i name s = (s < length d.signals) × IsNameOf d i name s

-- the name is no parameter of the instance
abbrev pub IsNoParameter : Design → ℕ → List ℕ → Type 0
IsNoParameter d i name = (c : Constant) → In c d.constants → c.instance ≡ i → c.name ≡ name → ⊥

-- the name is a parameter of the instance
abbrev pub IsParameter : Design → ℕ → List ℕ → Type 0
IsParameter d i name = (c : Constant) × In c d.constants × (c.instance ≡ i) × (c.name ≡ name)

-- the name at this place is no parameter of the instance, and each before it is one
abbrev pub IsFirstNoParameter : Design → ℕ → List (List ℕ) → ℕ → Type 0
IsFirstNoParameter d i names k =
    (k < length names) × IsNoParameter d i (slice_index_or names k []) × ((j : ℕ) → j < k → IsParameter d i (slice_index_or names j []))
