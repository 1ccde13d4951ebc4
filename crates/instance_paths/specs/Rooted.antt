-- Where the instances of a design are.
use Rattle.std.specs.Prelude.{◌≡◌, ◌⊎◌, ◌≤◌, ◌++◌, ℕ, List, ◌∷◌, length, slice_index_or}
use Rattle.design_model.specs.Design.{Design, In, no_instance}
use Rattle.design_model.specs.declared.design.Instance.{Instance}

-- the path is that of the top, or begins with it and a dot
abbrev pub IsUnder : List ℕ → List ℕ → Type 0
IsUnder top path = (path ≡ top) ⊎ ((rest : List ℕ) × (path ≡ top ++ 46 ∷ rest))

-- the first instance is the top, and each is the top or below it
pub record IsRooted (d : Design) : Type 0 where
  pub some : 1 ≤ length d.instances
  pub first : (slice_index_or d.instances 0 no_instance).path ≡ d.top
  pub under : (x : Instance) → In x d.instances → IsUnder d.top x.path
