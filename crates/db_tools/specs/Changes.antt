-- Points excluded one after another, and restored in any order.
use Rattle.std.specs.Prelude.{◌≡◌, ℕ, List, [], ◌∷◌}
use Rattle.db_tools.specs.Excluded.{Excludes, Exclusion, Restores}

-- each of the points is excluded, one after another
abbrev pub ExcludesAll : List (List ℕ) → Exclusion → Exclusion → Type 0
ExcludesAll [] old new = new ≡ old
ExcludesAll (address ∷ more) old new = (next : Exclusion) × Excludes address old next × ExcludesAll more next new

-- each of the points is restored, one after another
abbrev pub RestoresAll : List (List ℕ) → Exclusion → Exclusion → Type 0
RestoresAll [] old new = new ≡ old
RestoresAll (address ∷ more) old new = (next : Exclusion) × Restores address old next × RestoresAll more next new

-- one list is the other in another order
pub data IsReordered {X : Type 0} : List X → List X → Type 0 where
  nothing : IsReordered [] []
  after : (x : X) {xs ys : List X} → IsReordered xs ys → IsReordered (x ∷ xs) (x ∷ ys)
  swapped : (x y : X) (xs : List X) → IsReordered (x ∷ y ∷ xs) (y ∷ x ∷ xs)
  and_then : {xs ys zs : List X} → IsReordered xs ys → IsReordered ys zs → IsReordered xs zs
