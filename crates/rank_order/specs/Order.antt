-- An order of nodes, each of which needs some others.
use Rattle.std.specs.Prelude.{◌≡◌, ◌<◌, ◌⊎◌, ℕ, List, [], ◌∷◌, length, map, ⊤}
use Rattle.std.specs.List.{Contains}
use Rattle.std.specs.Global.{Vec}
use Rattle.index_sets.specs.Rows.{row_at}

-- the items of vectors
abbrev pub lists_of : List (Vec ℕ) → List (List ℕ)
lists_of vectors = map (λ v. v.items) vectors

-- what a node needs are nodes
abbrev pub AreNodes : List (List ℕ) → Type 0
AreNodes needs = (v w : ℕ) → Contains (row_at needs v) w → w < length needs

-- w comes before v in the list
abbrev pub ComesBefore : ℕ → List ℕ → ℕ → Type 0
ComesBefore w [] v = ⊥
ComesBefore w (x ∷ xs) v = ((x ≡ w) × Contains xs v) ⊎ ComesBefore w xs v

-- no number is in the list twice
abbrev pub IsOnce : List ℕ → Type 0
IsOnce [] = ⊤
IsOnce (x ∷ xs) = (Contains xs x → ⊥) × IsOnce xs

-- each node of the order comes after all that it needs, and each other node needs one that is not in the order
pub record IsOrderAfter (needs : List (List ℕ)) (order : List ℕ) : Type 0 where
  pub below : (v : ℕ) → Contains order v → v < length needs
  pub once : IsOnce order
  pub after : (v w : ℕ) → Contains order v → Contains (row_at needs v) w → ComesBefore w order v
  pub left : (v : ℕ) → v < length needs → (Contains order v → ⊥) → (w : ℕ) × Contains (row_at needs v) w × (Contains order w → ⊥)
