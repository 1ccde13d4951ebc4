-- Sets of the points of a table: one mark for each point, in their order.
use Rattle.std.specs.Prelude.{ℕ, Bool, false, not, ◌&&◌, ◌||◌, List, [], ◌∷◌, count_by, replicate, slice_index_or}

-- the empty set of this number of points
abbrev pub no_points : ℕ → List Bool
no_points count = replicate count false

-- the points of either set
abbrev pub union : List Bool → List Bool → List Bool
union [] ys = ys
union (x ∷ xs) [] = x ∷ xs
union (x ∷ xs) (y ∷ ys) = (x || y) ∷ union xs ys

-- the points of the first set that the second lacks
abbrev pub without : List Bool → List Bool → List Bool
without [] ys = []
without (x ∷ xs) [] = x ∷ xs
without (x ∷ xs) (y ∷ ys) = (x && not y) ∷ without xs ys

-- how many points the set has
abbrev pub size : List Bool → ℕ
size set = count_by (λ mark. mark) set

-- the set has the point at a place
abbrev pub has : List Bool → ℕ → Bool
has set place = slice_index_or set place false
