-- Lists in which each item comes before the next one.
use Rattle.std.proofs.Common.{◌≡◌, List, [], ◌∷◌, ◌++◌, map, inl, inr, refl}
use Rattle.std.specs.declared.cmp.Ordering.{Ordering}
use Rattle.std.specs.declared.cmp.Ordering.TheVariants.{Less}
use Rattle.std.specs.List.Sorted.{IsStrictlySortedBy}
use Rattle.std.proofs.lemmas.Map.Keys.{sorted_head, sorted_tail}
use Rattle.coverage_db.specs.Table.{Rises}
use Rattle.design_model.specs.Design.{In}

-- items in one order, seen in another
pub rises_map : {X Y : Type 0} (c : X → X → Ordering) (r : Y → Y → Ordering) (f : X → Y) (xs : List X) → IsStrictlySortedBy c xs → ((x y : X) → In x xs → In y xs → c x y ≡ Less → r (f x) (f y) ≡ Less) → Rises r (map f xs)
rises_map c r f [] h k = tt
rises_map c r f (x ∷ []) h k = tt
rises_map c r f (x ∷ y ∷ xs) h k =
    (k x y (inl refl) (inr (inl refl)) (sorted_head c x (y ∷ xs) h).0, rises_map c r f (y ∷ xs) (sorted_tail c x (y ∷ xs) h) (λ a b i j. k a b (inr i) (inr j)))

-- two lists, of which all of the first comes before all of the second
pub rises_append : {X : Type 0} (r : X → X → Ordering) (xs ys : List X) → Rises r xs → Rises r ys → ((x y : X) → In x xs → In y ys → r x y ≡ Less) → Rises r (xs ++ ys)
rises_append r [] ys a b h = b
rises_append r (x ∷ []) [] a b h = tt
rises_append r (x ∷ []) (y ∷ ys) a b h = (h x y (inl refl) (inl refl), b)
rises_append r (x ∷ z ∷ xs) ys a b h = (a.0, rises_append r (z ∷ xs) ys a.1 b (λ x y i j. h x y (inr i) j))

-- items whose keys rise
pub rises_unmap : {X Y : Type 0} (r : Y → Y → Ordering) (f : X → Y) (xs : List X) → Rises r (map f xs) → Rises (λ a b. r (f a) (f b)) xs
rises_unmap r f [] h = tt
rises_unmap r f (x ∷ []) h = tt
rises_unmap r f (x ∷ y ∷ xs) h = (h.0, rises_unmap r f (y ∷ xs) h.1)
