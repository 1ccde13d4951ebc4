-- Items in order, where those that the order does not distinguish are joined to one.
use Rattle.std.specs.Prelude.{List, [], ◌∷◌}
use Rattle.std.specs.List.{fold}
use Rattle.std.specs.declared.cmp.Ordering.{Ordering}
use Rattle.std.specs.declared.cmp.Ordering.TheVariants.{Less, Equal, Greater}

-- one answer for less, one for equal, one for greater
abbrev pub by_order : {A : Type 0} → Ordering → A → A → A → A
by_order Less before here behind = before
by_order Equal before here behind = here
by_order Greater before here behind = behind

-- an item before those that it is less than, or joined to its equal
abbrev pub placed : {X : Type 0} → (X → X → Ordering) → (X → X → X) → List X → X → List X
placed cmp join [] x = x ∷ []
placed cmp join (y ∷ items) x = by_order (cmp x y) (x ∷ y ∷ items) (join y x ∷ items) (y ∷ placed cmp join items x)

-- each item in its place
abbrev pub gathered : {X : Type 0} → (X → X → Ordering) → (X → X → X) → List X → List X
gathered cmp join items = fold (placed cmp join) [] items
