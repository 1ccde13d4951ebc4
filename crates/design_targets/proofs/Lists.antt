-- Lists that grow by one, and what holds of each item.
use Rattle.std.proofs.Common.{◌≡◌, ◌∙◌, ℕ, ◌+◌, ◌<◌, List, [], ◌∷◌, ◌++◌, length, get_or, map, take, sym, ap, subst}
use Rattle.std.specs.List.{All}
use Rattle.std.proofs.lemmas.List.{get_or-map, length-map}
use Rattle.std.proofs.lemmas.List.{map-append, take_more}

-- one list more
pub lists_grow : {V W T : Type 0} (f : V → List T) (g : W → List T) (lists : List V) (ws : List W) (i : ℕ) (found : V) (w : W) → i < length ws → w ≡ get_or ws i w → f found ≡ g w → map f lists ≡ map g (take i ws) → map f (lists ++ found ∷ []) ≡ map g (take (i + 1) ws)
lists_grow f g lists ws i found w l e is so =
    map-append f lists (found ∷ []) ∙ ap (λ ls. ls ++ f found ∷ []) so ∙ ap (λ r. map g (take i ws) ++ r ∷ []) is ∙ sym (map-append g (take i ws) (w ∷ [])) ∙ ap (λ y. map g (take i ws ++ y ∷ [])) e ∙ ap (map g) (sym (take_more ws i w l))

-- what holds of each item of the list that is made holds of each by what it is made to
pub all_back : {X Y : Type 0} (P : Y → Type 0) (f : X → Y) (xs : List X) → All P (map f xs) → All (λ x. P (f x)) xs
all_back P f xs h k x l = subst P (get_or-map f xs k x (f x) l) (h k (f x) (subst (λ n. k < n) (sym (length-map xs f)) l))

pub pushed_one : {X Y : Type 0} (f : X → Y) (xs : List X) (x : X) → map f (xs ++ x ∷ []) ≡ map f xs ++ f x ∷ []
pushed_one f xs x = map-append f xs (x ∷ [])
