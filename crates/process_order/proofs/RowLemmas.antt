-- Rows and what is in them.
use Rattle.std.proofs.Common.{◌≡◌, ⊎_elim, ◌∙◌, ℕ, ◌+◌, ◌<◌, ◌≤◌, List, [], ◌∷◌, ◌++◌, length, get_or, map, take, sym, ap, subst, arith}
use Rattle.std.specs.List.{Contains}
use Rattle.std.proofs.lemmas.Bool.{cases_lt}
use Rattle.std.proofs.lemmas.List.{get_or_past, map-append, take_more}
use Rattle.index_sets.specs.Rows.{row_at}

pub none_in : (x : ℕ) → Contains [] x → ⊥
none_in x c = absurd (omega (arith, c.1))

-- a row with something in it is there
pub row_inside : (rows : List (List ℕ)) (k x : ℕ) → Contains (row_at rows k) x → k < length rows
row_inside rows k x c = ⊎_elim (λ l. l) (λ past. absurd (none_in x (subst (λ r. Contains r x) (get_or_past rows k [] past) c))) (cases_lt k (length rows))

-- one list more
pub lists_grow : {V W T : Type 0} (f : V → List T) (g : W → List T) (lists : List V) (ws : List W) (i : ℕ) (found : V) (w : W) → i < length ws → w ≡ get_or ws i w → f found ≡ g w → map f lists ≡ map g (take i ws) → map f (lists ++ found ∷ []) ≡ map g (take (i + 1) ws)
lists_grow f g lists ws i found w l e is so =
    map-append f lists (found ∷ []) ∙ ap (λ ls. ls ++ f found ∷ []) so ∙ ap (λ r. map g (take i ws) ++ r ∷ []) is ∙ sym (map-append g (take i ws) (w ∷ [])) ∙ ap (λ y. map g (take i ws ++ y ∷ [])) e ∙ ap (map g) (sym (take_more ws i w l))
