-- Tests of the names of an expression.
use Rattle.std.proofs.Common.{◌≡◌, refl, ap, ◌∙◌, Bool, true, false, not, ◌&&◌, ◌||◌, List, [], ◌∷◌}
use Rattle.std.specs.List.{list_all, list_any}

not_or : (a b : Bool) → not (not a || b) ≡ (a && not b)
not_or true b = refl
not_or false b = refl

-- all pass the test where none fails it
pub none_fails : {A : Type 0} (p : A → Bool) (xs : List A) → not (list_any (λ x. not (p x)) xs) ≡ list_all p xs
none_fails p [] = refl
none_fails p (x ∷ xs) = not_or (p x) (list_any (λ y. not (p y)) xs) ∙ ap (λ b. p x && b) (none_fails p xs)
