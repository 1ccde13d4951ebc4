-- Places in lists, and members.
use Rattle.std.proofs.Common.{◌≡◌, ◌<◌, ℕ, zero, suc, Bool, true, List, [], ◌∷◌, length, get_or, refl, inl, inr, arith}
use Rattle.std.specs.List.{list_all}
use Rattle.std.proofs.lemmas.Bool.{and_parts}
use Rattle.design_model.specs.Design.{In}

pub in_at : {A : Type 0} (xs : List A) (j : ℕ) (d : A) → j < length xs → In (get_or xs j d) xs
in_at [] j d l = absurd (omega arith)
in_at (x ∷ xs) zero d l = inl refl
in_at (x ∷ xs) (suc j) d l = inr (in_at xs j d (omega arith))

pub place_of : {A : Type 0} (x : A) (xs : List A) (d : A) → In x xs → (j : ℕ) × (j < length xs) × (get_or xs j d ≡ x)
place_of x [] d h = absurd h
place_of x (y ∷ xs) d (inl e) = (0, omega arith, e)
place_of x (y ∷ xs) d (inr h) = let r = place_of x xs d h in (suc r.0, omega (arith, r.1), r.2)

pub test_at : {A : Type 0} (test : A → Bool) (xs : List A) (k : ℕ) (e : A) → list_all test xs ≡ true → k < length xs → test (get_or xs k e) ≡ true
test_at test [] k e h l = absurd (omega arith)
test_at test (x ∷ xs) zero e h l = (and_parts (test x) (list_all test xs) h).0
test_at test (x ∷ xs) (suc k) e h l = test_at test xs k e (and_parts (test x) (list_all test xs) h).1 (omega arith)
