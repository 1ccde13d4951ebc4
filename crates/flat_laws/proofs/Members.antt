-- What is in lists that are joined, mapped or filtered.
use Rattle.std.proofs.Common.{◌≡◌, sym, ◌⊎◌, inl, inr, Bool, true, false, ◌&&◌, cond, List, [], ◌∷◌, ◌++◌, refl, subst, map}
use Rattle.std.specs.List.{list_all, filter, flat_map}
use Rattle.std.proofs.lemmas.Bool.{false≢true, and_parts}
use Rattle.design_model.specs.Design.{In}

pub in_left : {A : Type 0} (x : A) (xs ys : List A) → In x xs → In x (xs ++ ys)
in_left x [] ys h = absurd h
in_left x (y ∷ xs) ys (inl e) = inl e
in_left x (y ∷ xs) ys (inr h) = inr (in_left x xs ys h)

pub in_right : {A : Type 0} (x : A) (xs ys : List A) → In x ys → In x (xs ++ ys)
in_right x [] ys h = h
in_right x (y ∷ xs) ys h = inr (in_right x xs ys h)

pub in_append : {A : Type 0} (x : A) (xs ys : List A) → In x (xs ++ ys) → In x xs ⊎ In x ys
in_append x [] ys h = inr h
in_append x (y ∷ xs) ys (inl e) = inl (inl e)
in_append x (y ∷ xs) ys (inr h) = further (in_append x xs ys h)
  where
    further : In x xs ⊎ In x ys → In x (y ∷ xs) ⊎ In x ys
    further (inl k) = inl (inr k)
    further (inr k) = inr k

pub in_map : {A B : Type 0} (f : A → B) (x : B) (xs : List A) → In x (map f xs) → (y : A) × In y xs × (f y ≡ x)
in_map f x [] h = absurd h
in_map f x (y ∷ ys) (inl e) = (y, inl refl, e)
in_map f x (y ∷ ys) (inr h) = let k = in_map f x ys h in (k.0, inr k.1, k.2)

pub in_flat_map : {A B : Type 0} (f : A → List B) (x : B) (xs : List A) → In x (flat_map f xs) → (y : A) × In y xs × In x (f y)
in_flat_map f x [] h = absurd h
in_flat_map {A = A} f x (y ∷ ys) h = further (in_flat_map f x ys) (in_append x (f y) (flat_map f ys) h)
  where
    further : (In x (flat_map f ys) → (z : A) × In z ys × In x (f z)) → In x (f y) ⊎ In x (flat_map f ys) → (z : A) × In z (y ∷ ys) × In x (f z)
    further rest (inl k) = (y, inl refl, k)
    further rest (inr k) = let l = rest k in (l.0, inr l.1, l.2)

pub in_filter : {A : Type 0} (p : A → Bool) (x : A) (xs : List A) → In x (filter p xs) → In x xs × (p x ≡ true)
in_filter p x [] h = absurd h
in_filter p x (y ∷ ys) h = by_test (λ k. let l = in_filter p x ys k in (inr l.0, l.1)) (p y) refl h
  where
    by_test : (In x (filter p ys) → In x (y ∷ ys) × (p x ≡ true)) → (b : Bool) → p y ≡ b → In x (cond b (y ∷ filter p ys) (filter p ys)) → In x (y ∷ ys) × (p x ≡ true)
    by_test further true is (inl e) = (inl e, subst (λ z. p z ≡ true) e is)
    by_test further true is (inr k) = further k
    by_test further false is k = further k

-- a test that each element passes
pub all_of_members : {A : Type 0} (p : A → Bool) (xs : List A) → ((x : A) → In x xs → p x ≡ true) → list_all p xs ≡ true
all_of_members p [] h = refl
all_of_members p (x ∷ xs) h = rw (h x (inl refl)) (all_of_members p xs (λ y k. h y (inr k)))

pub member_passes : {A : Type 0} (p : A → Bool) (x : A) (xs : List A) → list_all p xs ≡ true → In x xs → p x ≡ true
member_passes p x [] h k = absurd k
member_passes p x (y ∷ ys) h (inl e) = subst (λ z. p z ≡ true) e (and_parts (p y) (list_all p ys) h).0
member_passes p x (y ∷ ys) h (inr k) = member_passes p x ys (and_parts (p y) (list_all p ys) h).1 k

pub both_true : (a b : Bool) → a ≡ true → b ≡ true → (a && b) ≡ true
both_true true b p q = q
both_true false b p q = absurd (false≢true p)

pub in_flat_map_back : {A B : Type 0} (f : A → List B) (y : A) (xs : List A) (x : B) → In y xs → In x (f y) → In x (flat_map f xs)
in_flat_map_back f y [] x h k = absurd h
in_flat_map_back f y (z ∷ zs) x (inl e) k = in_left x (f z) (flat_map f zs) (subst (λ w. In x (f w)) (sym e) k)
in_flat_map_back f y (z ∷ zs) x (inr h) k = in_right x (f z) (flat_map f zs) (in_flat_map_back f y zs x h k)
