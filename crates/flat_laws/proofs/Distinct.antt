-- Lists that contain nothing twice.
use Rattle.std.proofs.Common.{◌≡◌, ◌⊎◌, inl, inr, Bool, true, false, cond, List, [], ◌∷◌, ◌++◌, refl, sym, ap, ◌∙◌, subst, map}
use Rattle.std.specs.List.{filter, flat_map}
use Rattle.std.proofs.lemmas.List.{map-append}
use Rattle.design_model.specs.Design.{In, AreDistinct}
use Rattle.flat_laws.proofs.LawfulNames.{in_map_back}
use Rattle.flat_laws.proofs.Members.{in_append, in_map, in_filter, in_flat_map}

-- nothing is in both
abbrev pub AreApart : {A : Type 0} → List A → List A → Type 0
AreApart {A} xs ys = (x : A) → In x xs → In x ys → ⊥

pub distinct_join : {A : Type 0} (xs ys : List A) → AreDistinct xs → AreDistinct ys → AreApart xs ys → AreDistinct (xs ++ ys)
distinct_join [] ys h k apart = k
distinct_join (x ∷ xs) ys h k apart = (λ l. by_side (in_append x xs ys l), distinct_join xs ys h.1 k (λ y a b. apart y (inr a) b))
  where
    by_side : In x xs ⊎ In x ys → ⊥
    by_side (inl l) = h.0 l
    by_side (inr l) = apart x (inl refl) l

pub apart_join : {A : Type 0} (xs ys zs : List A) → AreApart xs zs → AreApart ys zs → AreApart (xs ++ ys) zs
apart_join xs ys zs h k x l m = by_side (in_append x xs ys l)
  where
    by_side : In x xs ⊎ In x ys → ⊥
    by_side (inl n) = h x n m
    by_side (inr n) = k x n m

-- what has one key is one
pub same_by_key : {A K : Type 0} (key : A → K) (xs : List A) → AreDistinct (map key xs) → (x y : A) → In x xs → In y xs → key x ≡ key y → x ≡ y
same_by_key key [] h x y k l e = absurd k
same_by_key key (z ∷ zs) h x y (inl a) (inl b) e = sym a ∙ b
same_by_key key (z ∷ zs) h x y (inl a) (inr b) e = absurd (h.0 (subst (λ w. In w (map key zs)) (sym (ap key a ∙ e)) (in_map_back key y zs b)))
same_by_key key (z ∷ zs) h x y (inr a) (inl b) e = absurd (h.0 (subst (λ w. In w (map key zs)) (e ∙ sym (ap key b)) (in_map_back key x zs a)))
same_by_key key (z ∷ zs) h x y (inr a) (inr b) e = same_by_key key zs h.1 x y a b e

-- names that differ where keys do, of those that pass a test
pub distinct_picked : {A K N : Type 0} (key : A → K) (name : A → N) (p : A → Bool) → ((x y : A) → name x ≡ name y → key x ≡ key y) → (xs : List A) → AreDistinct (map key xs) → AreDistinct (map name (filter p xs))
distinct_picked key name p same [] h = h
distinct_picked {A = A} {N = N} key name p same (x ∷ xs) h = by_test (distinct_picked key name p same xs h.1) (p x)
  where
    not_again : In (name x) (map name (filter p xs)) → ⊥
    not_again k =
        let l = in_map name (name x) (filter p xs) k in
        h.0 (subst (λ z. In z (map key xs)) (same l.0 x l.2) (in_map_back key l.0 xs (in_filter p l.0 xs l.1).0))

    by_test : AreDistinct (map name (filter p xs)) → (b : Bool) → AreDistinct (map name (cond b (x ∷ filter p xs) (filter p xs)))
    by_test rest true = (not_again, rest)
    by_test rest false = rest

-- each gives its name, or nothing
abbrev pub GiveNames : {A N : Type 0} → (A → List N) → (A → N) → Type 0
GiveNames {A} f name = (x : A) → (f x ≡ []) ⊎ (f x ≡ name x ∷ [])

pub given_name : {A N : Type 0} (f : A → List N) (name : A → N) → GiveNames f name → (x : A) (y : N) → In y (f x) → name x ≡ y
given_name f name gives x y h = by_case (gives x)
  where
    by_case : (f x ≡ []) ⊎ (f x ≡ name x ∷ []) → name x ≡ y
    by_case (inl e) = absurd (subst (In y) e h)
    by_case (inr e) = of_one (subst (In y) e h)
      where
        of_one : In y (name x ∷ []) → name x ≡ y
        of_one (inl same) = same
        of_one (inr k) = absurd k

pub distinct_given : {A K N : Type 0} (key : A → K) (f : A → List N) (name : A → N) → GiveNames f name → ((x y : A) → name x ≡ name y → key x ≡ key y) → (xs : List A) → AreDistinct (map key xs) → AreDistinct (flat_map f xs)
distinct_given key f name gives same [] h = h
distinct_given key f name gives same (x ∷ xs) h = by_case (distinct_given key f name gives same xs h.1) (gives x)
  where
    not_again : In (name x) (flat_map f xs) → ⊥
    not_again k =
        let l = in_flat_map f (name x) xs k in
        h.0 (subst (λ z. In z (map key xs)) (same l.0 x (given_name f name gives l.0 (name x) l.2)) (in_map_back key l.0 xs l.1))

    by_case : AreDistinct (flat_map f xs) → (f x ≡ []) ⊎ (f x ≡ name x ∷ []) → AreDistinct (f x ++ flat_map f xs)
    by_case rest (inl e) = subst (λ z. AreDistinct (z ++ flat_map f xs)) (sym e) rest
    by_case rest (inr e) = subst (λ z. AreDistinct (z ++ flat_map f xs)) (sym e) (not_again, rest)

pub map_twice : {A B C : Type 0} (g : B → C) (f : A → B) (xs : List A) → map g (map f xs) ≡ map (λ x. g (f x)) xs
map_twice g f [] = refl
map_twice g f (x ∷ xs) = ap (λ z. g (f x) ∷ z) (map_twice g f xs)

pub map_flat : {A B C : Type 0} (g : B → C) (f : A → List B) (xs : List A) → map g (flat_map f xs) ≡ flat_map (λ x. map g (f x)) xs
map_flat g f [] = refl
map_flat g f (x ∷ xs) = map-append g (f x) (flat_map f xs) ∙ ap (λ z. map g (f x) ++ z) (map_flat g f xs)
