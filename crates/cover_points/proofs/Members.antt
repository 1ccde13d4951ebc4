-- Members of lists that are joined, mapped, sorted or without repeats.
use Rattle.std.proofs.Common.{◌≡◌, ◌⊎◌, ◌<◌, ℕ, zero, suc, true, inl, inr, List, [], ◌∷◌, ◌++◌, length, map, get_or, refl, sym, ap, subst, arith}
use Rattle.std.specs.declared.cmp.Ordering.{Ordering}
use Rattle.std.specs.declared.cmp.Ordering.TheVariants.{Less, Equal, Greater}
use Rattle.std.specs.Cmp.{IsTotalOrder}
use Rattle.std.specs.List.{Contains, dedup, flat_map}
use Rattle.std.specs.List.Sorted.{IsPermutation, IsSorted, IsStrictlySortedBy}
use Rattle.std.specs.Ordering.{eq_by_cmp, is_eq, nat_cmp, ordering_then}
use Rattle.std.proofs.lemmas.Cmp.{eq_by_cmp_equiv, ranked}
use Rattle.std.proofs.lemmas.List.Kept.{Any-dedup, Contains-from_dedup, IsStrictlySortedBy-dedup}
use Rattle.std.proofs.lemmas.List.Sorted.{Contains-permutation, IsPermutation-sym}
use Rattle.design_model.specs.Design.{AreDistinct, In}
use Rattle.cover_points.specs.Order.{bytes_cmp}

pub in_left : {A : Type 0} (x : A) (xs ys : List A) → In x xs → In x (xs ++ ys)
in_left x [] ys h = absurd h
in_left x (y ∷ xs) ys (inl e) = inl e
in_left x (y ∷ xs) ys (inr h) = inr (in_left x xs ys h)

pub in_right : {A : Type 0} (x : A) (xs ys : List A) → In x ys → In x (xs ++ ys)
in_right x [] ys h = h
in_right x (y ∷ xs) ys h = inr (in_right x xs ys h)

pub in_append : {A : Type 0} (x : A) (xs ys : List A) → In x (xs ++ ys) → In x xs ⊎ In x ys
in_append x [] ys h = inr h
in_append x (y ∷ xs) ys (inl e) = inl (inl e)
in_append x (y ∷ xs) ys (inr h) = further (in_append x xs ys h)
  where
    further : In x xs ⊎ In x ys → In x (y ∷ xs) ⊎ In x ys
    further (inl k) = inl (inr k)
    further (inr k) = inr k

pub in_map : {A B : Type 0} (f : A → B) (x : B) (xs : List A) → In x (map f xs) → (y : A) × In y xs × (f y ≡ x)
in_map f x [] h = absurd h
in_map f x (y ∷ ys) (inl e) = (y, inl refl, e)
in_map f x (y ∷ ys) (inr h) = let k = in_map f x ys h in (k.0, inr k.1, k.2)

pub in_map_back : {A B : Type 0} (f : A → B) (y : A) (xs : List A) → In y xs → In (f y) (map f xs)
in_map_back f y [] h = absurd h
in_map_back f y (x ∷ xs) (inl e) = inl (ap f e)
in_map_back f y (x ∷ xs) (inr h) = inr (in_map_back f y xs h)

pub in_flat_map : {A B : Type 0} (f : A → List B) (x : B) (xs : List A) → In x (flat_map f xs) → (y : A) × In y xs × In x (f y)
in_flat_map f x [] h = absurd h
in_flat_map {A = A} f x (y ∷ ys) h = further (in_flat_map f x ys) (in_append x (f y) (flat_map f ys) h)
  where
    further : (In x (flat_map f ys) → (z : A) × In z ys × In x (f z)) → In x (f y) ⊎ In x (flat_map f ys) → (z : A) × In z (y ∷ ys) × In x (f z)
    further rest (inl k) = (y, inl refl, k)
    further rest (inr k) = let l = rest k in (l.0, inr l.1, l.2)

pub in_flat_map_back : {A B : Type 0} (f : A → List B) (y : A) (xs : List A) (x : B) → In y xs → In x (f y) → In x (flat_map f xs)
in_flat_map_back f y [] x h k = absurd h
in_flat_map_back f y (z ∷ zs) x (inl e) k = in_left x (f z) (flat_map f zs) (subst (λ w. In x (f w)) (sym e) k)
in_flat_map_back f y (z ∷ zs) x (inr h) k = in_right x (f z) (flat_map f zs) (in_flat_map_back f y zs x h k)

pub contains_in : {A : Type 0} (x : A) (xs : List A) (k : ℕ) → k < length xs → get_or xs k x ≡ x → In x xs
contains_in x [] k l e = absurd (omega arith)
contains_in x (y ∷ ys) zero l e = inl e
contains_in x (y ∷ ys) (suc k) l e = inr (contains_in x ys k (omega arith) e)

pub in_contains : {A : Type 0} (x : A) (xs : List A) → In x xs → Contains xs x
in_contains x [] h = absurd h
in_contains x (y ∷ ys) (inl e) = (0, omega arith, e)
in_contains x (y ∷ ys) (inr h) = let c = in_contains x ys h in (suc c.0, omega (arith, c.1), c.2)

equal_is : (o : Ordering) → is_eq o ≡ true → o ≡ Equal
equal_is Less h = absurd cc
equal_is Equal h = refl
equal_is Greater h = absurd cc

-- points that are sorted, each once
module _ {X : Type 0} {R : X → X → Ordering} (o : IsTotalOrder R) (found sorted : List X) (moved : IsPermutation found sorted) where
  pub once_rise : IsSorted R sorted → IsStrictlySortedBy R (dedup (eq_by_cmp R) sorted)
  once_rise h = IsStrictlySortedBy-dedup o (λ x y. refl) sorted h

  pub once_from : (x : X) → In x (dedup (eq_by_cmp R) sorted) → In x found
  once_from x h =
      let c = Contains-permutation sorted found x (IsPermutation-sym found sorted moved) (Contains-from_dedup (eq_by_cmp R) sorted x (in_contains x (dedup (eq_by_cmp R) sorted) h)) in
      contains_in x found c.0 c.1 c.2

  -- each is kept, as f sees it, where f sees what is equal in the order as equal
  pub once_keeps : {Y : Type 0} (f : X → Y) → ((x y : X) → In x found → In y found → R x y ≡ Equal → f x ≡ f y) → (x : X) → In x found → In (f x) (map f (dedup (eq_by_cmp R) sorted))
  once_keeps f same x h =
      let a = Any-dedup (eq_by_cmp_equiv o) sorted x (Contains-permutation found sorted x moved (in_contains x found h)) in
      let y = a.1 in
      let there : In y (dedup (eq_by_cmp R) sorted) = contains_in y (dedup (eq_by_cmp R) sorted) a.0 a.2 a.3 in
      let e : f x ≡ f y = same x y h (once_from y there) (equal_is (R x y) a.4) in
      subst (λ z. In z (map f (dedup (eq_by_cmp R) sorted))) (sym e) (in_map_back f y (dedup (eq_by_cmp R) sorted) there)

then_equal : (p q : Ordering) → ordering_then p q ≡ Equal → (p ≡ Equal) × (q ≡ Equal)
then_equal Less q h = absurd cc
then_equal Equal q h = (refl, h)
then_equal Greater q h = absurd cc

-- two orders that are both equal
pub both_equal : (p q : Ordering) → ordering_then p q ≡ Equal → (p ≡ Equal) × (q ≡ Equal)
both_equal p q h = then_equal p q h

pub same_number : (x y : ℕ) → nat_cmp x y ≡ Equal → x ≡ y
same_number x y h = ranked x y Equal (sym h)

-- lists of bytes that compare equal are the same
pub same_bytes : (xs ys : List ℕ) → bytes_cmp xs ys ≡ Equal → xs ≡ ys
same_bytes [] [] h = refl
same_bytes [] (y ∷ ys) h = cc
same_bytes (x ∷ xs) [] h = cc
same_bytes (x ∷ xs) (y ∷ ys) h =
    let both = then_equal (nat_cmp x y) (bytes_cmp xs ys) h in
    let first = same_number x y both.0 in
    let others = same_bytes xs ys both.1 in
    cc

pub in_at : {A : Type 0} (xs : List A) (j : ℕ) (d : A) → j < length xs → In (get_or xs j d) xs
in_at [] j d l = absurd (omega arith)
in_at (x ∷ xs) zero d l = inl refl
in_at (x ∷ xs) (suc j) d l = inr (in_at xs j d (omega arith))

-- places with the same key, where the keys differ, are the same
pub same_place : {A K : Type 0} (key : A → K) (xs : List A) (i j : ℕ) (d : A) → AreDistinct (map key xs) → i < length xs → j < length xs → key (get_or xs i d) ≡ key (get_or xs j d) → i ≡ j
same_place key [] i j d h l m e = absurd (omega arith)
same_place key (x ∷ xs) zero zero d h l m e = refl
same_place key (x ∷ xs) zero (suc j) d h l m e = absurd (h.0 (subst (λ k. In k (map key xs)) (sym e) (in_map_back key (get_or xs j d) xs (in_at xs j d (omega arith)))))
same_place key (x ∷ xs) (suc i) zero d h l m e = absurd (h.0 (subst (λ k. In k (map key xs)) e (in_map_back key (get_or xs i d) xs (in_at xs i d (omega arith)))))
same_place key (x ∷ xs) (suc i) (suc j) d h l m e = ap suc (same_place key xs i j d h.1 (omega arith) (omega arith) e)
