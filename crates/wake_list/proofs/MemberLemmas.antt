-- Lists of processes without repetition.
use Rattle.std.proofs.Common.{◌≡◌, ◌⊎◌, ⊎_elim, ◌∙◌, ℕ, ◌<◌, ◌≤◌, true, false, eqb, List, [], ◌∷◌, ◌++◌, length, refl, sym, subst}
use Rattle.std.specs.List.{AllByRecursion, IsDistinct}
use Rattle.std.proofs.lemmas.Bool.{both_ways, cases_Bool, eq-eqb, eqb-true, or_cases, or_from, or_left, or_parts, or_right, true≢false}
use Rattle.std.proofs.lemmas.List.Folds.{list_any-append}
use Rattle.std.proofs.lemmas.Map.Steps.{length-le_from_distinct_below}
use Rattle.wake_list.specs.Members.{IsOnce, has}

-- what is in two lists, one after the other
pub has_left : (p : ℕ) (xs ys : List ℕ) → has p xs ≡ true → has p (xs ++ ys) ≡ true
has_left p xs ys h = list_any-append (eqb p) xs ys ∙ or_left (has p xs) (has p ys) h

pub has_right : (p : ℕ) (xs ys : List ℕ) → has p ys ≡ true → has p (xs ++ ys) ≡ true
has_right p xs ys h = list_any-append (eqb p) xs ys ∙ or_right (has p xs) (has p ys) h

pub has_either : (p : ℕ) (xs ys : List ℕ) → has p (xs ++ ys) ≡ true → (has p xs ≡ true) ⊎ (has p ys ≡ true)
has_either p xs ys h = or_cases (has p xs) (has p ys) (sym (list_any-append (eqb p) xs ys) ∙ h)

pub has_neither : (p : ℕ) (xs ys : List ℕ) → has p xs ≡ false → has p ys ≡ false → has p (xs ++ ys) ≡ false
has_neither p xs ys h k = list_any-append (eqb p) xs ys ∙ or_from (has p xs) (has p ys) h k

-- the first of a list
pub has_first : (p : ℕ) (ps : List ℕ) → has p (p ∷ ps) ≡ true
has_first p ps = or_left (eqb p p) (has p ps) (eq-eqb p p refl)

pub has_one : (p q : ℕ) → has p (q ∷ []) ≡ true → p ≡ q
has_one p q h = ⊎_elim (λ e. eqb-true p q e) (λ f. absurd (true≢false (sym f))) (or_cases (eqb p q) false h)

pub has_rest : (p q : ℕ) (ps : List ℕ) → has p (q ∷ ps) ≡ true → (p ≡ q → ⊥) → has p ps ≡ true
has_rest p q ps h ne = ⊎_elim (λ e. absurd (ne (eqb-true p q e))) (λ r. r) (or_cases (eqb p q) (has p ps) h)

-- apart, and without repetition
pub once_both : (xs ys : List ℕ) → IsOnce xs → IsOnce ys → ((p : ℕ) → has p xs ≡ true → has p ys ≡ true → ⊥) → IsOnce (xs ++ ys)
once_both [] ys h k apart = k
once_both (x ∷ xs) ys h k apart =
    let not_later : has x ys ≡ false = ⊎_elim (λ t. absurd (apart x (has_first x xs) t)) (λ f. f) (cases_Bool (has x ys)) in
    (has_neither x xs ys h.0 not_later, once_both xs ys h.1 k (λ p a b. apart p (or_right (eqb p x) (has p xs) a) b))

pub once_more : (p : ℕ) (xs : List ℕ) → IsOnce xs → has p xs ≡ false → IsOnce (xs ++ p ∷ [])
once_more p xs h new = once_both xs (p ∷ []) h (refl, tt) (λ q a b. both_ways (has p xs) new (subst (λ n. has n xs ≡ true) (has_one q p b) a))

apart_all : (p : ℕ) (xs : List ℕ) → has p xs ≡ false → AllByRecursion (λ y. eqb p y ≡ false) xs
apart_all p [] h = tt
apart_all p (x ∷ xs) h = let parts = or_parts (eqb p x) (has p xs) h in (parts.0, apart_all p xs parts.1)

distinct : (xs : List ℕ) → IsOnce xs → IsDistinct eqb xs
unfolding IsDistinct
distinct [] h = tt
distinct (x ∷ xs) h = (apart_all x xs h.0, distinct xs h.1)

-- numbers below n are at most n
pub once_few : (xs : List ℕ) (n : ℕ) → IsOnce xs → ((q : ℕ) → has q xs ≡ true → q < n) → length xs ≤ n
once_few xs n h below = length-le_from_distinct_below xs n (distinct xs h) below
