-- Instances in rising order of their paths, and the search for a path.
use Rattle.std.proofs.Common.{◌≡◌, ◌≢◌, ℕ, zero, suc, ◌+◌, ◌<◌, ◌≤◌, true, false, List, [], ◌∷◌, length, get_or, Some, None, Result, Ok, Err, refl, sym, ap, ◌∙◌, inl, inr, arith}
use Rattle.std.specs.Prelude.{bytes_eq, MatchResult}
use Rattle.std.specs.declared.cmp.Ordering.{Ordering}
use Rattle.std.specs.declared.cmp.Ordering.TheVariants.{Less, Equal, Greater}
use Rattle.std.specs.List.Sorted.{IsBinarySearchResult, IsNonDecreasingBy}
use Rattle.std.specs.Ordering.{ordering_index, ordering_reverse}
use Rattle.std.specs.Result.{result_ok}
use Rattle.std.proofs.lemmas.Bool.{cases_Bool, cases_lt}
use Rattle.std.proofs.lemmas.Cmp.{nat_list_cmp_total, tied_itself}
use Rattle.std.proofs.lemmas.Map.Lookups.{exact_bytes}
use Rattle.std.proofs.lemmas.Slice.Eq.{bytes_eq-Decides}
use Rattle.coverage_db.specs.Order.{bytes_cmp}
use Rattle.coverage_db.specs.Reading.{instance_of}
use Rattle.coverage_db.specs.Table.{Rises}
use Rattle.coverage_db.specs.declared.db.DbInstance.{DbInstance}

abbrev pub by_path : DbInstance → DbInstance → Ordering
by_path a b = bytes_cmp a.path b.path

pub rises_tail : {X : Type 0} (cmp : X → X → Ordering) (x : X) (xs : List X) → Rises cmp (x ∷ xs) → Rises cmp xs
rises_tail cmp x [] r = tt
rises_tail cmp x (y ∷ xs) r = r.1

-- the first comes before each other one
rises_head : (x : DbInstance) (xs : List DbInstance) (k : ℕ) (d : DbInstance) → Rises by_path (x ∷ xs) → k < length xs → by_path x (get_or xs k d) ≡ Less
rises_head x [] k d r within = absurd (omega arith)
rises_head x (y ∷ xs) zero d r within = r.0
rises_head x (y ∷ xs) (suc k) d r within = nat_list_cmp_total.trans x.path y.path (get_or xs k d).path r.0 (rises_head y xs k d r.1 (omega arith))

-- what comes after something that is not less is greater
behind_is_greater : (x y p : List ℕ) (o : Ordering) → bytes_cmp x y ≡ Less → bytes_cmp x p ≡ o → ordering_index o ≤ ordering_index (bytes_cmp y p)
behind_is_greater x y p Less less e = omega arith
behind_is_greater x y p Equal less e =
    let before : bytes_cmp p y ≡ Less = sym (nat_list_cmp_total.congr x p y e) ∙ less in
    let after : bytes_cmp y p ≡ Greater = nat_list_cmp_total.antisymm y p ∙ ap ordering_reverse before in
    rw after (omega arith)
behind_is_greater x y p Greater less e =
    let first : bytes_cmp p x ≡ Less = nat_list_cmp_total.antisymm p x ∙ ap ordering_reverse e in
    let before : bytes_cmp p y ≡ Less = nat_list_cmp_total.trans p x y first less in
    let after : bytes_cmp y p ≡ Greater = nat_list_cmp_total.antisymm y p ∙ ap ordering_reverse before in
    rw after (omega arith)

index_rises : (instances : List DbInstance) (p : List ℕ) → Rises by_path instances → IsNonDecreasingBy (λ i. ordering_index (bytes_cmp i.path p)) instances
index_rises [] p r i j d up within = absurd (omega arith)
index_rises (x ∷ xs) p r zero zero d up within = omega arith
index_rises (x ∷ xs) p r zero (suc j) d up within = behind_is_greater x.path (get_or xs j d).path p (bytes_cmp x.path p) (rises_head x xs j d r (omega arith)) refl
index_rises (x ∷ xs) p r (suc i) zero d up within = absurd (omega arith)
index_rises (x ∷ xs) p r (suc i) (suc j) d up within = index_rises xs p (rises_tail by_path x xs r) i j d (omega arith) (omega arith)

pub other_path : (a b : List ℕ) → bytes_cmp a b ≢ Equal → bytes_eq a b ≡ false
other_path a b ne =
    elim (cases_Bool (bytes_eq a b)) [
      | inl same ↦ absurd (let is : a ≡ b = (bytes_eq-Decides a b).0 same in ne (rw is (tied_itself nat_list_cmp_total b)))
      | inr other ↦ other
    ]

pub same_path : (a b : List ℕ) → a ≡ b → bytes_eq a b ≡ true
same_path a b same = (bytes_eq-Decides a b).1 same

pub instance_none : (instances : List DbInstance) (p : List ℕ) → ((k : ℕ) (d : DbInstance) → k < length instances → bytes_cmp (get_or instances k d).path p ≢ Equal) → instance_of instances p ≡ None
instance_none [] p each = refl
instance_none (x ∷ xs) p each =
    rw (other_path x.path p (each 0 x (omega arith)), instance_none xs p (λ k d within. each (suc k) d (omega arith))) refl

pub instance_found : (instances : List DbInstance) (p : List ℕ) (i : ℕ) (d : DbInstance) → Rises by_path instances → i < length instances → (get_or instances i d).path ≡ p → instance_of instances p ≡ Some i
instance_found [] p i d r within is = absurd (omega arith)
instance_found (x ∷ xs) p zero d r within is = rw (same_path x.path p is) refl
instance_found (x ∷ xs) p (suc i) d r within is =
    let before : bytes_cmp x.path p ≡ Less = ap (bytes_cmp x.path) (sym is) ∙ rises_head x xs i d r (omega arith) in
    let more : i + 1 ≡ suc i = omega arith in
    rw (other_path x.path p (λ e. let bad : Less ≡ Equal = sym before ∙ e in cc), instance_found xs p i d (rises_tail by_path x xs r) (omega arith) is, more) refl

some_instance : (instances : List DbInstance) (i : ℕ) → i < length instances → DbInstance
some_instance [] i within = absurd (omega arith)
some_instance (x ∷ xs) i within = x

pub searched : (instances : List DbInstance) (p : List ℕ) (r : Result ℕ ℕ) → Rises by_path instances → MatchResult r (λ i. i < length instances) (λ i. i ≤ length instances) → IsBinarySearchResult (λ i. bytes_cmp i.path p) instances r
    → result_ok r ≡ instance_of instances p
searched instances p (Ok i) r within found =
    let d = some_instance instances i within in
    sym (instance_found instances p i d r within (exact_bytes (get_or instances i d).path p (found d)))
searched instances p (Err i) r within parts =
    let both = parts (index_rises instances p r) in
    sym (instance_none instances p (λ k d inside e.
    elim (cases_lt k i) [
      | inl low ↦ let bad : Less ≡ Equal = sym (both.0 k d (omega arith) low) ∙ e in cc
      | inr high ↦ let bad : Greater ≡ Equal = sym (both.1 k d high inside) ∙ e in cc
    ]))
