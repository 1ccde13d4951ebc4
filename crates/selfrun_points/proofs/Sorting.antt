-- Each list can be sorted.
use Rattle.std.proofs.Common.{◌≡◌, ◌∙◌, ◌+◌, zero, suc, Bool, true, false, List, [], ◌∷◌, get_or, refl, ap, subst, arith}
use Rattle.std.proofs.lemmas.Bool.{false≢true}
use Rattle.std.proofs.lemmas.List.Sorted.{IsPermutation-cons, IsPermutation-refl, IsPermutation-swap, IsPermutation-trans}
use Rattle.std.specs.Cmp.{IsTotalOrder}
use Rattle.std.specs.List.Sorted.{IsPermutation, IsSorted}
use Rattle.std.specs.Ordering.{is_lt, ordering_reverse}
use Rattle.std.specs.declared.cmp.Ordering.{Ordering}
use Rattle.std.specs.declared.cmp.Ordering.TheVariants.{Less, Equal, Greater}

turned : (r : Ordering) → is_lt r ≡ true → is_lt (ordering_reverse r) ≡ false
turned Less before = refl
turned Equal before = refl
turned Greater before = absurd (false≢true before)

module _ {X : Type 0} {R : X → X → Ordering} (o : IsTotalOrder R) where
  -- the first element of the list does not go before x
  abbrev Follows : X → List X → Type 0
  Follows x [] = Unit {0}
  Follows x (y ∷ ys) = is_lt (R y x) ≡ false

  abbrev Rises : List X → Type 0
  Rises [] = Unit {0}
  Rises (x ∷ xs) = Follows x xs × Rises xs

  -- the list with x in its place
  record Inserted (x : X) (xs : List X) : Type 0 where
    ys : List X
    moved : IsPermutation (x ∷ xs) ys
    rises : Rises xs → Rises ys
    first : (z : X) → is_lt (R x z) ≡ false → Follows z xs → Follows z ys

  not_before : (x y : X) → is_lt (R y x) ≡ true → is_lt (R x y) ≡ false
  not_before x y before = ap is_lt (o.antisymm x y) ∙ turned (R y x) before

  exchanged : (x y : X) (ys : List X) → IsPermutation (x ∷ y ∷ ys) (y ∷ x ∷ ys)
  exchanged x y ys = IsPermutation-swap (x ∷ y ∷ ys) (y ∷ x ∷ ys) 0 1 (omega arith) (omega arith) refl

  placed : (x y : X) (ys : List X) → Inserted x ys → (before : Bool) → is_lt (R y x) ≡ before → Inserted x (y ∷ ys)
  placed x y ys rest false is = record { ys = x ∷ y ∷ ys; moved = IsPermutation-refl (x ∷ y ∷ ys); rises = λ up. (is, up); first = λ z own other. own }
  placed x y ys rest true is = record {
    ys = y ∷ rest.ys;
    moved = IsPermutation-trans (x ∷ y ∷ ys) (y ∷ x ∷ ys) (y ∷ rest.ys) (exchanged x y ys) (IsPermutation-cons y (x ∷ ys) rest.ys rest.moved);
    rises = λ up. (rest.first y (not_before x y is) up.0, rest.rises up.1);
    first = λ z own other. other;
  }

  inserted : (x : X) (xs : List X) → Inserted x xs
  inserted x [] = record { ys = x ∷ []; moved = IsPermutation-refl (x ∷ []); rises = λ up. (tt, tt); first = λ z own other. own }
  inserted x (y ∷ ys) = placed x y ys (inserted x ys) (is_lt (R y x)) refl

  rises_sorted : (xs : List X) → Rises xs → IsSorted R xs
  rises_sorted [] up k d l m = absurd (omega (arith, m))
  rises_sorted (x ∷ []) up k d l m = absurd (omega (arith, m))
  rises_sorted (x ∷ y ∷ ys) up zero d l m = up.0
  rises_sorted (x ∷ y ∷ ys) up (suc k) d l m =
      let next : suc (k + 1) ≡ suc k + 1 = omega arith in
      subst (λ n. is_lt (R (get_or (x ∷ y ∷ ys) n d) (get_or (y ∷ ys) k d)) ≡ false) next (rises_sorted (y ∷ ys) up.1 k d (omega arith) (omega (arith, m)))

  -- the list in order
  record Ordered (xs : List X) : Type 0 where
    ys : List X
    moved : IsPermutation xs ys
    rises : Rises ys

  added : (x : X) (xs : List X) → Ordered xs → Ordered (x ∷ xs)
  added x xs rest =
      let all = inserted x rest.ys in
      record { ys = all.ys; moved = IsPermutation-trans (x ∷ xs) (x ∷ rest.ys) all.ys (IsPermutation-cons x xs rest.ys rest.moved) all.moved; rises = all.rises rest.rises }

  ordered : (xs : List X) → Ordered xs
  ordered [] = record { ys = []; moved = IsPermutation-refl []; rises = tt }
  ordered (x ∷ xs) = added x xs (ordered xs)

  -- a list with the same elements that is sorted
  pub record Sorting (xs : List X) : Type 0 where
    pub ys : List X
    pub moved : IsPermutation xs ys
    pub sorted : IsSorted R ys

  pub sorting : (xs : List X) → Sorting xs
  sorting xs = let all = ordered xs in record { ys = all.ys; moved = all.moved; sorted = rises_sorted all.ys all.rises }
