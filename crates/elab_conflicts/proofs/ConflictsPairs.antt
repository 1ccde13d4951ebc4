-- For each two elements of a list that are at odds the later of their names, and the first of all these names: it does not
-- depend on the order of the list, and in a list whose names rise it is the name of the first element that is at odds with
-- an earlier one.
use Rattle.std.proofs.Common.{◌≡◌, ℕ, suc, ◌+◌, ◌<◌, nat_lt, Bool, true, false, not, ◌||◌, ◌&&◌, if◌then◌else◌, List, [], ◌∷◌, ◌++◌, length, get_or, flat_map, Option, Some, None, refl, sym, ap, ◌∙◌, zero-add, arith}
use Rattle.std.specs.Cmp.{IsStrictWeakOrder}
use Rattle.std.specs.List.{list_any, sum_by}
use Rattle.std.specs.List.Sorted.{IsPermutation}
use Rattle.std.proofs.lemmas.Bool.{false≢true}
use Rattle.std.proofs.lemmas.Bool.Decides.{nat_tests}
use Rattle.std.proofs.lemmas.List.Folds.{list_any-append}
use Rattle.std.proofs.lemmas.List.Sums.{sum_by-cons, sum_by-append}
use Rattle.std.proofs.lemmas.List.Sorted.{sum_by-IsPermutation}
use Rattle.elab_conflicts.proofs.ConflictsLists.{or_false}

abbrev bit : Bool → ℕ
bit true = 1
bit false = 0

or_assoc : (a b c : Bool) → ((a || b) || c) ≡ (a || (b || c))
or_assoc true b c = refl
or_assoc false b c = refl

absorb_left : (a b : Bool) → (a ≡ false → b ≡ false) → not b ≡ (not a || not b)
absorb_left true b h = refl
absorb_left false b h = ap not (h refl)

absorb_right : (a b : Bool) → (b ≡ false → a ≡ false) → not a ≡ (not a || not b)
absorb_right false b h = refl
absorb_right true true h = refl
absorb_right true false h = absurd (false≢true (sym (h refl)))

not_true : (a : Bool) → not a ≡ true → a ≡ false
not_true false e = refl
not_true true e = absurd (false≢true e)

absorbed : (a b : Bool) → (a ≡ true → b ≡ true) → (a || b) ≡ b
absorbed false b h = refl
absorbed true b h = sym (h refl)

or_and : (a b : Bool) → (a || (b && a)) ≡ a
or_and true b = refl
or_and false true = refl
or_and false false = refl

or_true : (a b : Bool) (C : Type 0) → (a || b) ≡ true → (a ≡ true → C) → (b ≡ true → C) → C
or_true true b C e f g = f refl
or_true false b C e f g = g e

any_bits : {X : Type 0} (p : X → Bool) (xs : List X) → nat_lt 0 (sum_by (λ x. bit (p x)) xs) ≡ list_any p xs
any_bits p [] = refl
any_bits {X} p (x ∷ xs) = ap (nat_lt 0) (sum_by-cons (λ (x : X). bit (p x)) x xs) ∙ by (any_bits p xs) (p x)
  where
    by : nat_lt 0 (sum_by (λ (x : X). bit (p x)) xs) ≡ list_any p xs → (b : Bool) → nat_lt 0 (bit b + sum_by (λ (x : X). bit (p x)) xs) ≡ (b || list_any p xs)
    by e true = grind (arith, nat_tests)
    by e false = ap (nat_lt 0) (zero-add (sum_by (λ (x : X). bit (p x)) xs)) ∙ e

sum_by-plus : {X : Type 0} (f g : X → ℕ) (xs : List X) → sum_by (λ x. f x + g x) xs ≡ sum_by f xs + sum_by g xs
sum_by-plus f g [] = refl
sum_by-plus {X} f g (x ∷ xs) = omega (arith, sum_by-plus f g xs, sum_by-cons (λ (x : X). f x + g x) x xs, sum_by-cons f x xs, sum_by-cons g x xs)

module _ {X : Type 0} (lt : X → X → Bool) where
  abbrev pub later : X → X → X
  later x y = if lt x y then y else x

  abbrev pub earlier : X → X → X
  earlier x y = if lt y x then y else x

  abbrev pub first : X → List X → X
  first x [] = x
  first x (y ∷ ys) = first (earlier x y) ys

  abbrev pub first_in : List X → Option X
  first_in [] = None
  first_in (x ∷ xs) = Some (first x xs)

  -- some name of the list does not come after z
  abbrev pub reached : X → List X → Bool
  reached z = list_any (λ y. not (lt z y))

  module _ {W : Type 0} (name : W → X) (odds : W → W → Bool) where
    abbrev pub row : W → List W → List X
    row a bs = flat_map (λ b. if odds a b then later (name a) (name b) ∷ [] else []) bs

    abbrev pub pairs : List W → List X
    pairs [] = []
    pairs (a ∷ bs) = row a bs ++ pairs bs

  module _ (o : IsStrictWeakOrder lt) (one : (x y : X) → lt x y ≡ false → lt y x ≡ false → x ≡ y) where
    irreflexive : (x : X) → lt x x ≡ false
    irreflexive x = by (lt x x) refl
      where
        by : (b : Bool) → lt x x ≡ b → lt x x ≡ false
        by false e = e
        by true e = o.one_way x x e

    later-ge : (x y : X) → lt (later x y) x ≡ false
    later-ge x y = by (lt x y) refl
      where
        by : (b : Bool) → lt x y ≡ b → lt (if b then y else x) x ≡ false
        by true e = o.one_way x y e
        by false e = irreflexive x

    later-at : (x y : X) → lt x y ≡ false → later x y ≡ x
    later-at x y e = ap (λ b. if b then y else x) e

    later-comm : (x y : X) → later x y ≡ later y x
    later-comm x y = by (lt x y) (lt y x) refl refl
      where
        by : (b c : Bool) → lt x y ≡ b → lt y x ≡ c → (if b then y else x) ≡ (if c then x else y)
        by true true e f = absurd (false≢true (sym (o.one_way x y e) ∙ f))
        by true false e f = refl
        by false true e f = refl
        by false false e f = one x y e f

    earlier-reached : (z x y : X) → not (lt z (earlier x y)) ≡ (not (lt z x) || not (lt z y))
    earlier-reached z x y = by (lt y x) refl
      where
        by : (b : Bool) → lt y x ≡ b → not (lt z (if b then y else x)) ≡ (not (lt z x) || not (lt z y))
        by true e = absorb_left (lt z x) (lt z y) (λ h. o.chain z x y h (o.one_way y x e))
        by false e = absorb_right (lt z x) (lt z y) (λ h. o.chain z y x h e)

    reached-first : (z x : X) (xs : List X) → reached z (x ∷ xs) ≡ not (lt z (first x xs))
    reached-first z x [] = or_false _
    reached-first z x (y ∷ ys) =
        sym (or_assoc (not (lt z x)) (not (lt z y)) (reached z ys)) ∙ ap (λ b. b || reached z ys) (sym (earlier-reached z x y)) ∙ reached-first z (earlier x y) ys

    first_in-same : (xs ys : List X) → ((z : X) → reached z xs ≡ reached z ys) → first_in xs ≡ first_in ys
    first_in-same [] [] h = refl
    first_in-same [] (y ∷ ys) h = absurd (false≢true (h (first y ys) ∙ reached-first (first y ys) y ys ∙ ap not (irreflexive (first y ys))))
    first_in-same (x ∷ xs) [] h = absurd (false≢true (sym (h (first x xs)) ∙ reached-first (first x xs) x xs ∙ ap not (irreflexive (first x xs))))
    first_in-same (x ∷ xs) (y ∷ ys) h =
        let a = first x xs in let b = first y ys in
        let same = λ (z : X). sym (reached-first z x xs) ∙ h z ∙ reached-first z y ys in
        ap Some (one a b (not_true _ (sym (same a) ∙ ap not (irreflexive a))) (not_true _ (same b ∙ ap not (irreflexive b))))

    reached-at : (z x : X) (xs : List X) → first_in xs ≡ Some x → reached z xs ≡ not (lt z x)
    reached-at z x [] e = absurd (cc)
    reached-at z x (y ∷ ys) e = let same : first y ys ≡ x = cc in reached-first z y ys ∙ ap (λ w. not (lt z w)) same

    nothing-first : (xs : List X) → first_in xs ≡ None → xs ≡ []
    nothing-first [] e = refl
    nothing-first (x ∷ xs) e = absurd (cc)

    module _ {W : Type 0} (name : W → X) (odds : W → W → Bool) where
      abbrev cost : X → W → W → ℕ
      cost z a b = if odds a b then bit (not (lt z (later (name a) (name b)))) else 0

      abbrev hits : X → List X → ℕ
      hits z xs = sum_by (λ y. bit (not (lt z y))) xs

      hits-row : (z : X) (a : W) (bs : List W) → hits z (row name odds a bs) ≡ sum_by (cost z a) bs
      hits-row z a [] = refl
      hits-row z a (b ∷ bs) =
          sum_by-append (λ y. bit (not (lt z y))) (if odds a b then later (name a) (name b) ∷ [] else []) (row name odds a bs) ∙ by (hits-row z a bs) (odds a b) ∙ sym (sum_by-cons (cost z a) b bs)
        where
          by : hits z (row name odds a bs) ≡ sum_by (cost z a) bs → (t : Bool) → sum_by (λ y. bit (not (lt z y))) (if t then later (name a) (name b) ∷ [] else []) + hits z (row name odds a bs) ≡ (if t then bit (not (lt z (later (name a) (name b)))) else 0) + sum_by (cost z a) bs
          by e true = omega (arith, e, sum_by-cons (λ y. bit (not (lt z y))) (later (name a) (name b)) [])
          by e false = omega (arith, e)

      hits-pairs : (z : X) (a : W) (bs : List W) → hits z (pairs name odds (a ∷ bs)) ≡ sum_by (cost z a) bs + hits z (pairs name odds bs)
      hits-pairs z a bs = sum_by-append (λ y. bit (not (lt z y))) (row name odds a bs) (pairs name odds bs) ∙ ap (λ n. n + hits z (pairs name odds bs)) (hits-row z a bs)

      reached-append : (z : X) (xs ys : List X) → reached z (xs ++ ys) ≡ (reached z xs || reached z ys)
      reached-append z xs ys = list_any-append (λ y. not (lt z y)) xs ys

      -- what the names of a row are
      row-ge : (z : X) (a : W) (bs : List W) → reached z (row name odds a bs) ≡ true → lt z (name a) ≡ false
      row-ge z a [] e = absurd (false≢true e)
      row-ge z a (b ∷ bs) e = by (row-ge z a bs) (odds a b) e
        where
          by : (reached z (row name odds a bs) ≡ true → lt z (name a) ≡ false) → (t : Bool) → reached z ((if t then later (name a) (name b) ∷ [] else []) ++ row name odds a bs) ≡ true → lt z (name a) ≡ false
          by others false e = others e
          by others true e = or_true _ _ _ e (λ h. o.chain z (later (name a) (name b)) (name a) (not_true _ h) (later-ge (name a) (name b))) others

      -- an element whose name does not come before the first name changes nothing
      pub stays : (x : X) (a : W) (bs : List W) → first_in (pairs name odds bs) ≡ Some x → lt (name a) x ≡ false → first_in (pairs name odds (a ∷ bs)) ≡ Some x
      stays x a bs e h = first_in-same (pairs name odds (a ∷ bs)) (x ∷ []) (λ z.
          reached-append z (row name odds a bs) (pairs name odds bs)
          ∙ ap (λ t. reached z (row name odds a bs) || t) (reached-at z x (pairs name odds bs) e)
          ∙ absorbed _ _ (λ r. ap not (o.chain z (name a) x (row-ge z a bs r) h))
          ∙ sym (or_false _))

      pub all_stay : (x : X) (cs bs : List W) → first_in (pairs name odds bs) ≡ Some x → ((k : ℕ) (d : W) → k < length cs → lt (name (get_or cs k d)) x ≡ false) → first_in (pairs name odds (cs ++ bs)) ≡ Some x
      all_stay x [] bs e h = e
      all_stay x (a ∷ cs) bs e h = stays x a (cs ++ bs) (all_stay x cs bs e (λ k d l. h (suc k) d (omega arith))) (h 0 a (omega arith))

      row-hit : (z : X) (a : W) (bs : List W) → ((k : ℕ) (d : W) → k < length bs → lt (name a) (name (get_or bs k d)) ≡ false) → reached z (row name odds a bs) ≡ (list_any (odds a) bs && not (lt z (name a)))
      row-hit z a [] h = refl
      row-hit z a (b ∷ bs) h = by (row-hit z a bs (λ k d l. h (suc k) d (omega arith))) (odds a b)
        where
          by : reached z (row name odds a bs) ≡ (list_any (odds a) bs && not (lt z (name a))) → (t : Bool) → reached z ((if t then later (name a) (name b) ∷ [] else []) ++ row name odds a bs) ≡ ((t || list_any (odds a) bs) && not (lt z (name a)))
          by rest false = rest
          by rest true =
              ap (λ y. not (lt z y) || reached z (row name odds a bs)) (later-at (name a) (name b) (h 0 b (omega arith)))
              ∙ ap (λ t. not (lt z (name a)) || t) rest ∙ or_and (not (lt z (name a))) (list_any (odds a) bs)

      -- the names before it do not come after its own, and it is at odds with one of them
      pub hit : (a : W) (bs : List W) → first_in (pairs name odds bs) ≡ None → list_any (odds a) bs ≡ true → ((k : ℕ) (d : W) → k < length bs → lt (name a) (name (get_or bs k d)) ≡ false) → first_in (pairs name odds (a ∷ bs)) ≡ Some (name a)
      hit a bs e h up = first_in-same (pairs name odds (a ∷ bs)) (name a ∷ []) (λ z.
          ap (λ xs. reached z (row name odds a bs ++ xs)) (nothing-first (pairs name odds bs) e)
          ∙ reached-append z (row name odds a bs) [] ∙ or_false _ ∙ row-hit z a bs up ∙ ap (λ t. t && not (lt z (name a))) h ∙ sym (or_false _))

      row-miss : (a : W) (bs : List W) → list_any (odds a) bs ≡ false → row name odds a bs ≡ []
      row-miss a [] h = refl
      row-miss a (b ∷ bs) h = by (row-miss a bs) (odds a b) h
        where
          by : (list_any (odds a) bs ≡ false → row name odds a bs ≡ []) → (t : Bool) → (t || list_any (odds a) bs) ≡ false → (if t then later (name a) (name b) ∷ [] else []) ++ row name odds a bs ≡ []
          by others true e = absurd (false≢true (sym e))
          by others false e = others e

      pub miss : (a : W) (bs : List W) → first_in (pairs name odds bs) ≡ None → list_any (odds a) bs ≡ false → first_in (pairs name odds (a ∷ bs)) ≡ None
      miss a bs e h = ap (λ xs. first_in (xs ++ pairs name odds bs)) (row-miss a bs h) ∙ e

      module _ (swaps : (a b : W) → odds a b ≡ odds b a) where
        cost-comm : (z : X) (a b : W) → cost z a b ≡ cost z b a
        cost-comm z a b = ap (λ t. if t then bit (not (lt z (later (name a) (name b)))) else 0) (swaps a b) ∙ ap (λ y. if odds b a then bit (not (lt z y)) else 0) (later-comm (name a) (name b))

        abbrev all : X → List W → List W → ℕ
        all z cs bs = sum_by (λ a. sum_by (cost z a) bs) cs

        all-cons : (z : X) (cs : List W) (b : W) (bs : List W) → all z cs (b ∷ bs) ≡ sum_by (cost z b) cs + all z cs bs
        all-cons z cs b bs =
            ap (λ (f : W → ℕ). sum_by f cs) (λ i a. (sum_by-cons (cost z a) b bs ∙ ap (λ n. n + sum_by (cost z a) bs) (cost-comm z a b)) i)
            ∙ sum_by-plus (cost z b) (λ a. sum_by (cost z a) bs) cs

        all-pairs : (z : X) (cs : List W) → all z cs cs ≡ sum_by (λ a. cost z a a) cs + (hits z (pairs name odds cs) + hits z (pairs name odds cs))
        all-pairs z [] = refl
        all-pairs z (a ∷ cs) =
            omega (arith, all-pairs z cs, sum_by-cons (λ b. sum_by (cost z b) (a ∷ cs)) a cs, sum_by-cons (cost z a) a cs, all-cons z cs a cs, sum_by-cons (λ b. cost z b b) a cs, hits-pairs z a cs)

        hits-permutation : (z : X) (cs bs : List W) → IsPermutation cs bs → hits z (pairs name odds cs) ≡ hits z (pairs name odds bs)
        hits-permutation z cs bs h =
            let inner : all z bs bs ≡ all z bs cs = ap (λ (f : W → ℕ). sum_by f bs) (λ i a. sum_by-IsPermutation (cost z a) cs bs h i) in
            let outer : all z bs cs ≡ all z cs cs = sum_by-IsPermutation (λ a. sum_by (cost z a) cs) cs bs h in
            omega (arith, inner, outer, all-pairs z cs, all-pairs z bs, sum_by-IsPermutation (λ a. cost z a a) cs bs h)

        -- the first name does not depend on the order of the elements
        pub first_in-permutation : (cs bs : List W) → IsPermutation cs bs → first_in (pairs name odds cs) ≡ first_in (pairs name odds bs)
        first_in-permutation cs bs h = first_in-same (pairs name odds cs) (pairs name odds bs) (λ z.
            sym (any_bits (λ y. not (lt z y)) (pairs name odds cs)) ∙ ap (nat_lt 0) (hits-permutation z cs bs h) ∙ any_bits (λ y. not (lt z y)) (pairs name odds bs))
