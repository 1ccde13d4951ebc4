-- Tests over lists, and the bits of a mask as a list.
use Rattle.std.proofs.Common.{◌≡◌, ℕ, zero, suc, ◌+◌, ◌-◌, ◌^◌, ◌<◌, ◌≤◌, ◌==◌, min, max, Bool, true, false, not, ◌||◌, ◌&&◌, ◌⊎◌, inl, inr, ⊎_elim, List, [], ◌∷◌, ◌++◌, refl, sym, ap, ◌∙◌, bit_and, bit_or, arith}
use Rattle.std.specs.Cmp.{both_ways}
use Rattle.std.specs.Int.{bit_at}
use Rattle.std.specs.List.{list_any, range_with_len}
use Rattle.std.proofs.lemmas.Bool.{false≢true, cases_lt}
use Rattle.std.proofs.lemmas.Bool.Decides.{nat_tests}
use Rattle.std.proofs.lemmas.List.Folds.{list_any-append}
use Rattle.std.proofs.lemmas.Nat.Bits.{bit_at_and, bit_at_or, bit_at-zero, bit_at-lt, same_from_bits, bit_at_mask_inside, bit_at_mask_below, bit_at_mask_above}
use borrow.Author.Tests.{eqb-true, eqb-false, eq-eqb}

pub or_false : (a : Bool) → (a || false) ≡ a
or_false true = refl
or_false false = refl

pub or_at_true : (r a b : Bool) → a ≡ true → r ≡ true → r ≡ (a || b)
or_at_true r a b e h = h ∙ ap (λ t. t || b) (sym e)

pub or_at_false : (r a b : Bool) → a ≡ false → r ≡ b → r ≡ (a || b)
or_at_false r a b e h = h ∙ ap (λ t. t || b) (sym e)

pub not_zero : (n : ℕ) → (n ≡ 0 → ⊥) → not (n == 0) ≡ true
not_zero n h = by (n == 0) refl
  where
    by : (b : Bool) → (n == 0) ≡ b → not b ≡ true
    by true e = absurd (h (eqb-true n 0 e))
    by false e = refl

or_middle : (a b c d : Bool) → ((a || b) || (c || d)) ≡ ((a || c) || (b || d))
or_middle true b c d = refl
or_middle false true true d = refl
or_middle false true false d = refl
or_middle false false c d = refl

pub any_same : {X : Type 0} (p q : X → Bool) → ((x : X) → p x ≡ q x) → (xs : List X) → list_any p xs ≡ list_any q xs
any_same {X} p q h xs = ap (λ (f : X → Bool). list_any f xs) (λ i x. h x i)

pub any_push : {X : Type 0} (p : X → Bool) (xs : List X) (x : X) → list_any p (xs ++ x ∷ []) ≡ (list_any p xs || p x)
any_push p xs x = list_any-append p xs (x ∷ []) ∙ ap (λ b. list_any p xs || b) (or_false (p x))

pub any_or : {X : Type 0} (p q : X → Bool) (xs : List X) → list_any (λ x. p x || q x) xs ≡ (list_any p xs || list_any q xs)
any_or p q [] = refl
any_or p q (x ∷ xs) = ap (λ b. (p x || q x) || b) (any_or p q xs) ∙ or_middle (p x) (q x) (list_any p xs) (list_any q xs)

any_nothing : {X : Type 0} (xs : List X) → list_any (λ (x : X). false) xs ≡ false
any_nothing [] = refl
any_nothing (x ∷ xs) = any_nothing xs

pub any_and : {X : Type 0} (a : Bool) (q : X → Bool) (xs : List X) → (a && list_any q xs) ≡ list_any (λ x. a && q x) xs
any_and true q xs = refl
any_and false q xs = sym (any_nothing xs)

pub any_swap : {X Y : Type 0} (f : X → Y → Bool) (xs : List X) (ys : List Y) → list_any (λ x. list_any (f x) ys) xs ≡ list_any (λ y. list_any (λ x. f x y) xs) ys
any_swap f [] ys = sym (any_nothing ys)
any_swap f (x ∷ xs) ys = ap (λ b. list_any (f x) ys || b) (any_swap f xs ys) ∙ sym (any_or (f x) (λ y. list_any (λ z. f z y) xs) ys)

pub eqb-comm : (x y : ℕ) → (x == y) ≡ (y == x)
eqb-comm x y = both_ways (x == y) (y == x) (λ e. eq-eqb y x (sym (eqb-true x y e))) (λ e. eq-eqb x y (sym (eqb-true y x e)))

-- ---- a run of numbers

pub run-inside : (k low n : ℕ) → low ≤ k → k < low + n → list_any (λ x. k == x) (range_with_len low n) ≡ true
run-inside k low zero h g = absurd (omega arith)
run-inside k low (suc n) h g = by (k == low) refl (run-inside k (low + 1) n)
  where
    by : (b : Bool) → (k == low) ≡ b → (low + 1 ≤ k → k < low + 1 + n → list_any (λ x. k == x) (range_with_len (low + 1) n) ≡ true) → (b || list_any (λ x. k == x) (range_with_len (low + 1) n)) ≡ true
    by true e others = refl
    by false e others = let apart = eqb-false k low e in others (omega arith) (omega arith)

pub run-outside : (k low n : ℕ) → (k < low) ⊎ (low + n ≤ k) → list_any (λ x. k == x) (range_with_len low n) ≡ false
run-outside k low zero h = refl
run-outside k low (suc n) h = by (k == low) refl (run-outside k (low + 1) n)
  where
    by : (b : Bool) → (k == low) ≡ b → ((k < low + 1) ⊎ (low + 1 + n ≤ k) → list_any (λ x. k == x) (range_with_len (low + 1) n) ≡ false) → (b || list_any (λ x. k == x) (range_with_len (low + 1) n)) ≡ false
    by true e others = let same = eqb-true k low e in absurd (⊎_elim (λ l. omega arith) (λ l. omega arith) h)
    by false e others = others (⊎_elim (λ l. inl (omega arith)) (λ l. inr (omega arith)) h)

any_run-true : (p : ℕ → Bool) (low n : ℕ) → list_any p (range_with_len low n) ≡ true → (k : ℕ) × (low ≤ k) × (k < low + n) × (p k ≡ true)
any_run-true p low zero e = absurd (false≢true e)
any_run-true p low (suc n) e = by (p low) refl e (any_run-true p (low + 1) n)
  where
    by : (b : Bool) → p low ≡ b → (b || list_any p (range_with_len (low + 1) n)) ≡ true → (list_any p (range_with_len (low + 1) n) ≡ true → (k : ℕ) × (low + 1 ≤ k) × (k < low + 1 + n) × (p k ≡ true)) → (k : ℕ) × (low ≤ k) × (k < low + suc n) × (p k ≡ true)
    by true h e others = (low, omega arith, omega arith, h)
    by false h e others = let w = others e in (w.0, omega (arith, w.1), omega (arith, w.2), w.3)

any_run-false : (p : ℕ → Bool) (low n : ℕ) → list_any p (range_with_len low n) ≡ false → (k : ℕ) → low ≤ k → k < low + n → p k ≡ false
any_run-false p low zero e k l h = absurd (omega arith)
any_run-false p low (suc n) e k l h = by (p low) refl e (any_run-false p (low + 1) n)
  where
    by : (b : Bool) → p low ≡ b → (b || list_any p (range_with_len (low + 1) n)) ≡ false → (list_any p (range_with_len (low + 1) n) ≡ false → (k : ℕ) → low + 1 ≤ k → k < low + 1 + n → p k ≡ false) → p k ≡ false
    by true f e others = absurd (false≢true (sym e))
    by false f e others = ⊎_elim (λ above. others e k (omega arith) (omega arith)) (λ not_above. let same : k ≡ low = omega arith in ap p same ∙ f) (cases_lt low k)

-- ---- the mask of a run of bits

pub mask-run : (k low n : ℕ) → (bit_at (2 ^ (low + n) - 2 ^ low) k == 1) ≡ list_any (λ x. k == x) (range_with_len low n)
mask-run k low n =
    ⊎_elim
    (λ below. ap (λ b. b == 1) (bit_at_mask_below low (low + n) k below) ∙ sym (run-outside k low n (inl below)))
    (λ from. ⊎_elim
    (λ under. ap (λ b. b == 1) (bit_at_mask_inside low (low + n) k from under) ∙ sym (run-inside k low n from under))
    (λ above. ap (λ b. b == 1) (bit_at_mask_above low (low + n) k above) ∙ sym (run-outside k low n (inr above)))
    (cases_lt k (low + n)))
    (cases_lt k low)

max-one : (a b : ℕ) → a < 2 → b < 2 → (max a b == 1) ≡ ((a == 1) || (b == 1))
max-one a b l h = grind (arith, nat_tests)

pub bit_or-test : (a b k : ℕ) → (bit_at (bit_or a b) k == 1) ≡ ((bit_at a k == 1) || (bit_at b k == 1))
bit_or-test a b k = ap (λ n. n == 1) (bit_at_or a b k) ∙ max-one (bit_at a k) (bit_at b k) (bit_at-lt a k) (bit_at-lt b k)

-- two numbers have a bit in common with a run
pub mask-meets : (d low n : ℕ) → not (bit_and d (2 ^ (low + n) - 2 ^ low) == 0) ≡ list_any (λ k. bit_at d k == 1) (range_with_len low n)
mask-meets d low n = by (list_any (λ k. bit_at d k == 1) (range_with_len low n)) refl
  where
    by : (b : Bool) → list_any (λ k. bit_at d k == 1) (range_with_len low n) ≡ b → not (bit_and d (2 ^ (low + n) - 2 ^ low) == 0) ≡ b
    by true e =
        let w = any_run-true (λ k. bit_at d k == 1) low n e in
        let one : bit_at (bit_and d (2 ^ (low + n) - 2 ^ low)) w.0 ≡ 1 = bit_at_and d (2 ^ (low + n) - 2 ^ low) w.0 ∙ ap (λ b. min b (bit_at (2 ^ (low + n) - 2 ^ low) w.0)) (eqb-true (bit_at d w.0) 1 w.3) ∙ ap (λ b. min 1 b) (bit_at_mask_inside low (low + n) w.0 w.1 w.2) in
        other (bit_and d (2 ^ (low + n) - 2 ^ low) == 0) (λ zero. let z = eqb-true (bit_and d (2 ^ (low + n) - 2 ^ low)) 0 zero in let none = ap (λ m. bit_at m w.0) z ∙ bit_at-zero w.0 in absurd (omega arith))
      where
        other : (t : Bool) → (t ≡ true → ⊥) → not t ≡ true
        other true h = absurd (h refl)
        other false h = refl
    by false e =
        let empty = any_run-false (λ k. bit_at d k == 1) low n e in
        let bits = λ (i : ℕ). bit_at_and d (2 ^ (low + n) - 2 ^ low) i ∙ both i (empty i) ∙ sym (bit_at-zero i) in
        ap not (eq-eqb _ 0 (same_from_bits (bit_and d (2 ^ (low + n) - 2 ^ low)) 0 bits))
      where
        both : (i : ℕ) → (low ≤ i → i < low + n → (bit_at d i == 1) ≡ false) → min (bit_at d i) (bit_at (2 ^ (low + n) - 2 ^ low) i) ≡ 0
        both i empty =
            ⊎_elim
            (λ below. let z = bit_at_mask_below low (low + n) i below in omega arith)
            (λ from. ⊎_elim
            (λ under. let apart = eqb-false (bit_at d i) 1 (empty from under) in let small = bit_at-lt d i in omega arith)
            (λ above. let z = bit_at_mask_above low (low + n) i above in omega arith)
            (cases_lt i (low + n)))
            (cases_lt i low)
