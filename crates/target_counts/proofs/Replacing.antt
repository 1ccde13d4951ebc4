-- The counts of things one after another are replaced.
use Rattle.std.proofs.Common.{◌≡◌, ◌∙◌, ◌⊎◌, inl, inr, ℕ, ◌<◌, Bool, true, false, cond, ◌==◌, ◌&&◌, ◌||◌, ◌+◌, ◌≤◌, List, [], ◌∷◌, length, drop, get_or, set, refl, sym, ap, subst, arith}
use Rattle.std.specs.List.{All}
use Rattle.std.proofs.lemmas.Bool.{cases_eq, eq-eqb, ne_eqb}
use Rattle.std.proofs.lemmas.List.{drop_all, drop_more, get_or-set_other, get_or-set_same, length-set}
use Rattle.process_names.specs.Laws.{has}
use Rattle.target_counts.specs.Counts.{Replaces, count_in}

-- no thing
pub none_replaced : (test : ℕ → Bool) (other : ℕ) (xs : List ℕ) → Replaces test other [] xs xs
none_replaced test other xs = record { size = refl; is = λ x l. refl }

module _ (test : ℕ → Bool) (other : ℕ) where
  abbrev replaced : Bool → ℕ → ℕ
  replaced b n = cond (b && test n) other n

  stays_other : (b : Bool) → replaced b other ≡ other
  stays_other false = refl
  stays_other true = by (test other)
    where
      by : (t : Bool) → cond t other other ≡ other
      by true = refl
      by false = refl

  one_more : (x : ℕ) (xs before mid after : List ℕ) (t : Bool) → x < length before → test (count_in before x) ≡ t → mid ≡ cond t (set before x other) before → Replaces test other xs mid after → Replaces test other (x ∷ xs) before after
  one_more x xs before mid after t l tested is h = record { size = h.size ∙ size t is; is = λ y m. go y m (cases_eq x y) }
    where
      size : (t : Bool) → mid ≡ cond t (set before x other) before → length mid ≡ length before
      size true e = ap length e ∙ length-set before x other
      size false e = ap length e

      inside : (y : ℕ) → y < length before → y < length mid
      inside y m = omega (arith, m, size t is)

      here : (t : Bool) → test (count_in before x) ≡ t → mid ≡ cond t (set before x other) before → replaced (has x xs) (count_in mid x) ≡ cond t other (count_in before x)
      here true e i = ap (replaced (has x xs)) (ap (λ zs. count_in zs x) i ∙ get_or-set_same before x other 0 l) ∙ stays_other (has x xs)
      here false e i = ap (replaced (has x xs)) (ap (λ zs. count_in zs x) i) ∙ stays (has x xs)
        where
          stays : (b : Bool) → replaced b (count_in before x) ≡ count_in before x
          stays false = refl
          stays true = ap (λ u. cond u other (count_in before x)) e

      there : (t : Bool) (y : ℕ) → (x ≡ y → ⊥) → mid ≡ cond t (set before x other) before → count_in mid y ≡ count_in before y
      there true y apart i = ap (λ zs. count_in zs y) i ∙ get_or-set_other before x y other 0 (λ e. apart (sym e))
      there false y apart i = ap (λ zs. count_in zs y) i

      go : (y : ℕ) → y < length before → (x ≡ y) ⊎ (x ≡ y → ⊥) → count_in after y ≡ replaced (has y (x ∷ xs)) (count_in before y)
      go y m (inl e) =
          subst (λ z. count_in after z ≡ replaced ((x == z) || has z xs) (count_in before z)) e
          (h.is x (inside x l) ∙ here t tested is ∙ ap (λ u. cond u other (count_in before x)) (sym tested) ∙ ap (λ b. replaced (b || has x xs) (count_in before x)) (sym (eq-eqb x x refl)))
      go y m (inr apart) =
          h.is y (inside y m) ∙ ap (replaced (has y xs)) (there t y apart is) ∙ ap (λ b. replaced (b || has y xs) (count_in before y)) (sym (ne_eqb x y apart))

-- one more at a place of the list
pub next_replaced : (test : ℕ → Bool) (other : ℕ) (order before mid after : List ℕ) (i x : ℕ) → i < length order → x ≡ get_or order i x → x < length before → mid ≡ cond (test (count_in before x)) (set before x other) before → Replaces test other (drop (i + 1) order) mid after → Replaces test other (drop i order) before after
next_replaced test other order before mid after i x l e inside is h =
    subst (λ xs. Replaces test other xs before after) (sym (drop_more order i x l ∙ ap (λ y. y ∷ drop (i + 1) order) (sym e))) (one_more test other x (drop (i + 1) order) before mid after (test (count_in before x)) inside refl is h)

-- none is left
pub last_replaced : (test : ℕ → Bool) (other : ℕ) (order counts : List ℕ) (i : ℕ) → length order ≤ i → Replaces test other (drop i order) counts counts
last_replaced test other order counts i past = subst (λ xs. Replaces test other xs counts counts) (sym (drop_all i order past)) (none_replaced test other counts)

-- a thing is inside, whatever its count is
pub within_set : (order counts : List ℕ) (i v : ℕ) → All (λ x. x < length counts) order → All (λ x. x < length (set counts i v)) order
within_set order counts i v h = λ k d l. subst (λ n. get_or order k d < n) (sym (length-set counts i v)) (h k d l)

pub replaced_size : (test : ℕ → Bool) (other : ℕ) (before after : List ℕ) (x : ℕ) → after ≡ cond (test (count_in before x)) (set before x other) before → length after ≡ length before
replaced_size test other before after x is = go (test (count_in before x)) is
  where
    go : (t : Bool) → after ≡ cond t (set before x other) before → length after ≡ length before
    go true e = ap length e ∙ length-set before x other
    go false e = ap length e
