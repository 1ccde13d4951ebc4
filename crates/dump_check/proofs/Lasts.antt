-- Numbers where they are last, and lists that are gone through backwards.
use Rattle.std.proofs.Common.{◌≡◌, ◌↔◌, ⊎_elim, ◌∙◌, ℕ, zero, suc, ◌+◌, ◌-◌, ◌<◌, ◌≤◌, ◌||◌, Bool, true, false, cond, eqb, List, [], ◌∷◌, ◌++◌, length, take, drop, get_or, reverse, flat_map, Option, Some, None, IfSome, refl, sym, ap, subst, arith, append_assoc}
use Rattle.std.specs.List.{All, Contains, list_any}
use Rattle.std.proofs.lemmas.Bool.{eq-eqb, eqb-true, false≢true, or_cases, true≢false}
use Rattle.std.proofs.lemmas.List.{drop_all, drop_more, reverse-append, take-append-drop}
use Rattle.std.proofs.lemmas.List.Elements.{All-append}
use Rattle.std.proofs.lemmas.List.Folds.{list_any-append, list_any_at}
use Rattle.four_state.specs.Vector.{Vector}
use Rattle.known_state.specs.Partly.{Partly}
use Rattle.dump_check.specs.declared.order.Difference.{Difference}
use Rattle.dump_check.specs.Checks.{AgreesAt, IsDifference, IsFirstDifference, last_of_each}

or_false : (b : Bool) → b || false ≡ b
or_false false = refl
or_false true = refl

or_commutes : (a b : Bool) → a || b ≡ b || a
or_commutes false b = sym (or_false b)
or_commutes true false = refl
or_commutes true true = refl

-- a test of a list that is turned round
any_reverse : {A : Type 0} (p : A → Bool) (xs : List A) → list_any p (reverse xs) ≡ list_any p xs
any_reverse p [] = refl
any_reverse p (x ∷ xs) =
    ap (list_any p) (reverse-append (x ∷ []) xs) ∙ list_any-append p (reverse xs) (x ∷ []) ∙ ap (λ b. list_any p (reverse xs) || b) (or_false (p x)) ∙ ap (λ b. b || p x) (any_reverse p xs) ∙ or_commutes (list_any p xs) (p x)

-- the list of last ones has the same numbers
has_last : (x : ℕ) (xs : List ℕ) → list_any (λ y. eqb x y) (last_of_each xs) ≡ list_any (λ y. eqb x y) xs
has_last x [] = refl
has_last x (y ∷ ys) = go (list_any (λ z. eqb y z) ys) refl (eqb x y) refl (has_last x ys)
  where
    go : (b : Bool) → list_any (λ z. eqb y z) ys ≡ b → (e : Bool) → eqb x y ≡ e → list_any (λ z. eqb x z) (last_of_each ys) ≡ list_any (λ z. eqb x z) ys
        → list_any (λ z. eqb x z) (cond b (last_of_each ys) (y ∷ last_of_each ys)) ≡ (e || list_any (λ z. eqb x z) ys)
    go true f true g h = h ∙ ap (λ n. list_any (λ z. eqb n z) ys) (eqb-true x y g) ∙ f
    go true f false g h = h
    go false f true g h = ap (λ b. b || list_any (λ z. eqb x z) (last_of_each ys)) g
    go false f false g h = ap (λ b. b || list_any (λ z. eqb x z) (last_of_each ys)) g ∙ h

is_in_gives : (xs : List ℕ) (x : ℕ) → list_any (λ y. eqb x y) xs ≡ true → Contains xs x
is_in_gives [] x h = absurd (false≢true h)
is_in_gives (y ∷ ys) x h =
    ⊎_elim
    (λ e. (0, omega arith, sym (eqb-true x y e)))
    (λ r. let c = is_in_gives ys x r in (suc c.0, omega (arith, c.1), c.2))
    (or_cases (eqb x y) _ h)

-- a number that is put before the others, where it is last
pub put_last : (items after : List ℕ) (x : ℕ) (rest : List ℕ) (r : Bool) → ((r ≡ false) ↔ Contains items x) → after ≡ cond r (items ++ x ∷ []) items → reverse items ≡ last_of_each rest → reverse after ≡ last_of_each (x ∷ rest)
put_last items after x rest r there is old =
    let known : list_any (λ y. eqb x y) items ≡ list_any (λ y. eqb x y) rest = sym (any_reverse (λ y. eqb x y) items) ∙ ap (list_any (λ y. eqb x y)) old ∙ has_last x rest in
    ap reverse is ∙ go r refl known
  where
    go : (b : Bool) → r ≡ b → list_any (λ y. eqb x y) items ≡ list_any (λ y. eqb x y) rest → reverse (cond b (items ++ x ∷ []) items) ≡ last_of_each (x ∷ rest)
    go true e known = reverse-append items (x ∷ []) ∙ ap (λ ys. x ∷ ys) old ∙ sym (ap (λ b. cond b (last_of_each rest) (x ∷ last_of_each rest)) (sym known ∙ missing (list_any (λ y. eqb x y) items) refl))
      where
        missing : (b : Bool) → list_any (λ y. eqb x y) items ≡ b → b ≡ false
        missing false f = refl
        missing true f = absurd (true≢false (sym e ∙ there.1 (is_in_gives items x f)))
    go false e known =
        let c = there.0 e in
        let found : list_any (λ y. eqb x y) rest ≡ true = sym known ∙ list_any_at (λ y. eqb x y) items c.0 x c.1 (eq-eqb x (get_or items c.0 x) (sym c.2)) in
        old ∙ sym (ap (λ b. cond b (last_of_each rest) (x ∷ last_of_each rest)) found)

-- one step back
pub back : (xs : List ℕ) (n : ℕ) → 0 < n → n ≤ length xs → drop (n - 1) xs ≡ get_or xs (n - 1) 0 ∷ drop n xs
back xs n some within =
    let same : n - 1 + 1 ≡ n = omega arith in
    drop_more xs (n - 1) 0 (omega arith) ∙ ap (λ k. get_or xs (n - 1) 0 ∷ drop k xs) same

pub nothing_left : (xs ys : List ℕ) (n : ℕ) → length xs ≤ n → ys ≡ drop n xs ++ ys
nothing_left xs ys n end = ap (λ zs. zs ++ ys) (sym (drop_all n xs end))

-- the rows of the runs from a place on
pub back_rows : (row : ℕ → List ℕ) (runs : List ℕ) (n : ℕ) → 0 < n → n ≤ length runs → flat_map row (drop (n - 1) runs) ≡ row (get_or runs (n - 1) 0) ++ flat_map row (drop n runs)
back_rows row runs n some within = ap (flat_map row) (back runs n some within)

-- ---- backwards

pub middle : (P : ℕ → Type 0) (xs : List ℕ) (y : ℕ) (ys : List ℕ) → All P (xs ++ y ∷ ys) → P y
middle P [] y ys h = h 0 y (omega arith)
middle P (x ∷ xs) y ys h = middle P xs y ys (λ k d l. h (suc k) d (omega (arith, l)))

-- a list, turned round, in three parts
pub parts : (xs : List ℕ) (n : ℕ) → 0 < n → n ≤ length xs → reverse xs ≡ reverse (drop n xs) ++ get_or xs (n - 1) 0 ∷ reverse (take (n - 1) xs)
parts xs n some within =
    let x = get_or xs (n - 1) 0 in
    let whole : xs ≡ take (n - 1) xs ++ (x ∷ [] ++ drop n xs) = sym (take-append-drop (n - 1) xs) ∙ ap (λ ys. take (n - 1) xs ++ ys) (back xs n some within) in
    ap reverse whole ∙ reverse-append (take (n - 1) xs) (x ∷ [] ++ drop n xs) ∙ ap (λ ys. ys ++ reverse (take (n - 1) xs)) (reverse-append (x ∷ []) (drop n xs)) ∙ append_assoc (reverse (drop n xs)) (x ∷ []) (reverse (take (n - 1) xs))

-- what holds of the last ones, and of one more
pub all_more : (P : ℕ → Type 0) (xs : List ℕ) (n : ℕ) → 0 < n → n ≤ length xs → All P (reverse (drop n xs)) → P (get_or xs (n - 1) 0) → All P (reverse (drop (n - 1) xs))
all_more P xs n some within old here =
    let x = get_or xs (n - 1) 0 in
    let is : reverse (drop (n - 1) xs) ≡ reverse (drop n xs) ++ x ∷ [] = ap reverse (back xs n some within) ∙ reverse-append (x ∷ []) (drop n xs) in
    subst (All P) (sym is) (All-append P (reverse (drop n xs)) (x ∷ []) old (λ k d l. one k d l))
  where
    one : (k d : ℕ) → k < 1 → P (get_or (get_or xs (n - 1) 0 ∷ []) k d)
    one zero d l = here
    one (suc k) d l = absurd (omega arith)

pub none_yet : (P : ℕ → Type 0) (xs : List ℕ) (n : ℕ) → length xs ≤ n → All P (reverse (drop n xs))
none_yet P xs n end = subst (λ ys. All P (reverse ys)) (sym (drop_all n xs end)) (λ k d l. absurd (omega arith))

-- what was found is the first that differs
pub first_found : (codes : List (Option ℕ)) (values : List (Option Vector)) (made : List Partly) (order before after : List ℕ) (x : ℕ) (o : Option Difference)
    → IfSome o (λ f. (f.signal ≡ x) × IsDifference codes values made f) → order ≡ before ++ x ∷ after → All (AgreesAt codes values made) before → IfSome o (IsFirstDifference codes values made order)
first_found codes values made order before after x None h is earlier = h
first_found codes values made order before after x (Some f) h is earlier =
    record { differs = h.1; before = before; after = after; is = is ∙ ap (λ y. before ++ y ∷ after) (sym h.0); earlier = earlier }
