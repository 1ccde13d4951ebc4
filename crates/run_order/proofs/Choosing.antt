-- The processes of an order that pass a test, each with its place.
use Rattle.std.proofs.Common.{◌≡◌, ◌≢◌, ◌⊎◌, inl, inr, ⊎_elim, ◌∙◌, ℕ, zero, suc, ◌+◌, ◌<◌, ◌≤◌, ◌&&◌, ◌||◌, not, Bool, true, false, cond, eqb, List, [], ◌∷◌, map, length, take, get_or, set, Option, Some, None, refl, sym, ap, subst, arith, replicate}
use Rattle.std.specs.List.{filter}
use Rattle.std.proofs.lemmas.Bool.{cases_lt, eq-eqb, eqb-true, le-leb, lt-leb, or_cases, or_right, true≢false}
use Rattle.std.proofs.lemmas.List.{get_or-replicate, get_or-set_same, get_or-set_other, get_or_past, length-set, length-replicate}
use Rattle.std.proofs.lemmas.List.Folds.{list_any_at, list_any_more}
use Rattle.wake_list.specs.Members.{IsOnce, has}
use Rattle.wake_list.specs.Waiting.{is_waiting, with_process}
use Rattle.wake_list.proofs.MemberLemmas.{has_first, once_few}
use Rattle.run_order.specs.Ranked.{AreRanksOf, chosen}

-- a process at a place is in the list
has_at : (xs : List ℕ) (k p : ℕ) → k < length xs → get_or xs k 0 ≡ p → has p xs ≡ true
has_at xs k p l e = list_any_at (eqb p) xs k 0 l (eq-eqb p (get_or xs k 0) (sym e))

or_right_true : (b : Bool) → b || true ≡ true
or_right_true false = refl
or_right_true true = refl

or_right_false : (b : Bool) → b || false ≡ b
or_right_false false = refl
or_right_false true = refl

-- two tests that agree on the list choose the same
pub chosen_same : (t u : ℕ → Bool) (n : ℕ) (xs : List ℕ) → ((p : ℕ) → has p xs ≡ true → t p ≡ u p) → chosen t n xs ≡ chosen u n xs
chosen_same t u n [] same = refl
chosen_same t u n (x ∷ xs) same =
    let rest : chosen t (n + 1) xs ≡ chosen u (n + 1) xs = chosen_same t u (n + 1) xs (λ p h. same p (or_right (eqb p x) (has p xs) h)) in
    ap (λ b. cond b ((x, n) ∷ chosen t (n + 1) xs) (chosen t (n + 1) xs)) (same x (has_first x xs)) ∙ ap (λ ys. cond (u x) ((x, n) ∷ ys) ys) rest

-- without their places
pub firsts : (t : ℕ → Bool) (n : ℕ) (xs : List ℕ) → map (λ x. x.0) (chosen t n xs) ≡ filter t xs
firsts t n [] = refl
firsts t n (x ∷ xs) = go (t x) (firsts t (n + 1) xs)
  where
    go : (b : Bool) → map (λ y. y.0) (chosen t (n + 1) xs) ≡ filter t xs → map (λ y. y.0) (cond b ((x, n) ∷ chosen t (n + 1) xs) (chosen t (n + 1) xs)) ≡ cond b (x ∷ filter t xs) (filter t xs)
    go true e = ap (λ ys. x ∷ ys) e
    go false e = e

-- whether a process passes, and is in the list
pub has_filter : (p : ℕ) (t : ℕ → Bool) (xs : List ℕ) → has p (filter t xs) ≡ (has p xs && t p)
has_filter p t [] = refl
has_filter p t (x ∷ xs) = go (t x) refl (eqb p x) refl (has_filter p t xs)
  where
    go : (b : Bool) → t x ≡ b → (e : Bool) → eqb p x ≡ e → has p (filter t xs) ≡ (has p xs && t p) → has p (cond b (x ∷ filter t xs) (filter t xs)) ≡ ((e || has p xs) && t p)
    go true g true f h = ap (λ b. b || has p (filter t xs)) f ∙ sym (ap t (eqb-true p x f) ∙ g)
    go true g false f h = ap (λ b. b || has p (filter t xs)) f ∙ h
    go false g true f h = h ∙ ap (λ b. has p xs && b) (ap t (eqb-true p x f) ∙ g) ∙ no (has p xs) ∙ sym (ap t (eqb-true p x f) ∙ g)
      where
        no : (b : Bool) → b && false ≡ false
        no false = refl
        no true = refl
    go false g false f h = h

-- whether a process of the order waits
pub waits_if : (t : ℕ → Bool) (n p k : ℕ) (xs : List ℕ) → k < length xs → get_or xs k 0 ≡ p → is_waiting p (chosen t n xs) ≡ t p
waits_if t n p k xs l e = ap (has p) (firsts t n xs) ∙ has_filter p t xs ∙ ap (λ b. b && t p) (has_at xs k p l e)

-- a process that is put before all that have later places
put_first : (t : ℕ → Bool) (p n m : ℕ) (xs : List ℕ) → n < m → with_process p n (chosen t m xs) ≡ (p, n) ∷ chosen t m xs
put_first t p n m [] l = refl
put_first t p n m (x ∷ xs) l = go (t x) (put_first t p n (m + 1) xs (omega (arith, l)))
  where
    go : (b : Bool) → with_process p n (chosen t (m + 1) xs) ≡ (p, n) ∷ chosen t (m + 1) xs → with_process p n (cond b ((x, m) ∷ chosen t (m + 1) xs) (chosen t (m + 1) xs)) ≡ (p, n) ∷ cond b ((x, m) ∷ chosen t (m + 1) xs) (chosen t (m + 1) xs)
    go true h = ap (λ b. cond b ((x, m) ∷ with_process p n (chosen t (m + 1) xs)) ((p, n) ∷ (x, m) ∷ chosen t (m + 1) xs)) (lt-leb m n l)
    go false h = h

no_more : (n : ℕ) → n + 0 ≡ n
no_more n = omega arith

-- a process of the order is put at its place
pub put_chosen : (t : ℕ → Bool) (n p k : ℕ) (xs : List ℕ) → IsOnce xs → k < length xs → get_or xs k 0 ≡ p → t p ≡ false → with_process p (n + k) (chosen t n xs) ≡ chosen (λ q. t q || eqb q p) n xs
put_chosen t n p k [] once l e fails = absurd (omega arith)
put_chosen t n p zero (x ∷ xs) once l e fails =
    let none : t x ≡ false = ap t e ∙ fails in
    let left : with_process p n (chosen t n (x ∷ xs)) ≡ (p, n) ∷ chosen t (n + 1) xs = ap (λ b. with_process p n (cond b ((x, n) ∷ chosen t (n + 1) xs) (chosen t (n + 1) xs))) none ∙ put_first t p n (n + 1) xs (omega arith) in
    let rest : chosen t (n + 1) xs ≡ chosen (λ q. t q || eqb q p) (n + 1) xs = chosen_same t (λ q. t q || eqb q p) (n + 1) xs (λ q h. sym (ap (λ b. t q || b) (apart q h) ∙ or_right_false (t q))) in
    ap (λ m. with_process p m (chosen t n (x ∷ xs))) (no_more n) ∙ left ∙ ap (λ y. (y, n) ∷ chosen t (n + 1) xs) (sym e) ∙ ap (λ ys. (x, n) ∷ ys) rest ∙ sym (ap (λ b. cond b ((x, n) ∷ chosen (λ q. t q || eqb q p) (n + 1) xs) (chosen (λ q. t q || eqb q p) (n + 1) xs)) (ap (λ b. t x || b) (eq-eqb x p e) ∙ or_right_true (t x)))
  where
    apart : (q : ℕ) → has q xs ≡ true → eqb q p ≡ false
    apart q h = go (eqb q p) refl
      where
        go : (b : Bool) → eqb q p ≡ b → b ≡ false
        go false f = refl
        go true f = absurd (true≢false (sym h ∙ ap (λ y. has y xs) (eqb-true q p f ∙ sym e) ∙ once.0))
put_chosen t n p (suc k) (x ∷ xs) once l e fails =
    let later : with_process p (n + 1 + k) (chosen t (n + 1) xs) ≡ chosen (λ q. t q || eqb q p) (n + 1) xs = put_chosen t (n + 1) p k xs once.1 (omega (arith, l)) e fails in
    let place : n + suc k ≡ n + 1 + k = omega arith in
    ap (λ m. with_process p m (chosen t n (x ∷ xs))) place ∙ go (t x) refl later
  where
    apart : eqb x p ≡ false
    apart = gone (eqb x p) refl
      where
        gone : (b : Bool) → eqb x p ≡ b → b ≡ false
        gone false f = refl
        gone true f = absurd (true≢false (sym (has_at xs k x (omega (arith, l)) (e ∙ sym (eqb-true x p f))) ∙ once.0))

    go : (b : Bool) → t x ≡ b → with_process p (n + 1 + k) (chosen t (n + 1) xs) ≡ chosen (λ q. t q || eqb q p) (n + 1) xs
        → with_process p (n + 1 + k) (chosen t n (x ∷ xs)) ≡ chosen (λ q. t q || eqb q p) n (x ∷ xs)
    go true g h =
        ap (λ b. with_process p (n + 1 + k) (cond b ((x, n) ∷ chosen t (n + 1) xs) (chosen t (n + 1) xs))) g ∙ ap (λ b. cond b ((x, n) ∷ with_process p (n + 1 + k) (chosen t (n + 1) xs)) ((p, n + 1 + k) ∷ (x, n) ∷ chosen t (n + 1) xs)) (le-leb n (n + 1 + k) (omega arith)) ∙ ap (λ ys. (x, n) ∷ ys) h ∙ sym (ap (λ b. cond b ((x, n) ∷ chosen (λ q. t q || eqb q p) (n + 1) xs) (chosen (λ q. t q || eqb q p) (n + 1) xs)) (ap (λ b. b || eqb x p) g))
    go false g h =
        ap (λ b. with_process p (n + 1 + k) (cond b ((x, n) ∷ chosen t (n + 1) xs) (chosen t (n + 1) xs))) g ∙ h ∙ sym (ap (λ b. cond b ((x, n) ∷ chosen (λ q. t q || eqb q p) (n + 1) xs) (chosen (λ q. t q || eqb q p) (n + 1) xs)) (ap (λ b. b || eqb x p) g ∙ apart))

-- ---- the ranks

-- the place of a process that is in the list
place_in : (xs : List ℕ) (p : ℕ) → has p xs ≡ true → (k : ℕ) × (k < length xs) × (get_or xs k 0 ≡ p)
place_in [] p h = absurd (true≢false (sym h))
place_in (x ∷ xs) p h =
    ⊎_elim (λ e. (zero, omega arith, sym (eqb-true p x e))) (λ r. let later = place_in xs p r in (suc later.0, omega (arith, later.1), later.2)) (or_cases (eqb p x) (has p xs) h)

-- no process is at two places
pub apart_at : (xs : List ℕ) (j k : ℕ) → IsOnce xs → j < k → k < length xs → get_or xs j 0 ≢ get_or xs k 0
apart_at [] j k once l m e = absurd (omega arith)
apart_at (x ∷ xs) zero zero once l m e = absurd (omega arith)
apart_at (x ∷ xs) zero (suc k) once l m e = true≢false (sym (has_at xs k x (omega (arith, m)) (sym e)) ∙ once.0)
apart_at (x ∷ xs) (suc j) zero once l m e = absurd (omega arith)
apart_at (x ∷ xs) (suc j) (suc k) once l m e = apart_at xs j k once.1 (omega (arith, l)) (omega (arith, m)) e

some_is : (j k : ℕ) → Some j ≡ Some k → j ≡ k
some_is j k e = cc

none_is : (k : ℕ) → None ≡ Some k → ⊥
none_is k e = cc

-- the processes at these places have their ranks
pub record AreRanksSoFar (order : List ℕ) (count place : ℕ) (ranks : List (Option ℕ)) : Type 0 where
  pub size : length ranks ≡ count
  pub ranked : (k : ℕ) → k < place → get_or ranks (get_or order k 0) None ≡ Some k
  pub others : (p k : ℕ) → get_or ranks p None ≡ Some k → (k < place) × (get_or order k 0 ≡ p)

pub ranks_none : (order : List ℕ) (count : ℕ) → AreRanksSoFar order count 0 (replicate count None)
ranks_none order count =
    record {
      size = length-replicate count None;
      ranked = λ k l. absurd (omega arith);
      others = λ p k e. absurd (none_is k (⊎_elim (λ l. sym (get_or-replicate count p None None l) ∙ e) (λ l. sym (get_or_past (replicate count None) p None (rw length-replicate l)) ∙ e) (cases_lt p count)));
    }

cases_same : (m n : ℕ) → (m ≡ n) ⊎ (m ≢ n)
cases_same m n = ⊎_elim (λ l. inr (λ e. absurd (omega arith))) (λ l. ⊎_elim (λ k. inr (λ e. absurd (omega arith))) (λ k. inl (omega arith)) (cases_lt n m)) (cases_lt m n)

pub ranks_more : (order : List ℕ) (count place : ℕ) (ranks : List (Option ℕ)) → IsOnce order → place < length order → get_or order place 0 < count → AreRanksSoFar order count place ranks
    → AreRanksSoFar order count (place + 1) (set ranks (get_or order place 0) (Some place))
ranks_more order count place ranks once l below h =
    let here : get_or (set ranks (get_or order place 0) (Some place)) (get_or order place 0) None ≡ Some place = get_or-set_same ranks (get_or order place 0) (Some place) None (omega (arith, below, h.size)) in
    record {
      size = length-set ranks (get_or order place 0) (Some place) ∙ h.size;
      ranked = λ k m. ⊎_elim (λ j. get_or-set_other ranks (get_or order place 0) (get_or order k 0) (Some place) None (apart_at order k place once j l) ∙ h.ranked k j) (λ j. let e : k ≡ place = omega arith in subst (λ n. get_or (set ranks (get_or order place 0) (Some place)) (get_or order n 0) None ≡ Some n) (sym e) here) (cases_lt k place);
      others = λ p k e. ⊎_elim (λ same. let is : place ≡ k = some_is place k (sym here ∙ ap (λ q. get_or (set ranks (get_or order place 0) (Some place)) q None) (sym same) ∙ e) in (omega (arith, is), ap (λ n. get_or order n 0) (sym is) ∙ sym same)) (λ differ. let old = h.others p k (sym (get_or-set_other ranks (get_or order place 0) p (Some place) None differ) ∙ e) in (omega (arith, old.0), old.1)) (cases_same p (get_or order place 0));
    }

pub few : (order : List ℕ) (count : ℕ) → IsOnce order → ((p : ℕ) → has p order ≡ true → p < count) → length order ≤ count
few order count once below = once_few order count once below

pub below_at : (order : List ℕ) (count place : ℕ) → ((p : ℕ) → has p order ≡ true → p < count) → place < length order → get_or order place 0 < count
below_at order count place below l = below (get_or order place 0) (has_at order place (get_or order place 0) l refl)

pub all_ranked : (order : List ℕ) (count place : ℕ) (ranks : List (Option ℕ)) → IsOnce order → ((p : ℕ) → has p order ≡ true → p < count) → length order ≤ place → AreRanksSoFar order count place ranks → place ≤ length order → AreRanksOf order count ranks
all_ranked order count place ranks once below end h least =
    record {
      once = once;
      size = h.size;
      few = once_few order count once below;
      ranked = λ k l. h.ranked k (omega (arith, l, end));
      others = λ p k e. let at = h.others p k e in (omega (arith, at.0, least), at.1);
    }

zero_more : (k : ℕ) → k ≡ 0 + k
zero_more k = omega arith

-- ---- one process is put on the list

pub put_some : (order : List ℕ) (count : ℕ) (ranks : List (Option ℕ)) (test : ℕ → Bool) (p k : ℕ) (r : Bool) (pairs after : List (ℕ × ℕ)) → AreRanksOf order count ranks → get_or ranks p None ≡ Some k
    → pairs ≡ chosen test 0 order → r ≡ not (is_waiting p pairs) → after ≡ cond r (with_process p k pairs) pairs → after ≡ chosen (λ q. test q || eqb q p) 0 order
put_some order count ranks test p k r pairs after h rank is there new =
    let at = h.others p k rank in
    let waits : is_waiting p pairs ≡ test p = ap (is_waiting p) is ∙ waits_if test 0 p k order at.0 at.1 in
    new ∙ ap (λ b. cond b (with_process p k pairs) pairs) (there ∙ ap not waits) ∙ ap (λ xs. cond (not (test p)) (with_process p k xs) xs) is ∙ go (test p) refl at
  where
    go : (b : Bool) → test p ≡ b → (k < length order) × (get_or order k 0 ≡ p) → cond (not b) (with_process p k (chosen test 0 order)) (chosen test 0 order) ≡ chosen (λ q. test q || eqb q p) 0 order
    go false e at = ap (λ m. with_process p m (chosen test 0 order)) (zero_more k) ∙ put_chosen test 0 p k order h.once at.0 at.1 e
    go true e at = chosen_same test (λ q. test q || eqb q p) 0 order (λ q m. sym (already q (eqb q p) refl))
      where
        already : (q : ℕ) (b : Bool) → eqb q p ≡ b → test q || eqb q p ≡ test q
        already q true f = ap (λ b. b || eqb q p) (ap test (eqb-true q p f) ∙ e) ∙ sym (ap test (eqb-true q p f) ∙ e)
        already q false f = ap (λ b. test q || b) f ∙ or_right_false (test q)

pub put_none : (order : List ℕ) (count : ℕ) (ranks : List (Option ℕ)) (test : ℕ → Bool) (p : ℕ) (pairs : List (ℕ × ℕ)) → AreRanksOf order count ranks → ((k : ℕ) → get_or ranks p None ≡ Some k → ⊥)
    → pairs ≡ chosen test 0 order → pairs ≡ chosen (λ q. test q || eqb q p) 0 order
put_none order count ranks test p pairs h unranked is =
    is ∙ chosen_same test (λ q. test q || eqb q p) 0 order (λ q m. let at = place_in order q m in
    sym (ap (λ b. test q || b) (apart q (eqb q p) refl at.0 at.1 at.2) ∙ or_right_false (test q)))
  where
    apart : (q : ℕ) (b : Bool) → eqb q p ≡ b → (k : ℕ) → k < length order → get_or order k 0 ≡ q → eqb q p ≡ false
    apart q false f k l e = f
    apart q true f k l e = absurd (unranked k (ap (λ x. get_or ranks x None) (sym (e ∙ eqb-true q p f)) ∙ h.ranked k l))

-- ---- all of them

pub none_put : (order : List ℕ) (woken : List ℕ) → [] ≡ chosen (λ p. has p (take 0 woken)) 0 order
none_put order woken = go order 0
  where
    go : (xs : List ℕ) (n : ℕ) → [] ≡ chosen (λ p. false) n xs
    go [] n = refl
    go (x ∷ xs) n = go xs (n + 1)

pub one_put : (order woken : List ℕ) (i : ℕ) (pairs : List (ℕ × ℕ)) → i < length woken → pairs ≡ chosen (λ p. has p (take i woken) || eqb p (get_or woken i 0)) 0 order → pairs ≡ chosen (λ p. has p (take (i + 1) woken)) 0 order
one_put order woken i pairs l is =
    is ∙ chosen_same (λ p. has p (take i woken) || eqb p (get_or woken i 0)) (λ p. has p (take (i + 1) woken)) 0 order (λ p h. sym (list_any_more (eqb p) woken i 0 l))

pub all_put : (order woken : List ℕ) (pairs : List (ℕ × ℕ)) → pairs ≡ chosen (λ p. has p woken) 0 order → map (λ x. x.0) pairs ≡ filter (λ p. has p woken) order
all_put order woken pairs is = ap (map (λ x. x.0)) is ∙ firsts (λ p. has p woken) 0 order
