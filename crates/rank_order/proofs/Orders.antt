-- Lists of nodes, and what putting one at the end does to them.
use Rattle.std.proofs.Common.{◌≡◌, ◌⊎◌, inl, inr, ⊎_elim, ◌∙◌, ℕ, zero, suc, ◌+◌, ◌<◌, List, [], ◌∷◌, ◌++◌, length, get_or, set, take, drop, refl, sym, ap, subst, arith}
use Rattle.std.specs.Global.{Vec}
use Rattle.std.specs.List.{Contains, range_with_len}
use Rattle.std.proofs.lemmas.Bool.{cases_eq}
use Rattle.std.proofs.lemmas.List.{get_or-map, map-set, take-append-drop}
use Rattle.std.proofs.lemmas.List.Elements.{Contains-append_left, Contains-push, Contains-push_cases}
use Rattle.std.proofs.lemmas.List.FromFn.{get_or-range_with_len, length-range_with_len}
use Rattle.index_sets.specs.Rows.{row_at}
use Rattle.rank_order.specs.Order.{ComesBefore, IsOnce, lists_of}

pub contains_head : (x : ℕ) (xs : List ℕ) → Contains (x ∷ xs) x
contains_head x xs = (0, omega arith, refl)

pub contains_tail : (x y : ℕ) (xs : List ℕ) → Contains xs y → Contains (x ∷ xs) y
contains_tail x y xs c = (suc c.0, omega (arith, c.1), c.2)

at_place : (x y : ℕ) (xs : List ℕ) (k : ℕ) → k < length (x ∷ xs) → get_or (x ∷ xs) k y ≡ y → (x ≡ y) ⊎ Contains xs y
at_place x y xs zero l e = inl e
at_place x y xs (suc k) l e = inr (k, omega arith, e)

pub contains_cases : (x y : ℕ) (xs : List ℕ) → Contains (x ∷ xs) y → (x ≡ y) ⊎ Contains xs y
contains_cases x y xs c = at_place x y xs c.0 c.1 c.2

pub contains_none : (y : ℕ) → Contains [] y → ⊥
contains_none y c = absurd (omega (arith, c.1))

pub only_one : (x y : ℕ) → Contains (x ∷ []) y → x ≡ y
only_one x y c = ⊎_elim (λ e. e) (λ no. absurd (contains_none y no)) (contains_cases x y [] c)

pub contains_take : (n : ℕ) (xs : List ℕ) (x : ℕ) → Contains (take n xs) x → Contains xs x
contains_take n xs x c = subst (λ ys. Contains ys x) (take-append-drop n xs) (Contains-append_left (take n xs) (drop n xs) x c)

pub before_more : (w v : ℕ) (xs ys : List ℕ) → ComesBefore w xs v → ComesBefore w (xs ++ ys) v
before_more w v [] ys h = absurd h
before_more w v (x ∷ xs) ys h = ⊎_elim (λ here. inl (here.0, Contains-append_left xs ys v here.1)) (λ later. inr (before_more w v xs ys later)) h

pub before_last : (w v : ℕ) (xs : List ℕ) → Contains xs w → ComesBefore w (xs ++ v ∷ []) v
before_last w v [] c = absurd (contains_none w c)
before_last w v (x ∷ xs) c = ⊎_elim (λ e. inl (e, Contains-push xs v)) (λ later. inr (before_last w v xs later)) (contains_cases x w xs c)

pub once_more : (v : ℕ) (xs : List ℕ) → IsOnce xs → (Contains xs v → ⊥) → IsOnce (xs ++ v ∷ [])
once_more v [] h new = (λ c. contains_none v c, tt)
once_more v (x ∷ xs) h new = (
  λ c. ⊎_elim (λ d. h.0 d) (λ e. new (subst (λ y. Contains (x ∷ xs) y) (sym e) (contains_head x xs))) (Contains-push_cases xs v x c),
  once_more v xs h.1 (λ c. new (contains_tail x v xs c)),
)

-- what comes before another is in the list, and so is the other
pub before_first : (w v : ℕ) (xs : List ℕ) → ComesBefore w xs v → Contains xs w
before_first w v [] h = absurd h
before_first w v (x ∷ xs) h = ⊎_elim (λ here. subst (λ y. Contains (x ∷ xs) y) here.0 (contains_head x xs)) (λ later. contains_tail x w xs (before_first w v xs later)) h

pub before_second : (w v : ℕ) (xs : List ℕ) → ComesBefore w xs v → Contains xs v
before_second w v [] h = absurd h
before_second w v (x ∷ xs) h = ⊎_elim (λ here. contains_tail x v xs here.1) (λ later. contains_tail x v xs (before_second w v xs later)) h

-- one before another, which is before a third
pub before_third : (u w v : ℕ) (xs : List ℕ) → IsOnce xs → ComesBefore u xs w → ComesBefore w xs v → ComesBefore u xs v
before_third u w v [] once a b = absurd a
before_third u w v (x ∷ xs) once a b =
    ⊎_elim
    (λ first. ⊎_elim (λ next. inl (first.0, next.1)) (λ later. inl (first.0, before_second w v xs later)) b)
    (λ inner.
    ⊎_elim
    (λ next. absurd (once.0 (subst (λ y. Contains xs y) (sym next.0) (before_second u w xs inner))))
    (λ later. inr (before_third u w v xs once.1 inner later))
    b)
    a

-- the items of the vector with a number
pub list_row : (vs : List (Vec ℕ)) (i : ℕ) (v : Vec ℕ) → i < length vs → v ≡ get_or vs i v → row_at (lists_of vs) i ≡ v.items
list_row vs i v l e = get_or-map (λ (u : Vec ℕ). u.items) vs i v [] l ∙ ap (λ (u : Vec ℕ). u.items) (sym e)

-- a vector written
pub lists_set : (vs : List (Vec ℕ)) (i : ℕ) (v : Vec ℕ) → lists_of (set vs i v) ≡ set (lists_of vs) i v.items
lists_set vs i v = map-set (λ (u : Vec ℕ). u.items) vs i v

-- all the numbers below another
pub numbers_have : (n v : ℕ) → v < n → Contains (range_with_len 0 n) v
numbers_have n v l = (v, omega (arith, length-range_with_len 0 n), get_or-range_with_len 0 n v v l ∙ omega arith)

pub numbers_below : (n v : ℕ) → Contains (range_with_len 0 n) v → v < n
numbers_below n v c = omega (arith, c.1, c.2, length-range_with_len 0 n, get_or-range_with_len 0 n c.0 v (omega (arith, c.1, length-range_with_len 0 n)))

range_push : (a n : ℕ) → range_with_len a (suc n) ≡ range_with_len a n ++ (a + n) ∷ []
range_push a zero = ap (λ x. x ∷ []) (omega arith)
range_push a (suc n) =
    let e : a + 1 + n ≡ a + suc n = omega arith in
    ap (λ xs. a ∷ xs) (range_push (a + 1) n ∙ ap (λ x. range_with_len (a + 1) n ++ x ∷ []) e)

pub numbers_more : (n : ℕ) → range_with_len 0 (n + 1) ≡ range_with_len 0 n ++ n ∷ []
numbers_more n =
    let e : n + 1 ≡ suc n = omega arith in
    let f : 0 + n ≡ n = omega arith in
    ap (range_with_len 0) e ∙ range_push 0 n ∙ ap (λ x. range_with_len 0 n ++ x ∷ []) f

-- one place more
pub met_more : (order list : List ℕ) (i : ℕ) → ((j : ℕ) → j < i → Contains order (get_or list j 0)) → Contains order (get_or list i 0) → (j : ℕ) → j < i + 1 → Contains order (get_or list j 0)
met_more order list i h c j l = ⊎_elim (λ e. subst (λ n. Contains order (get_or list n 0)) (sym e) c) (λ ne. h j (omega arith)) (cases_eq j i)
