-- Lists without repetition, and the turns of loops over what is put into them.
use Rattle.std.proofs.Common.{◌≡◌, ◌⊎◌, inl, inr, ⊎_elim, ◌∙◌, ℕ, zero, suc, ◌+◌, ◌<◌, ◌≤◌, List, [], ◌∷◌, ◌++◌, length, get_or, take, drop, refl, sym, ap, subst, arith}
use Rattle.std.specs.Bool.{⊤}
use Rattle.std.specs.List.{Contains, sum_by}
use Rattle.std.proofs.lemmas.List.{drop_at, get_or_default, take-append-le}
use Rattle.std.proofs.lemmas.List.Elements.{Contains-append_left, Contains-append_right, Contains-push_cases}
use Rattle.std.proofs.lemmas.List.Sums.{sum_by-cons, sum_by_more}
use Rattle.index_sets.specs.Rows.{row_at}
use Rattle.wake_tables.specs.declared.tables.WakeTables.{WakeTables}
use Rattle.early_sets.specs.declared.edges.Edges.{Edges}
use Rattle.early_sets.specs.Adds.{Adds, Extends}
use Rattle.early_sets.specs.Once.{IsOnce}
use Rattle.early_sets.specs.Reached.{MayWakeBy}
use Rattle.early_sets.specs.Turns.{listeners, member_turns, process_turns}

contains_none : (x : ℕ) → Contains [] x → ⊥
contains_none x c = absurd (omega (arith, c.1))

contains_head : (x : ℕ) (xs : List ℕ) → Contains (x ∷ xs) x
contains_head x xs = (0, omega arith, refl)

contains_tail : (x y : ℕ) (xs : List ℕ) → Contains xs y → Contains (x ∷ xs) y
contains_tail x y xs c = (suc c.0, omega (arith, c.1), c.2)

at_place : (x y : ℕ) (xs : List ℕ) (k : ℕ) → k < length (x ∷ xs) → get_or (x ∷ xs) k y ≡ y → (x ≡ y) ⊎ Contains xs y
at_place x y xs zero l e = inl e
at_place x y xs (suc k) l e = inr (k, omega arith, e)

contains_cases : (x y : ℕ) (xs : List ℕ) → Contains (x ∷ xs) y → (x ≡ y) ⊎ Contains xs y
contains_cases x y xs c = at_place x y xs c.0 c.1 c.2

-- no member is among those after it
abbrev AreApart : List ℕ → Type 0
AreApart [] = ⊤
AreApart (x ∷ xs) = (Contains xs x → ⊥) × AreApart xs

-- a list without repetition, place by place
apart_from_once : (xs : List ℕ) → IsOnce xs → AreApart xs
apart_from_once [] h = tt
apart_from_once (x ∷ xs) h = (
  λ c. h 0 (suc c.0) (omega arith) (omega (arith, c.1)) (sym (get_or_default xs c.0 0 x c.1 ∙ c.2)),
  apart_from_once xs (λ j k l m e. h (suc j) (suc k) (omega (arith, l)) (omega (arith, m)) e),
)

once_from_apart : (xs : List ℕ) → AreApart xs → IsOnce xs
once_from_apart [] h j k l m e = absurd (omega (arith, m))
once_from_apart (x ∷ xs) h zero zero l m e = absurd (omega (arith, l))
once_from_apart (x ∷ xs) h zero (suc k) l m e = h.0 (k, omega (arith, m), get_or_default xs k x 0 (omega (arith, m)) ∙ sym e)
once_from_apart (x ∷ xs) h (suc j) zero l m e = absurd (omega (arith, l))
once_from_apart (x ∷ xs) h (suc j) (suc k) l m e = once_from_apart xs h.1 j k (omega (arith, l)) (omega (arith, m)) e

pub once_none : IsOnce []
once_none j k l m e = absurd (omega (arith, m))

apart_push : (n : ℕ) (xs : List ℕ) → AreApart xs → (Contains xs n → ⊥) → AreApart (xs ++ n ∷ [])
apart_push n [] h new = (λ c. contains_none n c, tt)
apart_push n (x ∷ xs) h new = (
  λ c. ⊎_elim (λ d. h.0 d) (λ e. new (subst (λ y. Contains (x ∷ xs) y) (sym e) (contains_head x xs))) (Contains-push_cases xs n x c),
  apart_push n xs h.1 (λ c. new (contains_tail x n xs c)),
)

-- one more that is not in the list
pub once_push : (n : ℕ) (xs : List ℕ) → IsOnce xs → (Contains xs n → ⊥) → IsOnce (xs ++ n ∷ [])
once_push n xs h new = once_from_apart (xs ++ n ∷ []) (apart_push n xs (apart_from_once xs h) new)

-- what comes after is without repetition too, and none of it came before
apart_parts : (xs ys : List ℕ) → AreApart (xs ++ ys) → AreApart ys × ((x : ℕ) → Contains ys x → Contains xs x → ⊥)
apart_parts [] ys h = (h, λ x c d. contains_none x d)
apart_parts (z ∷ zs) ys h =
    let r = apart_parts zs ys h.1 in (
      r.0,
      λ x c d. ⊎_elim (λ e. h.0 (subst (λ y. Contains (zs ++ ys) y) (sym e) (Contains-append_right zs ys x c))) (λ later. r.1 x c later) (contains_cases z x zs d),
    )

module _ (f : ℕ → ℕ) where
  -- one member taken out of a list
  taken_out : (x : ℕ) (row : List ℕ) → Contains row x → (rest : List ℕ) × (sum_by f row ≡ f x + sum_by f rest) × ((y : ℕ) → Contains row y → (x ≡ y) ⊎ Contains rest y)
  taken_out x [] c = absurd (contains_none x c)
  taken_out x (z ∷ zs) c =
      ⊎_elim
      (λ e. (zs, sum_by-cons f z zs ∙ ap (λ w. f w + sum_by f zs) e, λ y d. ⊎_elim (λ q. inl (sym e ∙ q)) (λ r. inr r) (contains_cases z y zs d)))
      (λ later.
      let r = taken_out x zs later in (
        z ∷ r.0,
        omega (arith, sum_by-cons f z zs, sum_by-cons f z r.0, r.1),
        λ y d. ⊎_elim (λ q. inr (subst (λ w. Contains (z ∷ r.0) w) q (contains_head z r.0))) (λ t. ⊎_elim (λ q. inl q) (λ u. inr (contains_tail z y r.0 u)) (r.2 y t)) (contains_cases z y zs d),
      ))
      (contains_cases z x zs c)

  -- members of a list that are not repeated have no greater sum than the list
  sum_within : (xs row : List ℕ) → AreApart xs → ((x : ℕ) → Contains xs x → Contains row x) → sum_by f xs ≤ sum_by f row
  sum_within [] row h within = omega arith
  sum_within (x ∷ xs) row h within =
      let r = taken_out x row (within x (contains_head x xs)) in
      let rest = sum_within xs r.0 h.1 (λ y c. ⊎_elim (λ e. absurd (h.0 (subst (λ w. Contains xs w) (sym e) c))) (λ d. d) (r.2 y (within y (contains_tail x y xs c)))) in
      omega (arith, sum_by-cons f x xs, r.1, rest)

  -- the sum over what is put in
  pub sum_added : (P : ℕ → Type 0) (before after row : List ℕ) → Adds P before after → IsOnce before → ((x : ℕ) → P x → Contains row x) → sum_by f (drop (length before) after) ≤ sum_by f row
  sum_added P before after row a once within =
      let more = a.extends.more in
      let parts = apart_parts before more (apart_from_once (before ++ more) (subst IsOnce a.extends.is (a.once once))) in
      let is : drop (length before) after ≡ more = ap (drop (length before)) a.extends.is ∙ drop_at before more (length before) refl in
      let inside : sum_by f more ≤ sum_by f row = sum_within more row parts.0 (λ x c. ⊎_elim (λ b. absurd (parts.1 x c b)) (within x) (a.only x (subst (λ zs. Contains zs x) (sym a.extends.is) (Contains-append_right before more x c)))) in
      omega (arith, inside, ap (sum_by f) is)

-- what a change may wake is among those that some change may wake
pub may_listen : (t : WakeTables) (edges : ℕ → Edges) (x p : ℕ) → MayWakeBy t edges x p → Contains (listeners t x) p
may_listen t edges x p =
    let level = row_at t.level x in
    let rising = row_at t.rising x in
    let falling = row_at t.falling x in
    ⊎_elim
    (λ c. Contains-append_left (level ++ rising) falling p (Contains-append_left level rising p c))
    (λ m. ⊎_elim (λ r. Contains-append_left (level ++ rising) falling p (Contains-append_right level rising p r.1)) (λ f. Contains-append_right (level ++ rising) falling p f.1) m)

-- one member more of a work list
pub member_counted : (t : WakeTables) (edges : ℕ → Edges) (things processes more_things more : List ℕ) (taken : ℕ) → taken < length things → Extends things more_things → IsOnce processes → Adds (MayWakeBy t edges (get_or things taken 0)) processes more → (start before turn woken written : ℕ) → before ≤ start + sum_by (member_turns t) (take taken things) → turn ≤ before + 1 → woken ≤ turn + length (listeners t (get_or things taken 0)) → written ≤ woken + sum_by (process_turns t) (drop (length processes) more) → written ≤ start + sum_by (member_turns t) (take (taken + 1) more_things)
member_counted t edges things processes more_things more taken l e once a start before turn woken written h0 h1 h2 h3 =
    let x = get_or things taken 0 in
    let fresh = sum_added (process_turns t) (MayWakeBy t edges x) processes more (listeners t x) a once (λ p m. may_listen t edges x p m) in
    let same : take (taken + 1) more_things ≡ take (taken + 1) things = ap (take (taken + 1)) e.is ∙ take-append-le (taken + 1) things e.more (omega arith) in
    let one = sum_by_more (member_turns t) things taken 0 l in
    omega (arith, h0, h1, h2, h3, fresh, one, ap (sum_by (member_turns t)) same)
