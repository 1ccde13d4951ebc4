-- Lists of numbers that are gone through one number after the other.
use Rattle.std.proofs.Common.{◌≡◌, ◌↔◌, ◌⊎◌, inl, inr, ⊎_elim, ◌∙◌, ℕ, ◌+◌, ◌<◌, ◌≤◌, Bool, true, false, cond, List, [], ◌∷◌, ◌++◌, length, get_or, take, max, refl, sym, ap, subst, arith}
use Rattle.std.specs.List.{Contains}
use Rattle.std.proofs.lemmas.Bool.{both_ways, cases_Bool, cases_eq, cond-false, cond-true}
use Rattle.std.proofs.lemmas.List.{get_or_append_left, get_or_push, length_push, take_all, take_more}
use Rattle.std.proofs.lemmas.List.Elements.{Contains-append_left, Contains-push, Contains-push_cases}
use Rattle.index_sets.specs.Rows.{row_at}
use Rattle.process_order.proofs.RowLemmas.{none_in}

-- past the numbers of a list
pub record IsPast (list : List ℕ) (least past : ℕ) : Type 0 where
  pub least_is : least ≤ past
  pub below : (x : ℕ) → Contains list x → x < past

pub past_none : (list : List ℕ) (least : ℕ) → IsPast (take 0 list) least least
past_none list least = record { least_is = omega arith; below = λ x c. absurd (none_in x c) }

pub past_more : (list : List ℕ) (i least past new : ℕ) → i < length list → IsPast (take i list) least past → new ≡ max past (get_or list i 0 + 1) → IsPast (take (i + 1) list) least new
past_more list i least past new l h e =
    record {
      least_is = omega (arith, h.least_is);
      below = λ x c. ⊎_elim (λ a. omega (arith, h.below x a)) (λ is. omega arith) (Contains-push_cases (take i list) (get_or list i 0) x (subst (λ ys. Contains ys x) (take_more list i 0 l) c));
    }

pub past_all : (list : List ℕ) (i least past : ℕ) → length list ≤ i → IsPast (take i list) least past → IsPast list least past
past_all list i least past l h = subst (λ ys. IsPast ys least past) (take_all i list l) h

-- past the numbers of so many lists
pub record IsPastLists (lists : List (List ℕ)) (least index past : ℕ) : Type 0 where
  pub least_is : least ≤ past
  pub below : (p x : ℕ) → p < index → Contains (row_at lists p) x → x < past

pub lists_past : (lists : List (List ℕ)) (least i past new : ℕ) → IsPastLists lists least i past → past ≤ new → ((x : ℕ) → Contains (row_at lists i) x → x < new) → IsPastLists lists least (i + 1) new
lists_past lists least i past new h up last =
    record {
      least_is = omega (arith, h.least_is);
      below = λ p x l c. ⊎_elim (λ e. last x (subst (λ n. Contains (row_at lists n) x) e c)) (λ ne. omega (arith, h.below p x (omega arith) c)) (cases_eq p i);
    }

-- the same numbers
abbrev pub HasSame : List ℕ → List ℕ → Type 0
HasSame xs ys = (x : ℕ) → Contains xs x ↔ Contains ys x

pub same_none : (list : List ℕ) → HasSame [] (take 0 list)
same_none list x = (λ c. c, λ c. c)

pub same_more : (seen after list : List ℕ) (i : ℕ) (new : Bool) → i < length list → after ≡ cond new (seen ++ get_or list i 0 ∷ []) seen → ((new ≡ false) ↔ Contains seen (get_or list i 0)) → HasSame seen (take i list) → HasSame after (take (i + 1) list)
same_more seen after list i new l e was h x =
    let y = get_or list i 0 in
    let more : take (i + 1) list ≡ take i list ++ y ∷ [] = take_more list i 0 l in
    ⊎_elim
    (λ yes.
    let is : after ≡ seen ++ y ∷ [] = e ∙ cond-true new (seen ++ y ∷ []) seen yes in (
      λ c. subst (λ ys. Contains ys x) (sym more) (⊎_elim (λ a. Contains-append_left (take i list) (y ∷ []) x ((h x).0 a)) (λ same. subst (λ z. Contains (take i list ++ y ∷ []) z) same (Contains-push (take i list) y)) (Contains-push_cases seen y x (subst (λ ys. Contains ys x) is c))),
      λ c. subst (λ ys. Contains ys x) (sym is) (⊎_elim (λ a. Contains-append_left seen (y ∷ []) x ((h x).1 a)) (λ same. subst (λ z. Contains (seen ++ y ∷ []) z) same (Contains-push seen y)) (Contains-push_cases (take i list) y x (subst (λ ys. Contains ys x) more c))),
    ))
    (λ no.
    let is : after ≡ seen = e ∙ cond-false new (seen ++ y ∷ []) seen no in (
      λ c. subst (λ ys. Contains ys x) (sym more) (Contains-append_left (take i list) (y ∷ []) x ((h x).0 (subst (λ ys. Contains ys x) is c))),
      λ c. subst (λ ys. Contains ys x) (sym is) (⊎_elim (λ a. (h x).1 a) (λ same. subst (λ z. Contains seen z) same (was.0 no)) (Contains-push_cases (take i list) y x (subst (λ ys. Contains ys x) more c))),
    ))
    (cases_Bool new)

pub same_all : (xs list : List ℕ) (i : ℕ) → length list ≤ i → HasSame xs (take i list) → HasSame xs list
same_all xs list i l h = subst (HasSame xs) (take_all i list l) h

-- a row more
pub row_before : (rows : List (List ℕ)) (row : List ℕ) (p : ℕ) → p < length rows → row_at (rows ++ row ∷ []) p ≡ row_at rows p
row_before rows row p l = get_or_append_left rows (row ∷ []) [] p l

pub row_last : (rows : List (List ℕ)) (row : List ℕ) (p : ℕ) → length rows ≡ p → row_at (rows ++ row ∷ []) p ≡ row
row_last rows row p e = get_or_push rows row [] p e

-- so many rows contain the same numbers as others
pub record AreSame (once lists : List (List ℕ)) (n : ℕ) : Type 0 where
  pub count : length once ≡ n
  pub same : (p x : ℕ) → p < n → Contains (row_at once p) x ↔ Contains (row_at lists p) x

pub no_rows_same : (lists : List (List ℕ)) → AreSame [] lists 0
no_rows_same lists = record { count = refl; same = λ p x l. absurd (omega arith) }

pub rows_same : (once lists : List (List ℕ)) (n : ℕ) (row : List ℕ) → AreSame once lists n → HasSame row (row_at lists n) → AreSame (once ++ row ∷ []) lists (n + 1)
rows_same once lists n row h k =
    record {
      count = length_push once row ∙ ap (λ m. m + 1) h.count;
      same = λ p x l.
          ⊎_elim
          (λ e. subst (λ m. Contains (row_at (once ++ row ∷ []) m) x ↔ Contains (row_at lists m) x) (sym e) (subst (λ r. Contains r x ↔ Contains (row_at lists n) x) (sym (row_last once row n h.count)) (k x)))
          (λ ne. subst (λ r. Contains r x ↔ Contains (row_at lists p) x) (sym (row_before once row p (omega (arith, h.count)))) (h.same p x (omega arith)))
          (cases_eq p n);
    }

-- the numbers of a list that are marked
abbrev pub HasBoth : List ℕ → List ℕ → List ℕ → Type 0
HasBoth found list marks = (x : ℕ) → Contains found x ↔ (Contains list x × Contains marks x)

pub both_none : (list marks : List ℕ) → HasBoth [] (take 0 list) marks
both_none list marks x = (λ c. absurd (none_in x c), λ c. absurd (none_in x c.0))

module _ (found list marks : List ℕ) (i : ℕ) (l : i < length list) (h : HasBoth found (take i list) marks) where
  abbrev y : ℕ
  y = get_or list i 0

  more : take (i + 1) list ≡ take i list ++ y ∷ []
  more = take_more list i 0 l

  pub both_more : Contains marks y → HasBoth (found ++ y ∷ []) (take (i + 1) list) marks
  both_more m x = (
    λ c.
        ⊎_elim
        (λ a. let k = (h x).0 a in (subst (λ ys. Contains ys x) (sym more) (Contains-append_left (take i list) (y ∷ []) x k.0), k.1))
        (λ same. (subst (λ ys. Contains ys x) (sym more) (subst (λ z. Contains (take i list ++ y ∷ []) z) same (Contains-push (take i list) y)), subst (λ z. Contains marks z) same m))
        (Contains-push_cases found y x c),
    λ c.
        ⊎_elim
        (λ a. Contains-append_left found (y ∷ []) x ((h x).1 (a, c.1)))
        (λ same. subst (λ z. Contains (found ++ y ∷ []) z) same (Contains-push found y))
        (Contains-push_cases (take i list) y x (subst (λ ys. Contains ys x) more c.0)),
  )

  pub both_less : (Contains marks y → ⊥) → HasBoth found (take (i + 1) list) marks
  both_less m x = (
    λ c. let k = (h x).0 c in (subst (λ ys. Contains ys x) (sym more) (Contains-append_left (take i list) (y ∷ []) x k.0), k.1),
    λ c. ⊎_elim (λ a. (h x).1 (a, c.1)) (λ same. absurd (m (subst (λ z. Contains marks z) (sym same) c.1))) (Contains-push_cases (take i list) y x (subst (λ ys. Contains ys x) more c.0)),
  )

pub both_step : (found after list marks : List ℕ) (i : ℕ) (b : Bool) → i < length list → HasBoth found (take i list) marks → after ≡ cond b (found ++ get_or list i 0 ∷ []) found → ((b ≡ true) ↔ Contains marks (get_or list i 0)) → HasBoth after (take (i + 1) list) marks
both_step found after list marks i b l h e is =
    ⊎_elim
    (λ yes. subst (λ xs. HasBoth xs (take (i + 1) list) marks) (sym (e ∙ cond-true b (found ++ get_or list i 0 ∷ []) found yes)) (both_more found list marks i l h (is.0 yes)))
    (λ no. subst (λ xs. HasBoth xs (take (i + 1) list) marks) (sym (e ∙ cond-false b (found ++ get_or list i 0 ∷ []) found no)) (both_less found list marks i l h (λ m. both_ways b no (is.1 m))))
    (cases_Bool b)

pub both_all : (found list marks : List ℕ) (i : ℕ) → length list ≤ i → HasBoth found (take i list) marks → HasBoth found list marks
both_all found list marks i l h = subst (λ ys. HasBoth found ys marks) (take_all i list l) h

-- so many rows contain what two others share
pub record AreShared (shared watched driven : List (List ℕ)) (n : ℕ) : Type 0 where
  pub count : length shared ≡ n
  pub both : (p x : ℕ) → p < n → Contains (row_at shared p) x ↔ (Contains (row_at watched p) x × Contains (row_at driven p) x)

pub no_rows_shared : (watched driven : List (List ℕ)) → AreShared [] watched driven 0
no_rows_shared watched driven = record { count = refl; both = λ p x l. absurd (omega arith) }

pub rows_shared : (shared watched driven : List (List ℕ)) (n : ℕ) (row marks : List ℕ) → AreShared shared watched driven n → HasBoth row (row_at watched n) marks → HasSame marks (row_at driven n) → AreShared (shared ++ row ∷ []) watched driven (n + 1)
rows_shared shared watched driven n row marks h k m =
    record {
      count = length_push shared row ∙ ap (λ i. i + 1) h.count;
      both = λ p x l.
          ⊎_elim
          (λ e.
          let here : Contains row x ↔ (Contains (row_at watched n) x × Contains (row_at driven n) x) = (λ c. let b = (k x).0 c in (b.0, (m x).0 b.1), λ c. (k x).1 (c.0, (m x).1 c.1)) in
          subst (λ i. Contains (row_at (shared ++ row ∷ []) i) x ↔ (Contains (row_at watched i) x × Contains (row_at driven i) x)) (sym e) (subst (λ r. Contains r x ↔ (Contains (row_at watched n) x × Contains (row_at driven n) x)) (sym (row_last shared row n h.count)) here))
          (λ ne. subst (λ r. Contains r x ↔ (Contains (row_at watched p) x × Contains (row_at driven p) x)) (sym (row_before shared row p (omega (arith, h.count)))) (h.both p x (omega arith)))
          (cases_eq p n);
    }
