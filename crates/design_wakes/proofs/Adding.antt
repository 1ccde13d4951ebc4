-- One number after another is added to rows.
use Rattle.std.proofs.Common.{◌≡◌, ◌≢◌, ◌↔◌, ◌⊎◌, inl, inr, ⊎_elim, ◌∙◌, ℕ, ◌+◌, ◌<◌, List, [], ◌∷◌, ◌++◌, length, get_or, set, map, take, replicate, refl, sym, ap, subst, arith}
use Rattle.std.specs.List.{Contains}
use Rattle.std.proofs.lemmas.Bool.{cases_eq, cases_lt}
use Rattle.std.proofs.lemmas.List.{get_or_past, get_or-set_same, get_or-set_other, get_or-map, get_or-replicate, length-map, length-replicate, length-set, map-set, take_more}
use Rattle.std.proofs.lemmas.List.Elements.{Contains-append_left, Contains-push, Contains-push_cases}
use Rattle.index_sets.specs.Rows.{row_at}
use Rattle.design_wakes.specs.Transpose.{AddsPairs, IsTranspose}

-- nothing is put in
pub none_added : (P : ℕ → ℕ → Type 0) (xs : List (List ℕ)) → ((x p : ℕ) → x < length xs → P x p → ⊥) → AddsPairs P xs xs
none_added P xs none = record { count = refl; has = λ x p l. (λ c. inl c, ⊎_elim (λ c. c) (λ q. absurd (none x p l q))) }

-- one after the other
pub both_added : (P Q : ℕ → ℕ → Type 0) (xs ys zs : List (List ℕ)) → AddsPairs P xs ys → AddsPairs Q ys zs → AddsPairs (λ x p. P x p ⊎ Q x p) xs zs
both_added P Q xs ys zs h k =
    record {
      count = k.count ∙ h.count;
      has = λ x p l.
          let m : x < length ys = omega (arith, h.count) in
          let one = h.has x p l in
          let two = k.has x p m in
          (λ c. ⊎_elim (λ d. ⊎_elim (λ a. inl a) (λ q. inr (inl q)) (one.0 d)) (λ q. inr (inr q)) (two.0 c), ⊎_elim (λ a. two.1 (inl (one.1 (inl a)))) (⊎_elim (λ q. two.1 (inl (one.1 (inr q)))) (λ q. two.1 (inr q))));
    }

-- the same, said otherwise
pub same_added : (P Q : ℕ → ℕ → Type 0) (xs ys : List (List ℕ)) → ((x p : ℕ) → P x p → Q x p) → ((x p : ℕ) → Q x p → P x p) → AddsPairs P xs ys → AddsPairs Q xs ys
same_added P Q xs ys to from h =
    record { count = h.count; has = λ x p l. (λ c. ⊎_elim (λ a. inl a) (λ q. inr (to x p q)) ((h.has x p l).0 c), ⊎_elim (λ a. (h.has x p l).1 (inl a)) (λ q. (h.has x p l).1 (inr (from x p q)))) }

-- one number, to the row of an item
module _ (xs : List (List ℕ)) (item number : ℕ) (l : item < length xs) where
  abbrev after : List (List ℕ)
  after = set xs item (row_at xs item ++ number ∷ [])

  same_row : row_at after item ≡ row_at xs item ++ number ∷ []
  same_row = get_or-set_same xs item (row_at xs item ++ number ∷ []) [] l

  at_item : (p : ℕ) → Contains (row_at after item) p ↔ (Contains (row_at xs item) p ⊎ ((item ≡ item) × (number ≡ p)))
  at_item p = (
    λ c. ⊎_elim (λ a. inl a) (λ e. inr (refl, e)) (Contains-push_cases (row_at xs item) number p (subst (λ r. Contains r p) same_row c)),
    λ c. subst (λ r. Contains r p) (sym same_row) (⊎_elim (λ a. Contains-append_left (row_at xs item) (number ∷ []) p a) (λ e. subst (λ y. Contains (row_at xs item ++ number ∷ []) y) e.1 (Contains-push (row_at xs item) number)) c),
  )

  at_other : (x p : ℕ) → x ≢ item → Contains (row_at after x) p ↔ (Contains (row_at xs x) p ⊎ ((item ≡ x) × (number ≡ p)))
  at_other x p apart =
      let same : row_at after x ≡ row_at xs x = get_or-set_other xs item x (row_at xs item ++ number ∷ []) [] apart in (
        λ c. inl (subst (λ r. Contains r p) same c),
        λ c. subst (λ r. Contains r p) (sym same) (⊎_elim (λ a. a) (λ e. absurd (apart (sym e.0))) c),
      )

  pub one_added : AddsPairs (λ x p. (item ≡ x) × (number ≡ p)) xs after
  one_added =
      record {
        count = length-set xs item (row_at xs item ++ number ∷ []);
        has = λ x p m. ⊎_elim (λ e. subst (λ y. Contains (row_at after y) p ↔ (Contains (row_at xs y) p ⊎ ((item ≡ y) × (number ≡ p)))) e (at_item p)) (λ n. at_other x p (λ e. n (sym e))) (cases_eq item x);
      }

-- one number, to the vector of an item
module _ {V : Type 0} (f : V → List ℕ) (xs : List V) (item : ℕ) (old : V) (l : item < length xs) (e : old ≡ get_or xs item old) where
  pub item_row : row_at (map f xs) item ≡ f old
  item_row = get_or-map f xs item old [] l ∙ ap f (sym e)

  pub item_added : (number : ℕ) (new : V) → f new ≡ f old ++ number ∷ [] → AddsPairs (λ x p. (item ≡ x) × (number ≡ p)) (map f xs) (map f (set xs item new))
  item_added number new n =
      let within : item < length (map f xs) = omega (arith, l, length-map xs f) in
      let is : map f (set xs item new) ≡ set (map f xs) item (row_at (map f xs) item ++ number ∷ []) = map-set f xs item new ∙ ap (set (map f xs) item) (n ∙ ap (λ r. r ++ number ∷ []) (sym item_row)) in
      subst (λ zs. AddsPairs (λ x p. (item ≡ x) × (number ≡ p)) (map f xs) zs) (sym is) (one_added (map f xs) item number within)

-- no items of a list
pub items_none : (items : List ℕ) (number : ℕ) (xs : List (List ℕ)) → AddsPairs (λ x p. Contains (take 0 items) x × (number ≡ p)) xs xs
items_none items number xs = none_added (λ x p. Contains (take 0 items) x × (number ≡ p)) xs (λ x p l q. absurd (omega (arith, q.0.1)))

-- one item more
pub items_more : (items : List ℕ) (number : ℕ) (xs ys zs : List (List ℕ)) (i : ℕ) → i < length items → AddsPairs (λ x p. Contains (take i items) x × (number ≡ p)) xs ys → AddsPairs (λ x p. (get_or items i 0 ≡ x) × (number ≡ p)) ys zs → AddsPairs (λ x p. Contains (take (i + 1) items) x × (number ≡ p)) xs zs
items_more items number xs ys zs i l h k =
    let y = get_or items i 0 in
    let more : take (i + 1) items ≡ take i items ++ y ∷ [] = take_more items i 0 l in
    let P : ℕ → ℕ → Type 0 = λ x p. Contains (take i items) x × (number ≡ p) in
    let Q : ℕ → ℕ → Type 0 = λ x p. (y ≡ x) × (number ≡ p) in
    same_added (λ x p. P x p ⊎ Q x p) (λ x p. Contains (take (i + 1) items) x × (number ≡ p)) xs zs
    (λ x p. ⊎_elim (λ q. (subst (λ ws. Contains ws x) (sym more) (Contains-append_left (take i items) (y ∷ []) x q.0), q.1)) (λ q. (subst (λ ws. Contains ws x) (sym more) (subst (λ z. Contains (take i items ++ y ∷ []) z) q.0 (Contains-push (take i items) y)), q.1)))
    (λ x p q. ⊎_elim (λ c. inl (c, q.1)) (λ e. inr (e, q.1)) (Contains-push_cases (take i items) y x (subst (λ ws. Contains ws x) more q.0)))
    (both_added P Q xs ys zs h k)

-- the lists so far are added
abbrev pub So : List (List ℕ) → ℕ → ℕ → ℕ → Type 0
So lists n x p = (p < n) × Contains (row_at lists p) x

pub lists_none : (lists xs : List (List ℕ)) → AddsPairs (So lists 0) xs xs
lists_none lists xs = none_added (So lists 0) xs (λ x p l q. absurd (omega (arith, q.0)))

-- one list more
pub lists_more : (lists xs ys zs : List (List ℕ)) (n : ℕ) (items : List ℕ) → row_at lists n ≡ items → AddsPairs (So lists n) xs ys → AddsPairs (λ x p. Contains items x × (n ≡ p)) ys zs → AddsPairs (So lists (n + 1)) xs zs
lists_more lists xs ys zs n items is h k =
    let Q : ℕ → ℕ → Type 0 = λ x p. Contains items x × (n ≡ p) in
    same_added (λ x p. So lists n x p ⊎ Q x p) (So lists (n + 1)) xs zs
    (λ x p. ⊎_elim (λ q. (omega (arith, q.0), q.1)) (λ q. (omega (arith, q.1), subst (λ j. Contains (row_at lists j) x) q.1 (subst (λ r. Contains r x) (sym is) q.0))))
    (λ x p q. ⊎_elim (λ e. inr (subst (λ r. Contains r x) is (subst (λ j. Contains (row_at lists j) x) (sym e) q.1), e)) (λ m. inl (omega (arith, q.0, m), q.1)) (cases_eq n p))
    (both_added (So lists n) Q xs ys zs h k)

none_in : (p : ℕ) → Contains [] p → ⊥
none_in p c = absurd (omega (arith, c.1))

list_inside : (lists : List (List ℕ)) (x p : ℕ) → Contains (row_at lists p) x → p < length lists
list_inside lists x p c = ⊎_elim (λ l. l) (λ past. absurd (none_in x (subst (λ r. Contains r x) (get_or_past lists p [] past) c))) (cases_lt p (length lists))

-- all lists are added to empty rows
pub all_added : (lists rows : List (List ℕ)) (count : ℕ) → AddsPairs (So lists (length lists)) (replicate count []) rows → IsTranspose lists count rows
all_added lists rows count h =
    let size : length (replicate count []) ≡ count = length-replicate count [] in
    record {
      count_is = h.count ∙ size;
      has = λ x p l.
          let inside : x < length (replicate count []) = omega (arith, size) in
          let empty : row_at (replicate count []) x ≡ [] = get_or-replicate count x [] [] l in (
            λ c. ⊎_elim (λ a. absurd (none_in p (subst (λ r. Contains r p) empty a))) (λ q. q.1) ((h.has x p inside).0 c),
            λ c. (h.has x p inside).1 (inr (list_inside lists x p c, c)),
          );
    }
