-- Lists of processes, and what a test leaves of them.
use Rattle.std.proofs.Common.{◌≡◌, ◌⊎◌, inl, inr, ⊎_elim, ◌∙◌, ◌==◌, ℕ, zero, suc, ◌+◌, ◌<◌, Bool, true, false, if◌then◌else◌, List, [], ◌∷◌, ◌++◌, drop, get_or, length, map, refl, sym, ap, subst, append_assoc, drop-cons, arith, eq-eqb}
use Rattle.std.specs.List.{All, filter}
use Rattle.std.proofs.lemmas.Bool.{both_ways, or_left, or_right}
use Rattle.std.proofs.lemmas.List.{append-nil, length-map}
use Rattle.std.proofs.lemmas.List.Elements.{All-head, All-tail, filter-append}
use Rattle.design_model.specs.Design.{AreDistinct, Design, In}
use Rattle.design_model.specs.View.{design_view, process_view}
use Rattle.design_model.specs.declared.design.Design.{Design as CodeDesign}
use Rattle.wake_list.specs.Members.{IsOnce, has}

module _ (f : ℕ → Bool) where
  -- what is left was there and passes the test
  pub in_filter : (p : ℕ) (xs : List ℕ) → In p (filter f xs) → In p xs × (f p ≡ true)
  in_filter p [] i = absurd i
  in_filter p (y ∷ ys) i = go (f y) refl (in_filter p ys) i
    where
      go : (b : Bool) → f y ≡ b → (In p (filter f ys) → In p ys × (f p ≡ true)) → In p (if b then y ∷ filter f ys else filter f ys) → In p (y ∷ ys) × (f p ≡ true)
      go true e rest (inl same) = (inl same, subst (λ z. f z ≡ true) same e)
      go true e rest (inr j) = (inr (rest j).0, (rest j).1)
      go false e rest j = (inr (rest j).0, (rest j).1)

  -- what was there and passes is left
  pub filter_in : (p : ℕ) (xs : List ℕ) → In p xs → f p ≡ true → In p (filter f xs)
  filter_in p [] i e = absurd i
  filter_in p (y ∷ ys) i e = go (f y) refl (λ j. filter_in p ys j e) i
    where
      go : (b : Bool) → f y ≡ b → (In p ys → In p (filter f ys)) → In p (y ∷ ys) → In p (if b then y ∷ filter f ys else filter f ys)
      go true h rest (inl same) = inl same
      go true h rest (inr j) = inr (rest j)
      go false h rest (inl same) = absurd (both_ways (f y) h (subst (λ z. f z ≡ true) (sym same) e))
      go false h rest (inr j) = rest j

  -- each is left once
  pub distinct_filter : (xs : List ℕ) → AreDistinct xs → AreDistinct (filter f xs)
  distinct_filter [] h = tt
  distinct_filter (y ∷ ys) h = go (f y) refl (distinct_filter ys h.1)
    where
      go : (b : Bool) → f y ≡ b → AreDistinct (filter f ys) → AreDistinct (if b then y ∷ filter f ys else filter f ys)
      go true e rest = (λ i. h.0 (in_filter y ys i).0, rest)
      go false e rest = rest

-- two tests with the same answers leave the same
pub filter_same : (f g : ℕ → Bool) (xs : List ℕ) → ((p : ℕ) → f p ≡ g p) → filter f xs ≡ filter g xs
filter_same f g [] same = refl
filter_same f g (y ∷ ys) same = ap (λ b. if b then y ∷ filter f ys else filter f ys) (same y) ∙ ap (λ zs. if g y then y ∷ zs else zs) (filter_same f g ys same)

-- the next one passes
pub filter_taken : (f : ℕ → Bool) (xs : List ℕ) (p : ℕ) (rest : List ℕ) → f p ≡ true → (xs ++ p ∷ []) ++ filter f rest ≡ xs ++ filter f (p ∷ rest)
filter_taken f xs p rest e = append_assoc xs (p ∷ []) (filter f rest) ∙ ap (λ b. xs ++ (if b then p ∷ filter f rest else filter f rest)) (sym e)

-- the next one does not
pub filter_passed : (f : ℕ → Bool) (p : ℕ) (rest : List ℕ) → f p ≡ false → filter f rest ≡ filter f (p ∷ rest)
filter_passed f p rest e = ap (λ b. if b then p ∷ filter f rest else filter f rest) (sym e)

-- the next one of those that are left
pub next_left : (xs : List ℕ) (i : ℕ) → i < length xs → drop i xs ≡ get_or xs i 0 ∷ drop (i + 1) xs
next_left xs i l = let one : suc i ≡ i + 1 = omega arith in drop-cons xs i 0 l ∙ ap (λ n. get_or xs i 0 ∷ drop n xs) one

-- it is in the list
pub next_in : (xs : List ℕ) (i : ℕ) → i < length xs → In (get_or xs i 0) xs
next_in [] i l = absurd (omega (arith, l))
next_in (x ∷ xs) zero l = inl refl
next_in (x ∷ xs) (suc i) l = inr (next_in xs i (omega (arith, l)))

-- of those so far the ones that pass are put after the first
module _ (f : ℕ → Bool) (first ran before after : List ℕ) (p : ℕ) (taken : after ≡ before ++ p ∷ []) where
  ends : (b : Bool) → f p ≡ b → filter f after ≡ filter f before ++ (if b then p ∷ [] else [])
  ends b e = ap (filter f) taken ∙ filter-append f before (p ∷ []) ∙ ap (λ c. filter f before ++ (if c then p ∷ [] else [])) e

  pub ran_more : f p ≡ true → ran ≡ first ++ filter f before → ran ++ p ∷ [] ≡ first ++ filter f after
  ran_more e is = ap (λ xs. xs ++ p ∷ []) is ∙ append_assoc first (filter f before) (p ∷ []) ∙ ap (λ xs. first ++ xs) (sym (ends true e))

  pub ran_less : f p ≡ false → ran ≡ first ++ filter f before → ran ≡ first ++ filter f after
  ran_less e is = is ∙ ap (λ xs. first ++ xs) (sym (ends false e ∙ append-nil (filter f before)))

-- what is in one of two lists is in both together
pub in_left : (p : ℕ) (xs ys : List ℕ) → In p xs → In p (xs ++ ys)
in_left p [] ys i = absurd i
in_left p (x ∷ xs) ys (inl same) = inl same
in_left p (x ∷ xs) ys (inr i) = inr (in_left p xs ys i)

pub in_right : (p : ℕ) (xs ys : List ℕ) → In p ys → In p (xs ++ ys)
in_right p [] ys i = i
in_right p (x ∷ xs) ys i = inr (in_right p xs ys i)

-- what is in two lists is in one of them
pub in_either : (p : ℕ) (xs ys : List ℕ) → In p (xs ++ ys) → In p xs ⊎ In p ys
in_either p [] ys i = inr i
in_either p (x ∷ xs) ys (inl same) = inl (inl same)
in_either p (x ∷ xs) ys (inr i) = ⊎_elim (λ a. inl (inr a)) (λ b. inr b) (in_either p xs ys i)

-- two lists that have nothing in common
pub distinct_both : (xs ys : List ℕ) → AreDistinct xs → AreDistinct ys → ((p : ℕ) → In p xs → In p ys → ⊥) → AreDistinct (xs ++ ys)
distinct_both [] ys a b apart = b
distinct_both (x ∷ xs) ys a b apart = (λ i. ⊎_elim (λ l. a.0 l) (λ r. apart x (inl refl) r) (in_either x xs ys i), distinct_both xs ys a.1 b (λ p i j. apart p (inr i) j))

has_in : (p : ℕ) (xs : List ℕ) → In p xs → has p xs ≡ true
has_in p [] i = absurd i
has_in p (x ∷ xs) (inl same) = or_left (p == x) (has p xs) (eq-eqb p x (sym same))
has_in p (x ∷ xs) (inr i) = or_right (p == x) (has p xs) (has_in p xs i)

-- the processes of a wake list differ
pub once_distinct : (xs : List ℕ) → IsOnce xs → AreDistinct xs
once_distinct [] h = tt
once_distinct (x ∷ xs) h = (λ i. both_ways _ h.0 (has_in x xs i), once_distinct xs h.1)

-- a number of the list has what each pair has
pub in_pairs : (n : ℕ) (qs : List (ℕ × ℕ)) → All (λ (q : ℕ × ℕ). q.0 < n) qs → (p : ℕ) → In p (map (λ (q : ℕ × ℕ). q.0) qs) → p < n
in_pairs n [] all p i = absurd i
in_pairs n (q ∷ qs) all p (inl same) = subst (λ z. z < n) same (All-head (λ (r : ℕ × ℕ). r.0 < n) q qs all)
in_pairs n (q ∷ qs) all p (inr i) = in_pairs n qs (All-tail (λ (r : ℕ × ℕ). r.0 < n) q qs all) p i

-- the processes of a wake list are those of the design
pub listed_inside : (c : CodeDesign) (d : Design) → design_view c ≡ d → (qs : List (ℕ × ℕ)) → All (λ (q : ℕ × ℕ). q.0 < length c.processes) qs → (p : ℕ) → In p (map (λ (q : ℕ × ℕ). q.0) qs) → p < length d.processes
listed_inside c d same qs all p i =
    let low = in_pairs (length c.processes) qs all p i in
    let count = length-map c.processes process_view in
    subst (λ (e : Design). p < length e.processes) same (omega (arith, low, count))

-- each number of a list that is below a bound by its place is so
pub in_below : (n : ℕ) (xs : List ℕ) → All (λ (p : ℕ). p < n) xs → (p : ℕ) → In p xs → p < n
in_below n [] all p i = absurd i
in_below n (x ∷ xs) all p (inl same) = subst (λ z. z < n) same (All-head (λ (q : ℕ). q < n) x xs all)
in_below n (x ∷ xs) all p (inr i) = in_below n xs (All-tail (λ (q : ℕ). q < n) x xs all) p i

in_at : (xs : List ℕ) (i d : ℕ) → i < length xs → In (get_or xs i d) xs
in_at [] i d l = absurd (omega (arith, l))
in_at (x ∷ xs) zero d l = inl refl
in_at (x ∷ xs) (suc i) d l = inr (in_at xs i d (omega (arith, l)))

-- and the other way round
pub all_below : (n : ℕ) (xs : List ℕ) → ((p : ℕ) → In p xs → p < n) → All (λ (p : ℕ). p < n) xs
all_below n xs below i d l = below (get_or xs i d) (in_at xs i d l)
