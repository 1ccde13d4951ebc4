-- Lists without repetition, and what a filter leaves of an order.
use Rattle.std.proofs.Common.{◌≡◌, ◌⊎◌, inl, inr, ⊎_elim, ◌∙◌, ℕ, zero, suc, ◌+◌, ◌<◌, Bool, true, false, cond, List, [], ◌∷◌, ◌++◌, length, get_or, refl, sym, ap, subst, arith}
use Rattle.std.specs.Prelude.{filter}
use Rattle.std.specs.List.{Contains}
use Rattle.std.proofs.lemmas.Bool.{both_ways, cases_Bool}
use Rattle.design_model.specs.Design.{AreDistinct, In}
use Rattle.rank_order.specs.Order.{ComesBefore, IsOnce}
use Rattle.rank_order.proofs.Orders.{before_second, contains_cases, contains_head, contains_none, contains_tail}
use Rattle.replay_model.specs.Tables.{StandsBefore}

pub contains_in : (x : ℕ) (xs : List ℕ) → Contains xs x → In x xs
contains_in x [] c = contains_none x c
contains_in x (y ∷ xs) c = ⊎_elim (λ e. inl e) (λ r. inr (contains_in x xs r)) (contains_cases y x xs c)

pub in_contains : (x : ℕ) (xs : List ℕ) → In x xs → Contains xs x
in_contains x [] i = absurd i
in_contains x (y ∷ xs) i = ⊎_elim (λ e. subst (λ z. Contains (y ∷ xs) z) e (contains_head y xs)) (λ r. contains_tail y x xs (in_contains x xs r)) i

-- one more at the end
pub in_left : (x : ℕ) (xs ys : List ℕ) → In x xs → In x (xs ++ ys)
in_left x [] ys i = absurd i
in_left x (z ∷ xs) ys i = ⊎_elim (λ e. inl e) (λ r. inr (in_left x xs ys r)) i

pub in_right : (x : ℕ) (xs ys : List ℕ) → In x ys → In x (xs ++ ys)
in_right x [] ys i = i
in_right x (z ∷ xs) ys i = inr (in_right x xs ys i)

pub in_either : (x : ℕ) (xs ys : List ℕ) → In x (xs ++ ys) → In x xs ⊎ In x ys
in_either x [] ys i = inr i
in_either x (z ∷ xs) ys i = ⊎_elim (λ e. inl (inl e)) (λ r. ⊎_elim (λ a. inl (inr a)) (λ b. inr b) (in_either x xs ys r)) i

pub distinct_both : (xs ys : List ℕ) → AreDistinct xs → AreDistinct ys → ((x : ℕ) → In x xs → In x ys → ⊥) → AreDistinct (xs ++ ys)
distinct_both [] ys a b apart = b
distinct_both (x ∷ xs) ys a b apart = (
  λ i. ⊎_elim (λ l. a.0 l) (λ r. apart x (inl refl) r) (in_either x xs ys i),
  distinct_both xs ys a.1 b (λ y i j. apart y (inr i) j),
)

pub distinct_more : (x : ℕ) (xs : List ℕ) → AreDistinct xs → (In x xs → ⊥) → AreDistinct (xs ++ x ∷ [])
distinct_more x xs a new = distinct_both xs (x ∷ []) a (λ i. absurd i, tt) (λ y i j. ⊎_elim (λ e. new (subst (λ z. In z xs) (sym e) i)) (λ none. absurd none) j)

-- what a filter leaves
module _ (t : ℕ → Bool) where
  pub in_filter : (x : ℕ) (xs : List ℕ) → In x (filter t xs) → In x xs × (t x ≡ true)
  in_filter x [] i = absurd i
  in_filter x (y ∷ xs) i =
      ⊎_elim
      (λ yes.
      let j : In x (y ∷ filter t xs) = subst (λ b. In x (cond b (y ∷ filter t xs) (filter t xs))) yes i in
      ⊎_elim (λ e. (inl e, subst (λ z. t z ≡ true) e yes)) (λ r. let k = in_filter x xs r in (inr k.0, k.1)) j)
      (λ no.
      let j : In x (filter t xs) = subst (λ b. In x (cond b (y ∷ filter t xs) (filter t xs))) no i in
      let k = in_filter x xs j in (inr k.0, k.1))
      (cases_Bool (t y))

  pub filter_in : (x : ℕ) (xs : List ℕ) → In x xs → t x ≡ true → In x (filter t xs)
  filter_in x [] i e = absurd i
  filter_in x (y ∷ xs) i e =
      ⊎_elim
      (λ yes.
      let j : In x (y ∷ filter t xs) = ⊎_elim (λ same. inl same) (λ r. inr (filter_in x xs r e)) i in
      subst (λ b. In x (cond b (y ∷ filter t xs) (filter t xs))) (sym yes) j)
      (λ no.
      let j : In x (filter t xs) = ⊎_elim (λ same. absurd (both_ways (t y) no (subst (λ z. t z ≡ true) (sym same) e))) (λ r. filter_in x xs r e) i in
      subst (λ b. In x (cond b (y ∷ filter t xs) (filter t xs))) (sym no) j)
      (cases_Bool (t y))

  pub distinct_filter : (xs : List ℕ) → IsOnce xs → AreDistinct (filter t xs)
  distinct_filter [] h = tt
  distinct_filter (y ∷ xs) h =
      ⊎_elim
      (λ yes. subst (λ b. AreDistinct (cond b (y ∷ filter t xs) (filter t xs))) (sym yes) (λ i. h.0 (in_contains y xs (in_filter y xs i).0), distinct_filter xs h.1))
      (λ no. subst (λ b. AreDistinct (cond b (y ∷ filter t xs) (filter t xs))) (sym no) (distinct_filter xs h.1))
      (cases_Bool (t y))

  pub before_filter : (q p : ℕ) (xs : List ℕ) → ComesBefore q xs p → t q ≡ true → t p ≡ true → StandsBefore q (filter t xs) p
  before_filter q p [] h a b = absurd h
  before_filter q p (y ∷ xs) h a b =
      ⊎_elim
      (λ yes.
      let j : StandsBefore q (y ∷ filter t xs) p = ⊎_elim (λ here. inl (here.0, filter_in p xs (contains_in p xs here.1) b)) (λ later. inr (before_filter q p xs later a b)) h in
      subst (λ c. StandsBefore q (cond c (y ∷ filter t xs) (filter t xs)) p) (sym yes) j)
      (λ no.
      let j : StandsBefore q (filter t xs) p = ⊎_elim (λ here. absurd (both_ways (t y) no (subst (λ z. t z ≡ true) (sym here.0) a))) (λ later. before_filter q p xs later a b) h in
      subst (λ c. StandsBefore q (cond c (y ∷ filter t xs) (filter t xs)) p) (sym no) j)
      (cases_Bool (t y))
