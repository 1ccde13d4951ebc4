-- The signals of the codes that have changed, and vectors that are the same.
use Rattle.std.proofs.Common.{◌≡◌, ◌⊎◌, ◌↔◌, inl, inr, ⊎_elim, ◌∙◌, ℕ, ◌+◌, ◌<◌, ◌≤◌, Bool, true, false, cond, List, [], ◌∷◌, ◌++◌, Option, length, get_or, take, refl, sym, ap, subst, arith}
use Rattle.std.specs.List.{Contains}
use Rattle.std.proofs.Math.Bool.{beq}
use Rattle.std.proofs.lemmas.Bool.{cases_lt}
use Rattle.std.proofs.lemmas.List.{get_or_default, same_lists, take_more}
use Rattle.std.proofs.lemmas.List.Elements.{Contains-append_left, Contains-push, Contains-push_cases}
use Rattle.four_state.specs.Masks.{bit_in_masks, is_one_or_z, is_set, is_strange, mask_of}
use Rattle.four_state.specs.Vector.{Vector}
use Rattle.four_state.proofs.PartLaws.{masks_at}
use Rattle.index_sets.specs.Members.{Members}
use Rattle.index_sets.specs.Rows.{row_at}
use Rattle.code_values.specs.Values.{AddsChanged, AddsRow, AreChanged, IsChanged, Values}

-- two vectors of the same masks
pub same_vector : (v w : Vector) → mask_of is_one_or_z v.bits ≡ mask_of is_one_or_z w.bits → mask_of is_strange v.bits ≡ mask_of is_strange w.bits → length v.bits ≡ length w.bits → v.signed ≡ w.signed → v ≡ w
same_vector v w ones strange width sign =
    let bits : v.bits ≡ w.bits = same_lists v.bits w.bits width (λ k d l. sym (masks_at v.bits k d l) ∙ ap (λ m. bit_in_masks (is_set m k) (is_set (mask_of is_strange v.bits) k)) ones ∙ ap (λ m. bit_in_masks (is_set (mask_of is_one_or_z w.bits) k) (is_set m k)) strange ∙ masks_at w.bits k d (omega (arith, l, width))) in
    ap (λ bs. record { bits = bs; signed = v.signed }) bits ∙ ap (λ s. record { bits = w.bits; signed = s }) sign

-- signs that a test finds to be the same
pub same_signs : (a b : Bool) → (beq a b ≡ true) ↔ (a ≡ b)
same_signs false false = (λ e. refl, λ e. refl)
same_signs true true = (λ e. refl, λ e. refl)
same_signs false true = (λ e. cc, λ e. cc)
same_signs true false = (λ e. cc, λ e. cc)

-- ---- rows

-- one number is put in
pub one_in : (xs ys : List ℕ) (n : ℕ) (r : Bool) → (r ≡ false → Contains xs n) → ys ≡ cond r (xs ++ n ∷ []) xs → (s : ℕ) → Contains ys s ↔ (Contains xs s ⊎ (n ≡ s))
one_in xs ys n true there is s = (
  λ c. Contains-push_cases xs n s (subst (λ zs. Contains zs s) is c),
  ⊎_elim (λ c. subst (λ zs. Contains zs s) (sym is) (Contains-append_left xs (n ∷ []) s c)) (λ e. subst (λ zs. Contains zs s) (sym is) (subst (Contains (xs ++ n ∷ [])) e (Contains-push xs n))),
)
one_in xs ys n false there is s = (
  λ c. inl (subst (λ zs. Contains zs s) is c),
  ⊎_elim (λ c. subst (λ zs. Contains zs s) (sym is) c) (λ e. subst (λ zs. Contains zs s) (sym is) (subst (Contains xs) e (there refl))),
)

-- the members of a front that is one longer
more_front : (row : List ℕ) (i : ℕ) (s : ℕ) → i < length row → Contains (take (i + 1) row) s ↔ (Contains (take i row) s ⊎ (get_or row i 0 ≡ s))
more_front row i s l = (
  λ c. Contains-push_cases (take i row) (get_or row i 0) s (subst (λ zs. Contains zs s) (take_more row i 0 l) c),
  ⊎_elim (λ c. subst (λ zs. Contains zs s) (sym (take_more row i 0 l)) (Contains-append_left (take i row) (get_or row i 0 ∷ []) s c)) (λ e. subst (λ zs. Contains zs s) (sym (take_more row i 0 l)) (subst (Contains (take i row ++ get_or row i 0 ∷ [])) e (Contains-push (take i row) (get_or row i 0)))),
)

pub row_none : (row xs : List ℕ) → AddsRow (take 0 row) xs xs
row_none row xs s = (λ c. inl c, ⊎_elim (λ c. c) (λ c. absurd (omega (arith, c.1))))

pub row_more : (row before now after : List ℕ) (i : ℕ) → i < length row → AddsRow (take i row) before now → ((s : ℕ) → Contains after s ↔ (Contains now s ⊎ (get_or row i 0 ≡ s))) → AddsRow (take (i + 1) row) before after
row_more row before now after i l h one s = (
  λ c. ⊎_elim (λ a. ⊎_elim (λ b. inl b) (λ b. inr ((more_front row i s l).1 (inl b))) ((h s).0 a)) (λ e. inr ((more_front row i s l).1 (inr e))) ((one s).0 c),
  ⊎_elim (λ a. (one s).1 (inl ((h s).1 (inl a)))) (λ a. ⊎_elim (λ b. (one s).1 (inl ((h s).1 (inr b)))) (λ e. (one s).1 (inr e)) ((more_front row i s l).0 a)),
)

-- ---- codes

-- the signals of the codes at these places are put in
abbrev pub AddsSoFar : Values → List (List ℕ) → List ℕ → ℕ → List ℕ → List ℕ → Type 0
AddsSoFar t signals given place before after = (s : ℕ) → Contains after s ↔ (Contains before s ⊎ ((k : ℕ) × (k < place) × (k < length given) × IsChanged t (get_or given k 0) × Contains (row_at signals (get_or given k 0)) s))

pub none_so_far : (t : Values) (signals : List (List ℕ)) (given xs : List ℕ) → AddsSoFar t signals given 0 xs xs
none_so_far t signals given xs s = (λ c. inl c, ⊎_elim (λ c. c) (λ c. absurd (omega (arith, c.1))))

pub changed_more : (t : Values) (signals : List (List ℕ)) (given before now after : List ℕ) (place : ℕ) → place < length given → IsChanged t (get_or given place 0)
    → AddsSoFar t signals given place before now → AddsRow (row_at signals (get_or given place 0)) now after → AddsSoFar t signals given (place + 1) before after
changed_more t signals given before now after place l is h row s = (
  λ c. ⊎_elim (λ a. ⊎_elim (λ b. inl b) (λ b. inr (b.0, omega (arith, b.1), b.2, b.3, b.4)) ((h s).0 a)) (λ a. inr (place, omega arith, l, is, a)) ((row s).0 c),
  ⊎_elim (λ a. (row s).1 (inl ((h s).1 (inl a)))) (λ a. ⊎_elim (λ m. (row s).1 (inl ((h s).1 (inr (a.0, m, a.2, a.3, a.4))))) (λ m. let e : a.0 ≡ place = omega (arith, a.1, m) in (row s).1 (inr (subst (λ k. Contains (row_at signals (get_or given k 0)) s) e a.4))) (cases_lt a.0 place)),
)

pub same_more : (t : Values) (signals : List (List ℕ)) (given before now : List ℕ) (place : ℕ) → (IsChanged t (get_or given place 0) → ⊥)
    → AddsSoFar t signals given place before now → AddsSoFar t signals given (place + 1) before now
same_more t signals given before now place is h s = (
  λ c. ⊎_elim (λ b. inl b) (λ b. inr (b.0, omega (arith, b.1), b.2, b.3, b.4)) ((h s).0 c),
  ⊎_elim (λ a. (h s).1 (inl a)) (λ a. ⊎_elim (λ m. (h s).1 (inr (a.0, m, a.2, a.3, a.4))) (λ m. let e : a.0 ≡ place = omega (arith, a.1, m) in absurd (is (subst (λ k. IsChanged t (get_or given k 0)) e a.3))) (cases_lt a.0 place)),
)

pub all_changed : (closed last : List (Option Vector)) (given : Members) (signals : List (List ℕ)) (before after : List ℕ) (place : ℕ) → AreChanged closed last given → length given.items ≤ place
    → AddsSoFar (record { closed = closed; last = last }) signals given.items place before after → AddsChanged (record { closed = closed; last = last }) signals before after
all_changed closed last given signals before after place h end a s = (
  λ c. ⊎_elim (λ b. inl b) (λ b. inr (get_or given.items b.0 0, b.3, b.4)) ((a s).0 c),
  ⊎_elim (λ b. (a s).1 (inl b)) (λ b. ⊎_elim (λ c. let e : get_or given.items c.0 0 ≡ b.0 = get_or_default given.items c.0 0 b.0 c.1 ∙ c.2 in
      (a s).1 (inr (c.0, omega (arith, c.1, end), c.1, subst (IsChanged (record { closed = closed; last = last })) (sym e) b.1, subst (λ x. Contains (row_at signals x) s) (sym e) b.2))) (λ e. absurd (b.1 e)) (h.others b.0)),
)
