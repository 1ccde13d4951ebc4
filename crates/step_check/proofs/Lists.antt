-- Members of the lists of signals that are checked.
use Rattle.std.proofs.Common.{◌≡◌, inl, inr, ℕ, zero, suc, ◌+◌, ◌<◌, ◌≤◌, ◌^◌, ◌==◌, Bool, true, false, not, List, [], ◌∷◌, length, map, Option, refl, sym, ap, subst, ◌∙◌, arith}
use Rattle.std.specs.Prelude.{flat_map, if◌then◌else◌}
use Rattle.std.specs.List.{All, filter, list_any, range_with_len}
use Rattle.std.proofs.lemmas.Bool.{and_from, and_parts, both_ways, cases_eq, cases_lt, eq-eqb, eqb-true}
use Rattle.std.proofs.lemmas.Bool.Decides.{nat_tests}
use Rattle.std.proofs.lemmas.List.{get_or_past}
use Rattle.std.proofs.lemmas.List.Concat.{flat_map-cons}
use Rattle.std.proofs.lemmas.List.Elements.{All-head, All-tail}
use Rattle.std.proofs.lemmas.Nat.{pow_pos}
use Rattle.event_machine.specs.Cell.{Cell}
use Rattle.four_state.specs.Masks.{is_set}
use Rattle.four_state.proofs.Places.{is_set-zero, same_from_places}
use Rattle.design_model.specs.Design.{Design, In, cell, signal_at}
use Rattle.dump_check.specs.Checks.{last_of_each}
use Rattle.index_sets.specs.Rows.{row_at}
use Rattle.step_changes.proofs.process_order.Distinct.{in_either, in_left, in_right}
use Rattle.process_targets.specs.Rows.{IsInside}
use Rattle.process_targets.specs.Targets.{row_has}
use Rattle.process_targets.specs.declared.bits.Bits.{Bits}
use Rattle.step_changes.proofs.replay_model.Bits.{any_in, in_any, none_in}
use Rattle.step_changes.specs.step_values.Loose.{has_code}
use Rattle.step_check.specs.Checks.{AreCheckRows, checked, is_checked}

pub all_in : {A : Type 0} (P : A → Type 0) (xs : List A) (x : A) → All P xs → In x xs → P x
all_in P [] x all i = absurd i
all_in P (y ∷ ys) x all (inl e) = subst P e (All-head P y ys all)
all_in P (y ∷ ys) x all (inr i) = all_in P ys x (All-tail P y ys all) i

-- ---- each where it is last

pub in_last : (xs : List ℕ) (x : ℕ) → In x xs → In x (last_of_each xs)
in_last [] x i = absurd i
in_last (y ∷ ys) x i = go (list_any (λ z. y == z) ys) refl i (in_last ys x)
  where
    go : (t : Bool) → list_any (λ z. y == z) ys ≡ t → In x (y ∷ ys) → (In x ys → In x (last_of_each ys)) → In x (if t then last_of_each ys else y ∷ last_of_each ys)
    go true e (inl same) later = let z = any_in (λ z. y == z) ys e in later (subst (λ k. In k ys) (sym (eqb-true y z.0 z.2) ∙ same) z.1)
    go true e (inr i) later = later i
    go false e (inl same) later = inl same
    go false e (inr i) later = inr (later i)

pub last_in : (xs : List ℕ) (x : ℕ) → In x (last_of_each xs) → In x xs
last_in [] x i = absurd i
last_in (y ∷ ys) x i = go (list_any (λ z. y == z) ys) i (last_in ys x)
  where
    go : (t : Bool) → In x (if t then last_of_each ys else y ∷ last_of_each ys) → (In x (last_of_each ys) → In x ys) → In x (y ∷ ys)
    go true i later = inr (later i)
    go false (inl same) later = inl same
    go false (inr i) later = inr (later i)

-- ---- rows one after the other

pub in_flat : (row : ℕ → List ℕ) (ps : List ℕ) (p x : ℕ) → In p ps → In x (row p) → In x (flat_map row ps)
in_flat row [] p x i j = absurd i
in_flat row (q ∷ ps) p x (inl same) j = subst (In x) (sym (flat_map-cons row q ps)) (in_left x (row q) (flat_map row ps) (subst (λ r. In x (row r)) (sym same) j))
in_flat row (q ∷ ps) p x (inr i) j = subst (In x) (sym (flat_map-cons row q ps)) (in_right x (row q) (flat_map row ps) (in_flat row ps p x i j))

pub flat_in : (row : ℕ → List ℕ) (ps : List ℕ) (x : ℕ) → In x (flat_map row ps) → (p : ℕ) × In p ps × In x (row p)
flat_in row [] x i = absurd i
flat_in row (q ∷ ps) x i = elim (in_either x (row q) (flat_map row ps) (subst (In x) (flat_map-cons row q ps) i)) [
  | inl j ↦ (q, inl refl, j)
  | inr j ↦ let r = flat_in row ps x j in (r.0, inr r.1, r.2)
]

-- ---- what is checked of a row

checked_in : (codes : List (Option ℕ)) (row : List Bits) (b : Bits) → In b row → is_checked codes b ≡ true → In b.signal (checked codes row)
checked_in codes [] b i h = absurd i
checked_in codes (y ∷ row) b i h = go (is_checked codes y) refl i (λ j. checked_in codes row b j h)
  where
    go : (t : Bool) → is_checked codes y ≡ t → In b (y ∷ row) → (In b row → In b.signal (checked codes row)) → In b.signal (map (λ (z : Bits). z.signal) (if t then y ∷ filter (is_checked codes) row else filter (is_checked codes) row))
    go true e (inl same) later = inl (ap (λ (z : Bits). z.signal) same)
    go true e (inr i) later = inr (later i)
    go false e (inl same) later = absurd (both_ways _ e (subst (λ z. is_checked codes z ≡ true) (sym same) h))
    go false e (inr i) later = later i

in_checked : (codes : List (Option ℕ)) (row : List Bits) (s : ℕ) → In s (checked codes row) → (b : Bits) × In b row × (b.signal ≡ s) × (is_checked codes b ≡ true)
in_checked codes [] s i = absurd i
in_checked codes (y ∷ row) s i = go (is_checked codes y) refl i (λ j. let r = in_checked codes row s j in (r.0, inr r.1, r.2, r.3))
  where
    go : (t : Bool) → is_checked codes y ≡ t → In s (map (λ (z : Bits). z.signal) (if t then y ∷ filter (is_checked codes) row else filter (is_checked codes) row)) → (In s (checked codes row) → (b : Bits) × In b (y ∷ row) × (b.signal ≡ s) × (is_checked codes b ≡ true))
        → (b : Bits) × In b (y ∷ row) × (b.signal ≡ s) × (is_checked codes b ≡ true)
    go true e (inl same) later = (y, inl refl, same, e)
    go true e (inr i) later = later i
    go false e i later = later i

-- ---- masks

set_some : (m i : ℕ) → is_set m i ≡ true → not (m == 0) ≡ true
set_some m i set = elim (cases_eq m 0) [
  | inl e ↦ absurd (both_ways _ (ap (λ k. is_set k i) e ∙ is_set-zero i) set)
  | inr ne ↦ grind (arith, nat_tests, ne)
]

in_range : (a w j : ℕ) → j < w → In (a + j) (range_with_len a w)
in_range a zero j l = absurd (omega (arith, l))
in_range a (suc w) zero l = let start : a ≡ a + 0 = omega arith in inl start
in_range a (suc w) (suc j) l = let next : a + 1 + j ≡ a + suc j = omega arith in inr (subst (λ i. In i (range_with_len (a + 1) w)) next (in_range (a + 1) w j (omega (arith, l))))

some_place : (m w : ℕ) → m < 2 ^ w → not (m == 0) ≡ true → (i : ℕ) × (is_set m i ≡ true)
some_place m w small some = go (list_any (is_set m) (range_with_len 0 w)) refl
  where
    go : (t : Bool) → list_any (is_set m) (range_with_len 0 w) ≡ t → (i : ℕ) × (is_set m i ≡ true)
    go true e = let r = any_in (is_set m) (range_with_len 0 w) e in (r.0, r.2)
    go false e =
        let zero : m ≡ 0 = same_from_places w m 0 small (pow_pos w) (λ i l. let start : 0 + i ≡ i = omega arith in none_in (is_set m) (range_with_len 0 w) e i (subst (λ k. In k (range_with_len 0 w)) start (in_range 0 w i l)) ∙ sym (is_set-zero i)) in
        absurd (both_ways _ (ap (λ k. not (k == 0)) zero) some)

-- a bound signal of which the row has a cell is checked
pub has_checked : (codes : List (Option ℕ)) (row : List Bits) (c : Cell) → row_has row c ≡ true → has_code codes c.thing ≡ true → In c.thing (checked codes row)
has_checked codes row c has coded =
    let b = any_in _ row has in
    let both = and_parts (b.0.signal == c.thing) (is_set b.0.mask c.place) b.2 in
    let same : b.0.signal ≡ c.thing = eqb-true b.0.signal c.thing both.0 in
    let check : is_checked codes b.0 ≡ true = and_from (has_code codes b.0.signal) _ (ap (has_code codes) same ∙ coded) (set_some b.0.mask c.place both.1) in
    subst (λ s. In s (checked codes row)) same (checked_in codes row b.0 b.1 check)

-- a signal that is checked is bound, and the row has a cell of it
pub checked_has : (d : Design) (codes : List (Option ℕ)) (row : List Bits) (s : ℕ) → All (IsInside d) row → In s (checked codes row) → (has_code codes s ≡ true) × ((c : Cell) × (c.thing ≡ s) × (row_has row c ≡ true))
checked_has d codes row s inside i =
    let b = in_checked codes row s i in
    let both = and_parts (has_code codes b.0.signal) (not (b.0.mask == 0)) b.3 in
    let place = some_place b.0.mask (signal_at d b.0.signal).width (all_in (IsInside d) row b.0 inside b.1).1 both.1 in
    (sym (ap (has_code codes) b.2) ∙ both.0, (cell b.0.signal place.0, b.2, in_any _ row b.0 b.1 (and_from (b.0.signal == b.0.signal) (is_set b.0.mask place.0) (eq-eqb b.0.signal b.0.signal refl) place.1)))

-- ---- the rows

-- rows that have a list for each process have one for each number
pub all_rows : (codes : List (Option ℕ)) (targets : List (List Bits)) (rows : List (List ℕ)) (n : ℕ) → length rows ≡ length targets → length targets ≤ n → ((p : ℕ) → p < n → row_at rows p ≡ checked codes (row_at targets p)) → AreCheckRows codes targets rows
all_rows codes targets rows n count all each = record {
  count = count;
  each = λ p. elim (cases_lt p n) [
    | inl l ↦ each p l
    | inr past ↦ get_or_past rows p [] (omega (arith, past, count, all)) ∙ sym (ap (checked codes) (get_or_past targets p [] (omega (arith, past, all))))
  ];
}
