-- What the lists of a step have.
use Rattle.std.proofs.Common.{◌≡◌, ◌↔◌, inl, inr, ℕ, ◌<◌, Bool, true, List, [], ◌∷◌, length, map, get_or, Option, refl, sym, ap, subst, ◌∙◌, arith}
use Rattle.std.specs.Prelude.{filter, if◌then◌else◌, nat_eq}
use Rattle.std.specs.List.{All, Contains}
use Rattle.std.proofs.lemmas.Bool.{both_ways, cases_Bool, eq-eqb, eqb-true, false_from_ne_true}
use Rattle.std.proofs.lemmas.List.{get_or-map, get_or_default, length-map}
use Rattle.std.proofs.lemmas.List.Elements.{All-from_get_or}
use Rattle.code_values.specs.Values.{Values}
use Rattle.design_model.specs.Design.{Design, In}
use Rattle.early_sets.specs.Has.{is_in}
use Rattle.early_sets.proofs.Membership.{is_in_from, is_in_gives}
use Rattle.index_sets.specs.Rows.{row_at}
use Rattle.process_targets.specs.Rows.{AreTargetRows, IsInside}
use Rattle.process_targets.specs.declared.bits.Bits.{Bits}
use Rattle.step_parts.proofs.process_order.Distinct.{contains_in, in_contains, in_filter}
use Rattle.step_parts.proofs.replay_model.Bits.{any_in, in_any}
use Rattle.step_parts.specs.step_changes.Changes.{AreChangedSignals}
use Rattle.step_parts.proofs.step_changes.Found.{coded_by}
use Rattle.still_check.specs.step_values.Dumped.{HaveCodes}
use Rattle.still_check.specs.step_values.Laws.{AreListed}
use Rattle.still_check.specs.step_values.Loose.{HaveRows, has_code}
use Rattle.wake_list.specs.Members.{has}
use Rattle.step_start.specs.Settles.{ArePlaced}
use Rattle.step_start.proofs.Placed.{place_below}

-- something holds of all items where it holds of each that is in the list
pub all_of : (P : ℕ → Type 0) (xs : List ℕ) → ((x : ℕ) → Contains xs x → P x) → All P xs
all_of P xs holds = All-from_get_or P xs 0 (λ i l. holds (get_or xs i 0) (i, l, sym (get_or_default xs i 0 (get_or xs i 0) l)))

-- each signal that has changed has a code
have_codes : (d : Design) (codes : List (Option ℕ)) (values : Values) (changed : List ℕ) → ((s : ℕ) → has_code codes s ≡ true → s < length d.signals) → AreChangedSignals codes values changed → HaveCodes d codes changed
have_codes d codes values changed below are = all_of (λ s. (s < length d.signals) × (has_code codes s ≡ true)) changed (λ s m.
    let r = (are s).0 m in
    let coded = coded_by codes s r.0 r.1 in
    (below s coded, coded))

-- the same of lists that are these
pub have_same_codes : (d : Design) (codes same : List (Option ℕ)) (values : Values) (changed listed : List ℕ) → same ≡ codes → listed ≡ changed → ((s : ℕ) → has_code codes s ≡ true → s < length d.signals) → AreChangedSignals codes values changed → HaveCodes d same listed
have_same_codes d codes same values changed listed e f below are = subst (HaveCodes d same) (sym f) (subst (λ cs. HaveCodes d cs changed) (sym e) (have_codes d codes values changed below are))

-- a code of a signal that is not listed has the same value
pub are_listed : (codes : List (Option ℕ)) (values : Values) (changed : List ℕ) → AreChangedSignals codes values changed → AreListed codes values.closed values.last changed
are_listed codes values changed are s code is out other =
    let m = (are s).1 (code, is, other) in
    both_ways _ out (is_in_from changed s m.0 m.1 m.2)

-- each process that has a place has a row
pub have_rows : (d : Design) (targets : List (List Bits)) (ranks : List (Option ℕ)) (woken running : List ℕ) → AreTargetRows d targets → length ranks ≡ length d.processes → ArePlaced ranks woken running → HaveRows d targets running
have_rows d targets ranks woken running rows size placed = all_of (λ p. (p < length targets) × All (IsInside d) (row_at targets p)) running (λ p m.
    let below = place_below ranks p ((placed p).0 m).1 in
    let count = rows.count in
    (omega (arith, below, count, size), (rows.each p).bits.inside))

-- ---- a number in a list, as a test and as a fact

pub in_is_in : (x : ℕ) (xs : List ℕ) → In x xs → is_in xs x ≡ true
in_is_in x xs i = let m = in_contains x xs i in is_in_from xs x m.0 m.1 m.2

pub is_in_in : (x : ℕ) (xs : List ℕ) → is_in xs x ≡ true → In x xs
is_in_in x xs h = contains_in x xs (is_in_gives xs x h)

has_in : (p : ℕ) (ps : List ℕ) → has p ps ≡ true → In p ps
has_in p ps h = let x = any_in (nat_eq p) ps h in subst (λ q. In q ps) (sym (eqb-true p x.0 x.2)) x.1

in_has : (p : ℕ) (ps : List ℕ) → In p ps → has p ps ≡ true
in_has p ps i = in_any (nat_eq p) ps p i (eq-eqb p p refl)

-- ---- the list of the processes to run

-- the first of each pair is in the order, where they are some of the order
pub in_order : (pairs : List (ℕ × ℕ)) (test : ℕ → Bool) (order : List ℕ) → map (λ q. q.0) pairs ≡ filter test order → All (λ q. In q.0 order) pairs
in_order pairs test order are = All-from_get_or (λ q. In q.0 order) pairs (0, 0) (λ i l.
    let q = get_or pairs i (0, 0) in
    let size = length-map pairs (λ (p : ℕ × ℕ). p.0) in
    let firsts : Contains (map (λ (p : ℕ × ℕ). p.0) pairs) q.0 = (i, omega (arith, l, size), get_or-map (λ (p : ℕ × ℕ). p.0) pairs i (0, 0) q.0 l) in
    (in_filter test q.0 order (subst (In q.0) are (contains_in q.0 (map (λ (p : ℕ × ℕ). p.0) pairs) firsts))).0)

same_filter : (f g : ℕ → Bool) (xs : List ℕ) → ((x : ℕ) → In x xs → f x ≡ g x) → filter f xs ≡ filter g xs
same_filter f g [] same = refl
same_filter f g (x ∷ xs) same =
    ap (λ b. if b then x ∷ filter f xs else filter f xs) (same x (inl refl)) ∙ ap (λ ys. if g x then x ∷ ys else ys) (same_filter f g xs (λ y i. same y (inr i)))

-- of an order the processes that are woken are those that pass a test
pub woken_of : (test : ℕ → Bool) (order woken : List ℕ) → ((p : ℕ) → In p order → In p woken ↔ (test p ≡ true)) → filter (λ p. has p woken) order ≡ filter test order
woken_of test order woken are = same_filter (λ p. has p woken) test order (λ p i. elim (cases_Bool (test p)) [
  | inl e ↦ in_has p woken ((are p i).1 e) ∙ sym e
  | inr e ↦ false_from_ne_true _ (λ h. both_ways _ e ((are p i).0 (has_in p woken h))) ∙ sym e
])
