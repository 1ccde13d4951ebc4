-- The first conflict in the text, found among the writings in the order of their names.
use Rattle.std.proofs.Common.{◌≡◌, ℕ, suc, ◌+◌, ◌<◌, ◌≤◌, ◌==◌, Bool, true, false, not, ◌&&◌, if◌then◌else◌, List, [], ◌∷◌, ◌++◌, length, get_or, take, drop, map, Option, Some, None, refl, ap, ◌∙◌, arith}
use Rattle.std.specs.List.{list_any}
use Rattle.std.specs.List.Sorted.{IsPermutation, IsSortedByKey}
use Rattle.std.specs.Ordering.{is_lt}
use Rattle.std.proofs.lemmas.List.{get_or-take, get_or-drop, get_or_default, length-take}
use Rattle.std.proofs.Common.{length-drop}
use Rattle.std.proofs.lemmas.List.Folds.{flat_map-map}
use Rattle.std.proofs.lemmas.List.Sorted.{IsPermutation-sym, IsPermutation-trans, IsPermutation-middle, IsPermutation-append_comm, IsPermutation-to_front, sorted_far, ranks_by}
use Rattle.std.proofs.Math.Seq.{split_at}
use Rattle.design_model.specs.Shape.{same_bool}
use Rattle.flat_design.specs.Processes.{have_common, conflicts, is_named_before, earlier_of, first_name}
use Rattle.flat_design.specs.Scope.{is_same_thing}
use Rattle.flat_design.specs.Targets.{Writing}
use Rattle.verilog_tree.specs.declared.item.Named.{Named}
use Rattle.elab_scope.specs.declared.tally.Written.{Written}
use Rattle.elab_conflicts.specs.declared.conflicts.Conflict.{Conflict}
use Rattle.elab_conflicts.specs.declared.conflicts.Conflict.TheVariants.{Mixed, TwoDrivers}
use Rattle.elab_conflicts.specs.Conflicts.{at_odds, first_of, name_order}
use Rattle.elab_scope.specs.View.{name_view, writing_view}
use Rattle.elab_conflicts.proofs.ConflictsLists.{any_same, any_swap, eqb-comm}
use Rattle.elab_conflicts.proofs.ConflictsKept.{same_thing-comm}
use Rattle.elab_conflicts.proofs.ConflictsOrder.{names-order, same_name, name_order-total, is_named_before-is_lt}
use Rattle.elab_conflicts.proofs.ConflictsPairs.{first, first_in, pairs, row, all_stay, hit, miss, first_in-permutation}

-- ---- being at odds does not depend on the order of the two

same_bool-comm : (a b : Bool) → same_bool a b ≡ same_bool b a
same_bool-comm true true = refl
same_bool-comm true false = refl
same_bool-comm false true = refl
same_bool-comm false false = refl

have_common-comm : (xs ys : List ℕ) → have_common xs ys ≡ have_common ys xs
have_common-comm xs ys = any_swap (λ x y. x == y) xs ys ∙ any_same _ _ (λ y. any_same _ _ (λ x. eqb-comm x y) xs) ys

and-comm : (a b : Bool) → (a && b) ≡ (b && a)
and-comm true true = refl
and-comm true false = refl
and-comm false true = refl
and-comm false false = refl

at_odds-comm : (c : Conflict) (a b : Writing) → at_odds c a b ≡ at_odds c b a
at_odds-comm Mixed a b = ap (λ t. t && not (same_bool a.blocking b.blocking)) (same_thing-comm a.thing b.thing) ∙ ap (λ t. is_same_thing b.thing a.thing && not t) (same_bool-comm a.blocking b.blocking)
at_odds-comm TwoDrivers a b =
    ap (λ t. t && (if a.continuous && b.continuous then have_common a.offsets b.offsets else not (a.process == b.process))) (same_thing-comm a.thing b.thing)
    ∙ ap (λ t. is_same_thing b.thing a.thing && (if t then have_common a.offsets b.offsets else not (a.process == b.process))) (and-comm a.continuous b.continuous)
    ∙ ap (λ t. is_same_thing b.thing a.thing && (if b.continuous && a.continuous then t else not (a.process == b.process))) (have_common-comm a.offsets b.offsets)
    ∙ ap (λ t. is_same_thing b.thing a.thing && (if b.continuous && a.continuous then have_common b.offsets a.offsets else not t)) (eqb-comm a.process b.process)

-- ---- the conflicts as names of pairs

abbrev name_of : Written → Named
name_of w = name_view w.name

abbrev odds : Conflict → Written → Written → Bool
odds c v w = at_odds c (writing_view v) (writing_view w)

-- the first conflict of these writings
abbrev pub first_conflict : Conflict → List Written → Option Named
first_conflict c ws = first_in is_named_before (pairs is_named_before name_of (odds c) ws)

first_name-first : (x : Named) (xs : List Named) → first_name x xs ≡ first is_named_before x xs
first_name-first x [] = refl
first_name-first x (y ∷ ys) = first_name-first (earlier_of x y) ys

first_of-first_in : (xs : List Named) → first_of xs ≡ first_in is_named_before xs
first_of-first_in [] = refl
first_of-first_in (x ∷ xs) = ap Some (first_name-first x xs)

conflicts-pairs : (c : Conflict) (ws : List Written) → conflicts (at_odds c) (map writing_view ws) ≡ pairs is_named_before name_of (odds c) ws
conflicts-pairs c [] = refl
conflicts-pairs c (w ∷ ws) =
    ap (λ xs. xs ++ conflicts (at_odds c) (map writing_view ws)) (flat_map-map _ writing_view ws)
    ∙ ap (λ xs. row is_named_before name_of (odds c) w ws ++ xs) (conflicts-pairs c ws)

-- it may be looked for in any order
pub first_conflict-order : (c : Conflict) (ws vs : List Written) → IsPermutation ws vs → first_of (conflicts (at_odds c) (map writing_view ws)) ≡ first_conflict c vs
first_conflict-order c ws vs h =
    ap first_of (conflicts-pairs c ws) ∙ first_of-first_in (pairs is_named_before name_of (odds c) ws)
    ∙ first_in-permutation is_named_before names-order same_name name_of (odds c) (λ v w. at_odds-comm c (writing_view v) (writing_view w)) ws vs h

IsPermutation-first_conflict : (c : Conflict) (ws vs : List Written) → IsPermutation ws vs → first_conflict c ws ≡ first_conflict c vs
IsPermutation-first_conflict c ws vs h = first_in-permutation is_named_before names-order same_name name_of (odds c) (λ v w. at_odds-comm c (writing_view v) (writing_view w)) ws vs h

-- ---- a turn of the loop

pub first_conflict-none : (c : Conflict) (ws : List Written) (w : Written) → first_conflict c ws ≡ None → list_any (odds c w) ws ≡ false → first_conflict c (ws ++ w ∷ []) ≡ None
first_conflict-none c ws w e h = IsPermutation-first_conflict c (ws ++ w ∷ []) (w ∷ ws) (IsPermutation-to_front ws w) ∙ miss is_named_before names-order same_name name_of (odds c) w ws e h

rising : (ws : List Written) → IsSortedByKey name_of name_order ws → (i j : ℕ) (d : Written) → i ≤ j → j < length ws → is_named_before (name_of (get_or ws j d)) (name_of (get_or ws i d)) ≡ false
rising ws up i j d h l = is_named_before-is_lt (name_of (get_or ws j d)) (name_of (get_or ws i d)) ∙ sorted_far (λ v w. is_lt (name_order (name_of v) (name_of w))) (ranks_by name_order-total name_of) ws up i j d h l

pub first_conflict-some : (c : Conflict) (ws : List Written) (i : ℕ) (d : Written) → IsSortedByKey name_of name_order ws → i < length ws → first_conflict c (take i ws) ≡ None → list_any (odds c (get_or ws i d)) (take i ws) ≡ true → first_conflict c ws ≡ Some (name_of (get_or ws i d))
first_conflict-some c ws i d up l e h =
    let front = take i ws in let back = drop (suc i) ws in let w = get_or ws i d in
    let turned : IsPermutation (front ++ w ∷ back) (back ++ w ∷ front) = IsPermutation-trans _ _ _ (IsPermutation-append_comm front (w ∷ back)) (IsPermutation-sym _ _ (IsPermutation-middle back w front)) in
    let here = hit is_named_before names-order same_name name_of (odds c) w front e h (λ k f g.
    let short : k < i = omega (arith, length-take i ws) in
    ap (λ v. is_named_before (name_of w) (name_of v)) (get_or-take i ws k f short)
    ∙ ap (λ v. is_named_before (name_of v) (name_of (get_or ws k f))) (get_or_default ws i d f l)
    ∙ rising ws up k i f (omega arith) l) in
    ap (first_conflict c) (split_at ws i d l) ∙ IsPermutation-first_conflict c _ _ turned
    ∙ all_stay is_named_before names-order same_name name_of (odds c) (name_of w) back (w ∷ front) here (λ k f g.
    ap (λ v. is_named_before (name_of v) (name_of w)) (get_or-drop (suc i) ws k f)
    ∙ ap (λ v. is_named_before (name_of (get_or ws (suc i + k) f)) (name_of v)) (get_or_default ws i d f l)
    ∙ rising ws up i (suc i + k) f (omega arith) (omega (arith, length-drop (suc i) ws)))
