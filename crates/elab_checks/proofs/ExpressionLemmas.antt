-- The faults of expressions in the order in which they are reported.
use Rattle.std.proofs.Common.{◌≡◌, ◌∙◌, refl, sym, ap, ℕ, Bool, true, false, ◌&&◌, ◌||◌, if◌then◌else◌, List, [], ◌∷◌, ◌++◌, flat_map, is_none, None, Result, Ok, Err, ◌<◌, ◌+◌, ◌≤◌, length, drop, drop-cons, get_or, add-one, arith}
use Rattle.std.specs.List.{list_any}
use Rattle.std.proofs.lemmas.List.{map-append}
use Rattle.std.proofs.lemmas.Grind.{flat_map-append}
use Rattle.std.proofs.lemmas.List.Folds.{list_any-append}
use Rattle.verilog_tree.specs.Tree.{Expr, Exprs, an_expr, exprs_of}
use Rattle.verilog_tree.specs.View.{expr_view, exprs_view}
use Rattle.verilog_tree.specs.declared.expr.Expr as code
use Rattle.elab_const.specs.Calls.{told}
use Rattle.elab_const.specs.Faults.{constant_answer, shape_answer}
use Rattle.flat_design.specs.Bodies.{Met, met_faults, met_fault}
use Rattle.elab_const.specs.Meaning.{parts_of}
use Rattle.flat_design.specs.Expressions.{faults, all_faults, undeclared, index_faults, bound_faults, Selected, is_inside, some_offset}
use Rattle.flat_design.specs.Expressions as spec
use Rattle.cov_host.specs.declared.place.Place.{Place}
use Rattle.elab_const.specs.Faults.{is_bad_bound}
use Rattle.elab_const.specs.Meaning.{number_of}
use Rattle.elab_const.specs.Scope as const
use Rattle.elab_const.specs.declared.fault.ConstKind.TheVariants.{BadRange}
use Rattle.elab_checks.specs.Selected as inside
use Rattle.elab_checks.proofs.RangeLemmas.{bit_inside, slide_inside}
use Rattle.flat_design.specs.Fault.{Fault, fault_at, fault_if, none}
use Rattle.flat_design.specs.declared.fault.ElabKind.TheVariants.{Undeclared}
use Rattle.verilog_tree.specs.declared.item.Named.{Named}
use Rattle.flat_design.specs.Identifiers.{identifiers, all_identifiers}
use Rattle.flat_design.specs.Scope as of
use Rattle.flat_design.specs.Scope.{Scope, look_up, names, is_faulty_entry, names_constants, names_faulty}
use Rattle.elab_scope.specs.Tally.{Tally, after, after_all, after_faults}
use Rattle.flat_design.proofs.NoConstFaults.{both_none, both_false, number_clean, constant_not_faulty, bound_clean, constant_none, no_const_fault}

-- what is met in two parts
pub after_all_append : (t : Tally) (xs ys : List Met) → after_all t (xs ++ ys) ≡ after_all (after_all t xs) ys
after_all_append t [] ys = refl
after_all_append t (x ∷ xs) ys = after_all_append (after t x) xs ys

pub after_append : (t : Tally) (xs ys : List Fault) → after_faults t (xs ++ ys) ≡ after_faults (after_faults t xs) ys
after_append t xs ys = rw (map-append met_fault xs ys) (after_all_append t (met_faults xs) (met_faults ys))

-- faults in turn
pub met_then : (t u v : Tally) (xs ys : List Fault) → u ≡ after_faults t xs → v ≡ after_faults u ys → v ≡ after_faults t (xs ++ ys)
met_then t u v xs ys p q = q ∙ ap (λ w. after_faults w ys) p ∙ sym (after_append t xs ys)

pub none_append : (xs ys : List Fault) → none (xs ++ ys) ≡ (none xs && none ys)
none_append [] ys = refl
none_append (x ∷ xs) ys = refl

pub none_then_both : (a b : Bool) (xs ys : List Fault) → a ≡ none xs → b ≡ none ys → (a && b) ≡ none (xs ++ ys)
none_then_both a b xs ys p q = rw (p, q) (sym (none_append xs ys))

-- the names of one expression more
pub any_with : (g : Scope) (e : Expr) (es : Exprs) → list_any (λ x. is_faulty_entry (look_up g x.name)) (all_identifiers (an_expr e es)) ≡ (names_faulty g e || list_any (λ x. is_faulty_entry (look_up g x.name)) (all_identifiers es))
any_with g e es = list_any-append (λ x. is_faulty_entry (look_up g x.name)) (identifiers e) (all_identifiers es)

-- what elab_const answers of an expression without a fault
pub told_constant : (g : Scope) (e : Expr) → names_constants g e ≡ true → none (faults g e) ≡ true → told (constant_answer (names g) e) ≡ Ok (of.constant g e)
told_constant g e a b = rw (constant_none g e a b) refl

pub told_shape : (g : Scope) (e : Expr) → none (faults g e) ≡ true → names_faulty g e ≡ false → told (shape_answer (names g) e) ≡ Ok (of.shape g e)
told_shape g e a b = rw (no_const_fault g e a b) refl

-- an answer is a value or a fault
pub not_both_answers : {A E : Type 0} (r : Result A E) (x : A) (f : E) → r ≡ Ok x → r ≡ Err f → ⊥
not_both_answers r x f p q = absurd cc

-- the rest is the next expression and what follows it
pub next_is : (es : List code.Expr) (i : ℕ) (e : code.Expr) → i < length es → e ≡ get_or es i e →
    exprs_of (exprs_view (drop i es)) ≡ an_expr (expr_view e) (exprs_of (exprs_view (drop (i + 1) es)))
next_is es i e within is = rw (drop-cons es i e within, add-one i, ← is) refl

-- the first of the rest, and what follows it, without a fault
pub sound_next : (g : Scope) (e : Expr) (es : Exprs) (all : Exprs) → all ≡ an_expr e es → none (all_faults g all) ≡ true → (none (faults g e) ≡ true) × (none (all_faults g es) ≡ true)
sound_next g e es all is a = both_none (faults g e) (all_faults g es) (rw is at a)

pub known_next : (g : Scope) (e : Expr) (es : Exprs) (all : Exprs) → all ≡ an_expr e es → list_any (λ x. is_faulty_entry (look_up g x.name)) (all_identifiers all) ≡ false →
    (names_faulty g e ≡ false) × (list_any (λ x. is_faulty_entry (look_up g x.name)) (all_identifiers es) ≡ false)
known_next g e es all is a = both_false _ _ (sym (any_with g e es) ∙ rw is at a)

pub width_next : (g : Scope) (e : Expr) (es : Exprs) (all : Exprs) (w n k total : ℕ) → all ≡ an_expr e es → w + (parts_of (names g) all).width ≡ total → n ≡ (of.shape g e).width → k ≡ w + n → k + (parts_of (names g) es).width ≡ total
width_next g e es all w n k total is whole here more = let h = rw is at whole in omega (arith, h)

pub ruleset met_in_turn = (after_append, none_append, flat_map-append)

-- the names of a list without declaration
abbrev pub missing : Scope → List Named → List Fault
missing g xs = flat_map (λ x. fault_if (is_none (look_up g x.name)) (fault_at Undeclared x)) xs

pub missing_append : (g : Scope) (xs ys : List Named) → missing g (xs ++ ys) ≡ missing g xs ++ missing g ys
missing_append g xs ys = flat_map-append (λ x. fault_if (is_none (look_up g x.name)) (fault_at Undeclared x)) xs ys

pub missing_then : (g : Scope) (t u v : Tally) (xs ys : List Named) → u ≡ after_faults t (missing g xs) → v ≡ after_faults u (missing g ys) → v ≡ after_faults t (missing g (xs ++ ys))
missing_then g t u v xs ys p q = rw (missing_append g xs ys) (met_then t u v (missing g xs) (missing g ys) p q)

pub missing_both : (g : Scope) (a b : Bool) (xs ys : List Named) → a ≡ none (missing g xs) → b ≡ none (missing g ys) → (a && b) ≡ none (missing g (xs ++ ys))
missing_both g a b xs ys p q = rw (missing_append g xs ys) (none_then_both a b (missing g xs) (missing g ys) p q)

-- two expressions, and a third
pub missing_then_more : (g : Scope) (t u v : Tally) (xs ys zs : List Named) → u ≡ after_faults t (missing g xs ++ missing g ys) → v ≡ after_faults u (missing g zs) → v ≡ after_faults t (missing g (xs ++ ys ++ zs))
missing_then_more g t u v xs ys zs p q = missing_then g t u v (xs ++ ys) zs (rw (missing_append g xs ys) p) q

pub missing_both_more : (g : Scope) (a b : Bool) (xs ys zs : List Named) → a ≡ none (missing g xs ++ missing g ys) → b ≡ none (missing g zs) → (a && b) ≡ none (missing g (xs ++ ys ++ zs))
missing_both_more g a b xs ys zs p q = missing_both g a b (xs ++ ys) zs (rw (missing_append g xs ys) p) q

-- one more of a list of faults
pub met_next : (t u w : Tally) (xs ys all : List Fault) → all ≡ xs ++ ys → after_faults t all ≡ w → u ≡ after_faults t xs → after_faults u ys ≡ w
met_next t u w xs ys all is whole here = rw here (sym (after_append t xs ys) ∙ ap (after_faults t) (sym is) ∙ whole)

pub none_next : (a b whole : Bool) (xs ys all : List Fault) → all ≡ xs ++ ys → (a && none all) ≡ whole → b ≡ none xs → ((a && b) && none ys) ≡ whole
none_next a b whole xs ys all is so_far here = rw here (go a (none xs) (none ys) ∙ ap (λ c. a && c) (sym (none_append xs ys)) ∙ ap (λ x. a && none x) (sym is) ∙ so_far)
  where
    go : (a b c : Bool) → ((a && b) && c) ≡ (a && (b && c))
    go true b c = refl
    go false b c = refl

-- an index without a fault, by the number that it says
pub index_is : (g : Scope) (of : Selected) (i : Expr) (fs : List Fault) → names_constants g i ≡ true → none fs ≡ true → index_faults g of i fs ≡ inside.bit_faults of (number_of (names g) i)
index_is g (Selected.bits_in r x) i fs a b = rw (a, b, bit_inside r.high r.low (of.whole_number g i)) refl
index_is g (Selected.no_bits x) i fs a b = rw (a, b) refl
index_is g Selected.unknown i fs a b = rw (a, b) refl

-- where there is no fault of constants, its test does not hold
pub no_bad : (b : Bool) (p : Place) → const.fault_if b BadRange p ≡ None → b ≡ false
no_bad false p e = refl
no_bad true p e = absurd cc

-- the bounds of a part without a fault
pub bounds_sound : (g : Scope) (p : Place) (h l : Expr) → names_constants g h ≡ true → names_constants g l ≡ true → none (bound_faults g p h (faults g h) ++ bound_faults g p l (faults g l)) ≡ true →
    (none (faults g h) ≡ true) × (is_bad_bound (number_of (names g) h) ≡ false) × (none (faults g l) ≡ true) × (is_bad_bound (number_of (names g) l) ≡ false)
bounds_sound g p h l a b e =
    let q = both_none (bound_faults g p h (faults g h)) (bound_faults g p l (faults g l)) e in
    let high = one h a q.0 in
    let low = one l b q.1 in
    (high.0, high.1, low.0, low.1)
  where
    one : (x : Expr) → names_constants g x ≡ true → none (bound_faults g p x (faults g x)) ≡ true → (none (faults g x) ≡ true) × (is_bad_bound (number_of (names g) x) ≡ false)
    one x a e =
        let clean = bound_clean g p x (faults g x) e (constant_not_faulty g x a) in
        let number = number_clean g x (faults g x) clean.0 (constant_not_faulty g x a) in
        (number.1, no_bad (is_bad_bound (number_of (names g) x)) p clean.1)

-- what counts where the test holds
pub then_is : (b : Bool) (xs ys : List Fault) → b ≡ true → (if b then xs else ys) ≡ xs
then_is true xs ys e = refl
then_is false xs ys e = absurd cc

-- an indexed part, by the number that its base says
pub slide_is : (g : Scope) (of : Selected) (b : Expr) (w : ℕ) (up : Bool) → 1 ≤ w → spec.slide_faults g of b w up ≡ inside.slide_faults of up w (number_of (names g) b)
slide_is g (Selected.bits_in r x) b w up some = rw (slide_inside r.high r.low w up (of.whole_number g b) some) refl
slide_is g (Selected.no_bits x) b w up some = refl
slide_is g Selected.unknown b w up some = refl

-- three tests in turn
pub and_assoc : (a b c : Bool) → ((a && b) && c) ≡ (a && (b && c))
and_assoc true b c = refl
and_assoc false b c = refl

pub none_three : (a b c : Bool) (xs ys zs : List Fault) → a ≡ none xs → b ≡ none ys → c ≡ none zs → ((a && b) && c) ≡ none (xs ++ (ys ++ zs))
none_three a b c xs ys zs p q r = and_assoc a b c ∙ none_then_both a (b && c) xs (ys ++ zs) p (none_then_both b c ys zs q r)

-- a number without a fault
pub number_known : (g : Scope) (e : Expr) → names_constants g e ≡ true → none (spec.number_faults g e (faults g e)) ≡ true → none (faults g e) ≡ true
number_known g e a b = (number_clean g e (faults g e) b (constant_not_faulty g e a)).1
