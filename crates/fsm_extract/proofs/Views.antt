-- Lists of statements, arms and labels from one on.
use Rattle.std.proofs.Common.{List, [], ◌∷◌, ◌++◌, add-one, ap, append_assoc, drop, drop-cons, get_or, length, map, refl, sym, take, ℕ, ◌+◌, ◌<◌, ◌∙◌, ◌≡◌}
use Rattle.std.specs.Global.{Vec}
use Rattle.four_state.specs.declared.operator.CaseKind.{CaseKind}
use Rattle.design_model.specs.Tree as t
use Rattle.design_model.specs.View.{arms_of, process_view, stmt_view, stmts_of, term_view, terms_of}
use Rattle.design_model.specs.declared.tree.Process.{Process}
use Rattle.design_model.specs.declared.tree.CaseArm.{CaseArm}
use Rattle.design_model.specs.declared.tree.Stmt.{Stmt}
use Rattle.design_model.specs.declared.tree.StmtForm as form
use Rattle.design_model.specs.declared.tree.StmtForm.TheFolds.{fold_out-CaseArm, fold_out-Stmt, fold-roll-StmtForm}
use Rattle.design_model.specs.declared.tree.StmtForm.TheVariants.{rolls-Case}
use Rattle.design_model.specs.declared.tree.Term.{Term}
use Rattle.fsm_extract.specs.Views.{arm_view}

pub case_view : (x : Stmt) (n : ℕ) (k : CaseKind) (c : Term) (v : Vec CaseArm) → x.form.value ≡ form.Case n k c v → stmt_view x ≡ t.select x.place n k (term_view c) (arms_of (map arm_view v.items))
case_view x n k c v is = rw (fold_out-Stmt, is, ← rolls-Case n k c v, fold-roll-StmtForm) refl

pub stmts_from : (xs : List Stmt) (i : ℕ) (x : Stmt) → i < length xs → x ≡ get_or xs i x → stmts_of (map stmt_view (drop i xs)) ≡ t.a_stmt (stmt_view x) (stmts_of (map stmt_view (drop (i + 1) xs)))
stmts_from xs i x within is = rw (add-one, drop-cons xs i x within, ← is) refl

pub terms_from : (xs : List Term) (i : ℕ) (x : Term) → i < length xs → x ≡ get_or xs i x → terms_of (map term_view (drop i xs)) ≡ t.a_term (term_view x) (terms_of (map term_view (drop (i + 1) xs)))
terms_from xs i x within is = rw (add-one, drop-cons xs i x within, ← is) refl

pub processes_from : (xs : List Process) (i : ℕ) (x : Process) → i < length xs → x ≡ get_or xs i x → map process_view (drop i xs) ≡ process_view x ∷ map process_view (drop (i + 1) xs)
processes_from xs i x within is = rw (add-one, drop-cons xs i x within, ← is) refl

abbrev Arm : Type 0
Arm = t.Terms × t.Stmt

arm_is : (x : CaseArm) → arm_view x ≡ (terms_of (map term_view x.labels.items), stmt_view x.body)
arm_is x = rw fold_out-CaseArm refl

pub arms_from : (xs : List CaseArm) (i : ℕ) (x : CaseArm) → i < length xs → x ≡ get_or xs i x → arms_of (map arm_view (drop i xs)) ≡ t.arm (terms_of (map term_view x.labels.items)) (stmt_view x.body) (arms_of (map arm_view (drop (i + 1) xs)))
arms_from xs i x within is =
    let later = arms_of (map arm_view (drop (i + 1) xs)) in
    let first : arms_of (map arm_view (drop i xs)) ≡ t.arm (arm_view x).0 (arm_view x).1 later = rw (add-one, drop-cons xs i x within, ← is) refl in
    first ∙ ap (λ (z : Arm). t.arm z.0 z.1 later) (arm_is x)

-- what was found, with the rest, once a piece of the rest is found
pub further : {A : Type 0} (before now piece rest whole all : List A) → now ≡ before ++ piece → whole ≡ piece ++ rest → before ++ whole ≡ all → now ++ rest ≡ all
further before now piece rest whole all e w h = ap (λ xs. xs ++ rest) e ∙ append_assoc before piece rest ∙ ap (λ xs. before ++ xs) (sym w) ∙ h

-- what was there before
pub take_back : {A : Type 0} (xs ys : List A) → take (length xs) (xs ++ ys) ≡ xs
take_back [] ys = refl
take_back (x ∷ xs) ys = ap (λ zs. x ∷ zs) (take_back xs ys)
