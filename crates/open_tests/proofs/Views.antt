-- The plain tree of a statement by its form, and lists of statements from one on.
use Rattle.std.proofs.Common.{Bool, List, None, Option, Some, add-one, drop, drop-cons, get_or, length, map, refl, ℕ, ◌+◌, ◌<◌, ◌≡◌}
use Rattle.std.specs.Global.{Vec}
use Rattle.assignments.specs.four_state.declared.operator.CaseKind.{CaseKind}
use Rattle.assignments.specs.design_model.Tree as t
use Rattle.assignments.specs.design_model.View.{arms_of, stmt_view, stmts_of, target_view, term_view}
use Rattle.assignments.specs.design_model.declared.tree.CaseArm.{CaseArm}
use Rattle.assignments.specs.design_model.declared.tree.Stmt.{Stmt}
use Rattle.assignments.specs.design_model.declared.tree.StmtForm as form
use Rattle.assignments.specs.design_model.declared.tree.StmtForm.TheFolds.{fold_out-Stmt, fold-roll-StmtForm}
use Rattle.assignments.specs.design_model.declared.tree.StmtForm.TheVariants.{rolls-Block, rolls-Case, rolls-Empty, rolls-If, rolls-Set, rolls-Turns}
use Rattle.assignments.specs.design_model.declared.tree.Target.{Target}
use Rattle.assignments.specs.design_model.declared.tree.Term.{Term}
use Rattle.assignments.specs.value_store.Rooms.{arm_view}
use Rattle.open_tests.specs.Views.{else_view}

module _ (x : Stmt) where
  pub block_view : (v : Vec Stmt) → x.form.value ≡ form.Block v → stmt_view x ≡ t.block x.place (stmts_of (map stmt_view v.items))
  block_view v is = rw (fold_out-Stmt, is, ← rolls-Block v, fold-roll-StmtForm) refl

  pub if_view : (n : ℕ) (c : Term) (y : Stmt) (o : Option Stmt) → x.form.value ≡ form.If n c y o → stmt_view x ≡ t.branch x.place n (term_view c) (stmt_view y) (else_view o)
  if_view n c y None is = rw (fold_out-Stmt, is, ← rolls-If n c y None, fold-roll-StmtForm) refl
  if_view n c y (Some z) is = rw (fold_out-Stmt, is, ← rolls-If n c y (Some z), fold-roll-StmtForm) refl

  pub case_view : (n : ℕ) (k : CaseKind) (c : Term) (v : Vec CaseArm) → x.form.value ≡ form.Case n k c v → stmt_view x ≡ t.select x.place n k (term_view c) (arms_of (map arm_view v.items))
  case_view n k c v is = rw (fold_out-Stmt, is, ← rolls-Case n k c v, fold-roll-StmtForm) refl

  pub turns_view : (n : ℕ) (v : Vec Stmt) → x.form.value ≡ form.Turns n v → stmt_view x ≡ t.turns x.place n (stmts_of (map stmt_view v.items))
  turns_view n v is = rw (fold_out-Stmt, is, ← rolls-Turns n v, fold-roll-StmtForm) refl

  pub set_view : (n : ℕ) (b : Bool) (y : Target) (z : Term) → x.form.value ≡ form.Set n b y z → stmt_view x ≡ t.set x.place n b (target_view y) (term_view z)
  set_view n b y z is = rw (fold_out-Stmt, is, ← rolls-Set n b y z, fold-roll-StmtForm) refl

  pub empty_view : x.form.value ≡ form.Empty → stmt_view x ≡ t.empty x.place
  empty_view is = rw (fold_out-Stmt, is, ← rolls-Empty, fold-roll-StmtForm) refl

-- the statements from the one at i on
pub stmts_from : (xs : List Stmt) (i : ℕ) (x : Stmt) → i < length xs → x ≡ get_or xs i x → stmts_of (map stmt_view (drop i xs)) ≡ t.a_stmt (stmt_view x) (stmts_of (map stmt_view (drop (i + 1) xs)))
stmts_from xs i x within is = rw (add-one, drop-cons xs i x within, ← is) refl
