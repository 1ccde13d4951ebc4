-- The plain tree of a statement by its form, and of lists of statements and arms one after another.
use Rattle.std.proofs.Common.{◌≡◌, ℕ, ◌+◌, ◌<◌, List, length, get_or, drop, refl, add-one, drop-cons, Bool, Some, None}
use Rattle.std.specs.Global.{Vec}
use Rattle.four_state.specs.declared.operator.CaseKind.{CaseKind}
use Rattle.verilog_tree.specs.Tree as t
use Rattle.verilog_tree.specs.View.{arms_view, expr_view, exprs_view, loop_view, statement_view, statements_view}
use Rattle.verilog_tree.specs.declared.expr.Expr.{Expr}
use Rattle.verilog_tree.specs.declared.statement.Arm.{Arm, out-Arm, fold_out-Arm}
use Rattle.verilog_tree.specs.declared.statement.For.{For, out-For, fold_out-For}
use Rattle.verilog_tree.specs.declared.statement.Statement.{Statement}
use Rattle.verilog_tree.specs.declared.statement.StatementForm as form
use Rattle.verilog_tree.specs.declared.statement.StatementForm.TheFolds.{fold_out-Statement, fold-roll-StatementForm}
use Rattle.verilog_tree.specs.declared.statement.StatementForm.TheVariants.{rolls-Block, rolls-If, rolls-Case, rolls-For, rolls-Set, rolls-Task, rolls-Empty}

module _ (s : Statement) where
  pub block_view : (v : Vec Statement) → s.form.value ≡ form.Block v → statement_view s ≡ t.sequential_block s.place (t.statements_of (statements_view v.items))
  block_view v is = rw (fold_out-Statement, is, ← rolls-Block v, fold-roll-StatementForm) refl

  pub if_view : (c : Expr) (then : Statement) → s.form.value ≡ form.If c then None → statement_view s ≡ t.if_statement s.place (expr_view c) (statement_view then) t.no_statements
  if_view c then is = rw (fold_out-Statement, is, ← rolls-If c then None, fold-roll-StatementForm) refl

  pub if_else_view : (c : Expr) (then other : Statement) → s.form.value ≡ form.If c then (Some other) →
      statement_view s ≡ t.if_statement s.place (expr_view c) (statement_view then) (t.a_statement (statement_view other) t.no_statements)
  if_else_view c then other is = rw (fold_out-Statement, is, ← rolls-If c then (Some other), fold-roll-StatementForm) refl

  pub case_view : (k : CaseKind) (on : Expr) (v : Vec Arm) → s.form.value ≡ form.Case k on v → statement_view s ≡ t.case_statement s.place k (expr_view on) (t.arms_of (arms_view v.items))
  case_view k on v is = rw (fold_out-Statement, is, ← rolls-Case k on v, fold-roll-StatementForm) refl

  pub for_view : (h : For) → s.form.value ≡ form.For h → statement_view s ≡ t.for_loop s.place (loop_view h).0 (loop_view h).1
  for_view h is = rw (fold_out-Statement, is, ← rolls-For h, fold-roll-StatementForm) refl

  pub set_view : (x : Expr) (b : Bool) (y : Expr) → s.form.value ≡ form.Set x b y → statement_view s ≡ t.assignment s.place (expr_view x) b (expr_view y)
  set_view x b y is = rw (fold_out-Statement, is, ← rolls-Set x b y, fold-roll-StatementForm) refl

  pub task_view : s.form.value ≡ form.Task → statement_view s ≡ t.system_task s.place
  task_view is = rw (fold_out-Statement, is, ← rolls-Task, fold-roll-StatementForm) refl

  pub empty_view : s.form.value ≡ form.Empty → statement_view s ≡ t.null_statement s.place
  empty_view is = rw (fold_out-Statement, is, ← rolls-Empty, fold-roll-StatementForm) refl

-- the header of a loop by its parts
pub header_view : (h : For) → (loop_view h).0 ≡ record { place = (out-For h).place; name = expr_view (out-For h).name; first = expr_view (out-For h).first; test = expr_view (out-For h).test; target = expr_view (out-For h).target; step = expr_view (out-For h).step }
header_view h = rw fold_out-For refl

-- the body of a loop
pub body_view : (h : For) → (loop_view h).1 ≡ statement_view (out-For h).body
body_view h = rw fold_out-For refl

-- the statements from the one at i on
pub statements_from : (ss : List Statement) (i : ℕ) (s : Statement) → i < length ss → s ≡ get_or ss i s → t.statements_of (statements_view (drop i ss)) ≡ t.a_statement (statement_view s) (t.statements_of (statements_view (drop (i + 1) ss)))
statements_from ss i s within is = rw (add-one, drop-cons ss i s within, ← is) refl

-- the arms from the one at i on
pub arms_from : (arms : List Arm) (i : ℕ) (a : Arm) → i < length arms → a ≡ get_or arms i a → t.arms_of (arms_view (drop i arms)) ≡ t.case_item (t.exprs_of (exprs_view (out-Arm a).labels.items)) (statement_view (out-Arm a).body) (t.arms_of (arms_view (drop (i + 1) arms)))
arms_from arms i a within is = rw (add-one, drop-cons arms i a within, ← is) (rw fold_out-Arm refl)
