-- The plain tree of an expression by its form.
use Rattle.std.proofs.Common.{◌≡◌, refl, Bool}
use Rattle.std.specs.Global.{Vec}
use Rattle.cov_host.specs.declared.place.Place.{Place}
use Rattle.four_state.specs.declared.operator.Binary.{Binary}
use Rattle.four_state.specs.declared.operator.Unary.{Unary}
use Rattle.verilog_tree.specs.Tree as t
use Rattle.verilog_tree.specs.View.{expr_view, exprs_view, expr_form_step}
use Rattle.verilog_tree.specs.declared.expr.Expr.{Expr}
use Rattle.verilog_tree.specs.declared.expr.ExprForm as form
use Rattle.verilog_tree.specs.declared.expr.ExprForm.TheOpen.{ExprForm-F}
use Rattle.verilog_tree.specs.declared.expr.ExprForm.TheFolds.{fold_out-Expr, fold_out-ExprForm, fold-roll-ExprForm}
use Rattle.verilog_tree.specs.declared.expr.ExprForm.TheVariants.{rolls-Bit, rolls-Part, rolls-Slide, rolls-Unary, rolls-Binary, rolls-Choice, rolls-Concat, rolls-Repeat, rolls-Sign}

module _ (e : Expr) where
  pub bit_view : (of i : Expr) → e.form.value ≡ form.Bit of i → expr_view e ≡ t.bit_select e.place (expr_view of) (expr_view i)
  bit_view of i is = rw (fold_out-Expr, is, ← rolls-Bit of i, fold-roll-ExprForm) refl

  pub part_view : (of h l : Expr) (b : Place) → e.form.value ≡ form.Part of h l b → expr_view e ≡ t.part_select e.place (expr_view of) (expr_view h) (expr_view l) b
  part_view of h l b is = rw (fold_out-Expr, is, ← rolls-Part of h l b, fold-roll-ExprForm) refl

  pub slide_view : (of k w : Expr) (up : Bool) (b : Place) → e.form.value ≡ form.Slide of k w up b → expr_view e ≡ t.indexed_part e.place (expr_view of) (expr_view k) (expr_view w) up b
  slide_view of k w up b is = rw (fold_out-Expr, is, ← rolls-Slide of k w up b, fold-roll-ExprForm) refl

  pub unary_view : (op : Unary) (a : Expr) → e.form.value ≡ form.Unary op a → expr_view e ≡ t.unary_operator e.place op (expr_view a)
  unary_view op a is = rw (fold_out-Expr, is, ← rolls-Unary op a, fold-roll-ExprForm) refl

  pub binary_view : (op : Binary) (a b : Expr) → e.form.value ≡ form.Binary op a b → expr_view e ≡ t.binary_operator e.place op (expr_view a) (expr_view b)
  binary_view op a b is = rw (fold_out-Expr, is, ← rolls-Binary op a b, fold-roll-ExprForm) refl

  pub choice_view : (c a b : Expr) → e.form.value ≡ form.Choice c a b → expr_view e ≡ t.conditional e.place (expr_view c) (expr_view a) (expr_view b)
  choice_view c a b is = rw (fold_out-Expr, is, ← rolls-Choice c a b, fold-roll-ExprForm) refl

  pub concatenation_view : (v : Vec Expr) → e.form.value ≡ form.Concat v → expr_view e ≡ t.concatenation e.place (t.exprs_of (exprs_view v.items))
  concatenation_view v is = rw (fold_out-Expr, is, ← rolls-Concat v, fold-roll-ExprForm) refl

  pub repeat_view : (n : Expr) (v : Vec Expr) → e.form.value ≡ form.Repeat n v → expr_view e ≡ t.replication e.place (expr_view n) (t.exprs_of (exprs_view v.items))
  repeat_view n v is = rw (fold_out-Expr, is, ← rolls-Repeat n v, fold-roll-ExprForm) refl

  pub sign_view : (s : Bool) (a : Expr) → e.form.value ≡ form.Sign s a → expr_view e ≡ t.sign_cast e.place s (expr_view a)
  sign_view s a is = rw (fold_out-Expr, is, ← rolls-Sign s a, fold-roll-ExprForm) refl

-- the place of one level
step_place : (x : ExprForm-F (Place → t.Expr) t.Expr) (p : Place) → t.place_of (expr_form_step x p) ≡ p
step_place (ExprForm-F.Number n) p = refl
step_place (ExprForm-F.Name x) p = refl
step_place (ExprForm-F.Bit x i) p = refl
step_place (ExprForm-F.Part x h l b) p = refl
step_place (ExprForm-F.Slide x k w up b) p = refl
step_place (ExprForm-F.Unary op x) p = refl
step_place (ExprForm-F.Binary op x y) p = refl
step_place (ExprForm-F.Choice c x y) p = refl
step_place (ExprForm-F.Concat v) p = refl
step_place (ExprForm-F.Repeat n v) p = refl
step_place (ExprForm-F.Sign s x) p = refl
step_place (ExprForm-F.Paren x) p = refl

-- the place of an expression
pub place_is : (e : Expr) → t.place_of (expr_view e) ≡ e.place
place_is e = rw (fold_out-Expr, fold_out-ExprForm) (step_place _ e.place)
