-- The deepest of expressions with one more at their end.
use Rattle.std.proofs.Common.{◌≡◌, List, [], ◌∷◌, ◌++◌, refl, sym, ap, ◌∙◌}
use Rattle.std.proofs.lemmas.List.{map_push}
use Rattle.verilog_tree.specs.Tree as t
use Rattle.verilog_tree.specs.Tree.{exprs_of}
use Rattle.verilog_tree.specs.View.{expr_view, exprs_view}
use Rattle.verilog_tree.specs.Depth.{depth, deeper, deepest_of}
use Rattle.verilog_tree.specs.declared.depth.Depth.{Depth}
use Rattle.verilog_tree.specs.declared.expr.Expr.{Expr}

deepest-push : (start : Depth) (es : List t.Expr) (e : t.Expr) → deepest_of start (exprs_of (es ++ e ∷ [])) ≡ deeper (deepest_of start (exprs_of es)) (depth e)
deepest-push start [] e = refl
deepest-push start (x ∷ es) e = deepest-push (deeper start (depth x)) es e

pub deepest_pushed : (start old d new : Depth) (xs ys : List Expr) (x : Expr) → old ≡ deepest_of start (exprs_of (exprs_view xs)) → d ≡ depth (expr_view x)
    → ys ≡ xs ++ x ∷ [] → new ≡ deeper old d → new ≡ deepest_of start (exprs_of (exprs_view ys))
deepest_pushed start old d new xs ys x h k e l =
    let more : exprs_view ys ≡ exprs_view xs ++ expr_view x ∷ [] = ap exprs_view e ∙ map_push expr_view xs x in
    l ∙ ap (λ a. deeper a d) h ∙ ap (deeper (deepest_of start (exprs_of (exprs_view xs)))) k ∙ sym (deepest-push start (exprs_view xs) (expr_view x)) ∙ ap (λ es. deepest_of start (exprs_of es)) (sym more)
