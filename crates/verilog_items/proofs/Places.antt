-- What is between the parentheses of an instance by position.
use Rattle.std.proofs.Common.{◌≡◌, ◌≢◌, if◌then◌else◌, false, List, [], ◌∷◌, length, get_or, Option, Some, None, refl, arith}
use Rattle.std.specs.Prelude.{is_none}
use Rattle.verilog_tree.specs.Tree as t
use Rattle.verilog_tree.specs.View.{expr_option_view}
use Rattle.verilog_tree.specs.declared.expr.Expr.{Expr}
use Rattle.verilog_tree.specs.declared.item.Given.{Given}
use Rattle.verilog_grammar.specs.Modules.{without_lone_empty}
use Rattle.verilog_items.specs.Instances.{is_lone_empty, given_values}

pub lone : (es : List (Option t.Expr)) → without_lone_empty es ≡ (if is_lone_empty es then [] else es)
lone [] = refl
lone (None ∷ []) = refl
lone (None ∷ e ∷ es) = refl
lone (Some e ∷ es) = refl

lone_value : (v : Option Expr) → is_none v ≡ is_lone_empty (expr_option_view v ∷ [])
lone_value None = refl
lone_value (Some e) = refl

pub lone_there : (xs : List Given) (x d : Given) → length xs ≡ 1 → x ≡ get_or xs 0 d → is_none x.value ≡ is_lone_empty (given_values xs)
lone_there [] x d h e = absurd (omega (arith, h))
lone_there (y ∷ []) x d h e = rw e (lone_value y.value)
lone_there (y ∷ z ∷ ys) x d h e = absurd (omega (arith, h))

two_not : (v w : Option t.Expr) (vs : List (Option t.Expr)) → is_lone_empty (v ∷ w ∷ vs) ≡ false
two_not None w vs = refl
two_not (Some e) w vs = refl

pub many_not : (xs : List Given) → length xs ≢ 1 → is_lone_empty (given_values xs) ≡ false
many_not [] h = refl
many_not (y ∷ []) h = absurd (h refl)
many_not (y ∷ z ∷ ys) h = two_not (expr_option_view y.value) (expr_option_view z.value) (given_values ys)

pub none_not : (xs : List Given) → length xs ≡ 0 → is_lone_empty (given_values xs) ≡ false
none_not [] h = refl
none_not (y ∷ ys) h = absurd (omega (arith, h))
