-- The parts of a concatenation, one after the other.
use Rattle.std.proofs.Common.{◌≡◌, ◌<◌, ◌+◌, ◌++◌, ℕ, List, length, drop, drop-cons, append_assoc, get_or, add-one, refl, arith, Option, Some, None}
use Rattle.four_state.specs.declared.bit.Bit.{Bit}
use Rattle.verilog_tree.specs.Tree as t
use Rattle.verilog_tree.specs.Tree.{Exprs, no_exprs, exprs_of, an_expr}
use Rattle.verilog_tree.specs.View.{expr_view, exprs_view}
use Rattle.verilog_tree.specs.declared.expr.Expr.{Expr}
use Rattle.elab_const.specs.Scope.{Names, Fault, earlier}
use Rattle.elab_const.specs.Meaning.{meaning, alone, parts_of}
use Rattle.elab_const.specs.Faults.{fault_of, first_fault}

-- the rest is the next part and what follows it
pub next_part : (parts : List Expr) (i : ℕ) (d : Expr) → i < length parts →
    exprs_of (exprs_view (drop i parts)) ≡ an_expr (expr_view (get_or parts i d)) (exprs_of (exprs_view (drop (i + 1) parts)))
next_part parts i d within = rw (drop-cons parts i d within, add-one i) refl

-- the same with the part by its name
pub next_part_is : (parts : List Expr) (i : ℕ) (d e : Expr) → i < length parts → e ≡ get_or parts i d →
    exprs_of (exprs_view (drop i parts)) ≡ an_expr (expr_view e) (exprs_of (exprs_view (drop (i + 1) parts)))
next_part_is parts i d e within is = rw is (next_part parts i d within)

-- what is found after a part without a fault, and after one with a fault
pub part_found : (g : Names) (o : Option Fault) (e : t.Expr) (es : Exprs) → fault_of g e ≡ None → first_fault g o (an_expr e es) ≡ first_fault g o es
part_found g None e es none = rw none refl
part_found g (Some f) e es none = rw none refl

pub part_failed : (g : Names) (o : Option Fault) (e : t.Expr) (es : Exprs) (h r : Fault) → fault_of g e ≡ Some h → Some r ≡ earlier o (Some h) → first_fault g (Some r) es ≡ first_fault g o (an_expr e es)
part_failed g o e es h r is first = rw (is, first) refl

-- one part more: its width and its bits
pub width_with : (g : Names) (e : t.Expr) (es : Exprs) (w n k all : ℕ) → w + (parts_of g (an_expr e es)).width ≡ all → n ≡ (meaning g e).shape.width → k ≡ w + n → k + (parts_of g es).width ≡ all
width_with g e es w n k all whole here more = omega arith

pub bits_with : (g : Names) (e : t.Expr) (es : Exprs) (before after all : List Bit) → (parts_of g (an_expr e es)).bits ++ before ≡ all → after ≡ alone (meaning g e) ++ before → (parts_of g es).bits ++ after ≡ all
bits_with g e es before after all whole more = rw (more, ← append_assoc) whole
