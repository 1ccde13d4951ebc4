-- The width and sign by which the selector and the labels of a case are compared (clause 9.5).
use Rattle.std.specs.Prelude.{Result, Ok}
use Rattle.verilog_tree.specs.Tree.{Expr, Exprs, no_exprs, an_expr, CaseItems, no_items, case_item}
use Rattle.elab_const.specs.Scope.{Names, Fault, both, on_ok}
use Rattle.elab_const.specs.Meaning.{Shape, common_shape}
use Rattle.elab_const.specs.Faults.{shape_answer}

-- the greater width of both, and a sign where both have one; or their first fault
abbrev pub together : Result Shape Fault → Result Shape Fault → Result Shape Fault
together a b = on_ok (both a b) (λ p. Ok (common_shape p.0 p.1))

-- the same with each of these labels
abbrev pub with_labels : Names → Result Shape Fault → Exprs → Result Shape Fault
with_labels g s no_exprs = s
with_labels g s (an_expr e es) = with_labels g (together s (shape_answer g e)) es

-- the same with the labels of all arms
abbrev pub with_arms : Names → Result Shape Fault → CaseItems → Result Shape Fault
with_arms g s no_items = s
with_arms g s (case_item es body items) = with_arms g (with_labels g s es) items

-- the shape in which a selector and the labels of its arms are compared, or their first fault
abbrev pub case_answer : Names → Expr → CaseItems → Result Shape Fault
case_answer g on items = with_arms g (shape_answer g on) items
