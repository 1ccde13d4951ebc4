-- The shape of a case whose selector and labels have no fault.
use Rattle.std.proofs.Common.{◌≡◌, ◌∙◌, refl, ap, Result, Ok, Err}
use Rattle.verilog_tree.specs.Tree.{Expr, Exprs, no_exprs, an_expr, CaseItems, no_items, case_item}
use Rattle.elab_const.specs.Calls.{told}
use Rattle.elab_const.specs.Cases.{with_labels, with_arms, case_answer, together}
use Rattle.elab_const.specs.Faults.{shape_answer}
use Rattle.elab_const.specs.Meaning.{common_shape}
use Rattle.elab_const.specs.Meaning as const
use Rattle.elab_const.specs.Scope.{unless}
use Rattle.elab_const.specs.declared.fault.ConstFault.{ConstFault}
use Rattle.elab_const.specs.declared.width.Shape.{Shape}
use Rattle.flat_design.specs.Scope.{Scope, names}
use Rattle.flat_design.proofs.NoConstFaults.{no_const_fault}
use Rattle.elab_build.specs.Sound.{IsSound, AreSound}
use Rattle.elab_bodies.specs.Sound.{AreSoundItems}

-- the expression has a shape
shape_known : (g : Scope) (e : Expr) → IsSound g e → shape_answer (names g) e ≡ Ok (const.shape (names g) e)
shape_known g e s = ap (λ f. unless f (const.shape (names g) e)) (no_const_fault g e s.0 s.1)

-- so have all labels together
labels_known : (g : Scope) (es : Exprs) (r : Result Shape _) (s : Shape) → AreSound g es → r ≡ Ok s → (t : Shape) × (with_labels (names g) r es ≡ Ok t)
labels_known g no_exprs r s sound is = (s, is)
labels_known g (an_expr e es) r s sound is =
    let both : together r (shape_answer (names g) e) ≡ Ok (common_shape s (const.shape (names g) e)) = rw (is, shape_known g e sound.0) refl in
    labels_known g es (together r (shape_answer (names g) e)) (common_shape s (const.shape (names g) e)) sound.1 both

arms_known : (g : Scope) (is : CaseItems) (r : Result Shape _) (s : Shape) → AreSoundItems g is → r ≡ Ok s → (t : Shape) × (with_arms (names g) r is ≡ Ok t)
arms_known g no_items r s sound known = (s, known)
arms_known g (case_item labels body is) r s sound known =
    let here = labels_known g labels r s sound.0 known in
    arms_known g is (with_labels (names g) r labels) here.0 sound.2 here.1

-- and the case
pub case_known : (g : Scope) (e : Expr) (is : CaseItems) → IsSound g e → AreSoundItems g is → (t : Shape) × (case_answer (names g) e is ≡ Ok t)
case_known g e is sound all = arms_known g is (shape_answer (names g) e) (const.shape (names g) e) all (shape_known g e sound)

no_answer : (r : Result Shape ConstFault) (s : Shape) (f : ConstFault) → r ≡ Ok s → r ≡ Err f → ⊥
no_answer r s f found err = absurd cc

-- so no fault is reported
pub no_case_fault : (g : Scope) (e : Expr) (is : CaseItems) (r : Result Shape ConstFault) (f : ConstFault) → IsSound g e → AreSoundItems g is → r ≡ told (case_answer (names g) e is) → r ≡ Err f → ⊥
no_case_fault g e is r f sound all answer err =
    let known = case_known g e is sound all in
    no_answer r known.0 f (answer ∙ ap told known.1) err
