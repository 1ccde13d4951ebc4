-- The plain arm of an arm of the code.
use Rattle.cov_host.specs.declared.place.Place.{Place}
use Rattle.design_model.specs.Tree as t
use Rattle.design_model.specs.View.{Arm, arm_step, stmt_form_step, stmt_step}
use Rattle.design_model.specs.declared.tree.CaseArm.{CaseArm, fold-CaseArm}

-- its labels and its statement
abbrev pub arm_view : CaseArm → Arm
arm_view = fold-CaseArm (Place → t.Stmt) Arm t.Stmt stmt_form_step arm_step stmt_step
