-- Targets without a fault.
use Rattle.verilog_tree.specs.Tree.{Exprs, no_exprs, an_expr}
use Rattle.flat_design.specs.Scope.{Scope}
use Rattle.elab_build.specs.Sound.{IsSoundTarget}

-- each of the targets has no fault
abbrev pub EachSoundTarget : Scope → Exprs → Type 0
EachSoundTarget g no_exprs = Unit {0}
EachSoundTarget g (an_expr e es) = IsSoundTarget g e × EachSoundTarget g es
