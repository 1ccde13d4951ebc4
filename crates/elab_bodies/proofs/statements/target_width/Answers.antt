use Rattle.flat_design.specs.Scope.{binding_of}
use Rattle.verilog_tree.specs.View.{expr_view}
use Rattle.elab_build.proofs.SoundTargets.{target_sound}
use Rattle.elab_bodies.proofs.statements.target_width.Goals as goal

pub shape_of-requires : goal.shape_of-requires
shape_of-requires c = record { sound = target_sound (binding_of c.args.scope.now) (expr_view c.args.to.now) c.requires.clear c.requires.sound }
