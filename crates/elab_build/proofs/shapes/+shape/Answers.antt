use Rattle.std.proofs.Common.{rules}
use Rattle.flat_design.specs.Scope.{binding_of}
use Rattle.verilog_tree.specs.Tree.{place_of}
use Rattle.verilog_tree.specs.View.{expr_view}
use Rattle.elab_build.proofs.SoundParts.{sound_binary}
use Rattle.elab_build.proofs.shapes.+shape.Goals as goal

pub binary_shape-shape_of-requires-in-Wide : goal.binary_shape-shape_of-requires-in-Wide
binary_shape-shape_of-requires-in-Wide t c =
    (search rules, (sound_binary (binding_of c.args.scope.now) (place_of (expr_view c.args.a.now)) c.args.op (expr_view c.args.a.now) (expr_view c.args.b.now) c.requires.sound).0)

pub binary_shape-shape_of-requires-in-Wide-2 : goal.binary_shape-shape_of-requires-in-Wide-2
binary_shape-shape_of-requires-in-Wide-2 t c =
    (search rules, (sound_binary (binding_of c.args.scope.now) (place_of (expr_view c.args.a.now)) c.args.op (expr_view c.args.a.now) (expr_view c.args.b.now) c.requires.sound).1)

pub binary_shape-shape_of-requires-in-Shift : goal.binary_shape-shape_of-requires-in-Shift
binary_shape-shape_of-requires-in-Shift t c =
    (search rules, (sound_binary (binding_of c.args.scope.now) (place_of (expr_view c.args.a.now)) c.args.op (expr_view c.args.a.now) (expr_view c.args.b.now) c.requires.sound).0)
