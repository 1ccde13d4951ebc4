use Rattle.std.proofs.Common.{ap}
use Rattle.elab_const.specs.Calls.{told}
use Rattle.elab_const.specs.Meaning.{shape}
use Rattle.elab_const.specs.Scope.{unless}
use Rattle.flat_design.specs.Scope.{binding_of, names}
use Rattle.verilog_tree.specs.View.{expr_view}
use Rattle.flat_design.proofs.NoConstFaults.{no_const_fault}
use Rattle.elab_build.proofs.shapes.measured.Goals as goal

pub unreachable-requires : goal.unreachable-requires
unreachable-requires c =
    let g = binding_of c.args.scope.now in
    let e = expr_view c.args.expr.now in
    let sound = no_const_fault g e c.requires.sound.0 c.requires.sound.1 in
    let answer = rw c.values.ensures at c.shape.ensures.answer in
    let found = ap (λ f. told (unless f (shape (names g) e))) sound in
    absurd (cc (answer, found, c.in-Err.is))
