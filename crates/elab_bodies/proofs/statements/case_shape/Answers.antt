use Rattle.std.proofs.Common.{◌∙◌, ap}
use Rattle.elab_const.specs.Calls.{told}
use Rattle.elab_const.specs.Cases.{case_answer}
use Rattle.flat_design.specs.Scope.{binding_of}
use Rattle.verilog_tree.specs.Tree.{arms_of}
use Rattle.verilog_tree.specs.View.{arms_view, expr_view}
use Rattle.elab_bodies.proofs.SoundCases.{no_case_fault}
use Rattle.elab_bodies.proofs.statements.case_shape.Goals as goal

pub unreachable-requires : goal.unreachable-requires
unreachable-requires c =
    let e = expr_view c.args.on.now in
    let is = arms_of (arms_view c.args.arms.now) in
    let answer = c.case_shape.ensures.answer ∙ ap (λ names. told (case_answer names e is)) c.values.ensures in
    no_case_fault (binding_of c.args.scope.now) e is c.case_shape.result _ c.requires.on c.requires.arms answer c.in-Err.is
