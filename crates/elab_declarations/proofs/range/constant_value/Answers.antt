use Rattle.std.proofs.Common.{◌≡◌, Ok, ap, ◌∙◌}
use Rattle.verilog_tree.specs.View.{expr_view}
use Rattle.elab_const.specs.Calls.{told}
use Rattle.elab_const.specs.Faults.{constant_answer}
use Rattle.elab_const.specs.Meaning as of
use Rattle.elab_const.specs.Scope.{unless}
use Rattle.flat_design.specs.Scope.{binding_of, names}
use Rattle.flat_design.proofs.NoConstFaults.{constant_none}
use Rattle.elab_declarations.proofs.range.constant_value.Goals as goal

pub unreachable-requires : goal.unreachable-requires
unreachable-requires c =
    let g = binding_of c.args.scope.now in
    let e = expr_view c.args.expr.now in
    let ok : c.constant.result ≡ Ok (of.constant (names g) e) = c.constant.ensures ∙ ap (λ n. told (constant_answer n e)) c.values.ensures ∙ ap (λ f. told (unless f (of.constant (names g) e))) (constant_none g e c.requires.constants c.requires.sound) in
    let err = c.in-Err.is in
    cc
