use Rattle.std.proofs.Common.{◌∙◌, ap, subst, arith}
use Rattle.elab_const.specs.Meaning.{count_of}
use Rattle.elab_const.specs.Scope.{IsWidth}
use Rattle.flat_design.specs.Scope.{binding_of}
use Rattle.elab_const.specs.Calls.{told}
use Rattle.elab_const.specs.Faults.{constant_answer}
use Rattle.verilog_tree.specs.View.{expr_view}
use Rattle.elab_build.proofs.SoundTargets.{read_width, read_some, no_count}
use Rattle.elab_build.proofs.targets.part_width.Goals as goal
use Rattle.elab_build.proofs.targets.part_width.Goals.{in_default-via-in-At+else-width-le128, in_default-via-in_default}

pub unreachable-requires : goal.unreachable-requires
unreachable-requires c =
    let g = binding_of c.args.scope.now in
    let w = expr_view c.args.width.now in
    let is = c.constant.ensures ∙ ap (λ f. told (constant_answer f w)) c.values.ensures in
    let width = read_width g c.args.bracket w c.constant.result c.in-Ok.value c.index.result c.requires.sound c.requires.known is c.in-Ok.is c.index.ensures in
    elim c.in_default.branch [
      | in_default-via-in-At+else-width-le128 v ↦ let at = subst (λ n. IsWidth (count_of n)) v.in-At.is width in let over = v.if-width-le128.false in omega (arith, at.1, over)
      | in_default-via-in_default v ↦ no_count c.index.result (λ k is. v.in_default.not-At k is) width.0
    ]

pub unreachable-requires-in-Err : goal.unreachable-requires-in-Err
unreachable-requires-in-Err c =
    let g = binding_of c.args.scope.now in
    let w = expr_view c.args.width.now in
    let is = c.constant.ensures ∙ ap (λ f. told (constant_answer f w)) c.values.ensures in
    read_some g c.args.bracket w c.constant.result c.in-Err.field-0 c.requires.sound c.requires.known is c.in-Err.is

pub returns-clause-within : goal.returns-clause-within
returns-clause-within c =
    let g = binding_of c.args.scope.now in
    let w = expr_view c.args.width.now in
    let is = c.constant.ensures ∙ ap (λ f. told (constant_answer f w)) c.values.ensures in
    let width = read_width g c.args.bracket w c.constant.result c.in-Ok.value c.index.result c.requires.sound c.requires.known is c.in-Ok.is c.index.ensures in
    subst (λ n. IsWidth (count_of n)) c.in-At.is width
