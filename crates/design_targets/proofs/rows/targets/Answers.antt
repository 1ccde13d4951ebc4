use Rattle.std.proofs.Common.{◌≡◌, ◌∙◌, ◌++◌, map, sym, ap, subst}
use Rattle.std.specs.List.{All, flat_map}
use Rattle.std.proofs.lemmas.Result.{IfOk-weaker}
use Rattle.design_model.specs.Design.{body}
use Rattle.design_model.specs.View.{process_view}
use Rattle.design_targets.specs.Leaves.{leaf_view, leaves}
use Rattle.design_targets.specs.Written.{IsShapedLeaf, leaf_names}
use Rattle.design_targets.proofs.Lists.{all_back}
use Rattle.design_targets.proofs.Shapes.{leaves_shaped}
use Rattle.design_targets.proofs.rows.targets.Goals as goal

pub named-requires : goal.named-requires
named-requires c =
    let is : map leaf_view c.as_slice.result.now ≡ leaves c.args.blocking (body (process_view c.args.process.now)) = ap (map leaf_view) c.as_slice.ensures.value ∙ c.in_ok-push_leaves.ensures ∙ ap (λ ls. map leaf_view ls ++ leaves c.args.blocking (body (process_view c.args.process.now))) c.new-leaves.ensures.items in
    all_back IsShapedLeaf leaf_view c.as_slice.result.now (subst (All IsShapedLeaf) (sym is) (leaves_shaped c.requires.0 c.args.blocking (body (process_view c.args.process.now)) c.requires.1))

pub returns : goal.returns
returns c =
    let is : map leaf_view c.as_slice.result.now ≡ leaves c.args.blocking (body (process_view c.args.process.now)) = ap (map leaf_view) c.as_slice.ensures.value ∙ c.in_ok-push_leaves.ensures ∙ ap (λ ls. map leaf_view ls ++ leaves c.args.blocking (body (process_view c.args.process.now))) c.new-leaves.ensures.items in
    IfOk-weaker c.named.result _ _ (λ list e. e ∙ ap (flat_map leaf_names) is) c.named.ensures
