use Rattle.std.proofs.Common.{◌≡◌, ◌∙◌, ◌≤◌, length, map, sym, ap, subst, arith}
use Rattle.std.proofs.lemmas.List.{length-map}
use Rattle.std.proofs.lemmas.Result.{IfOk-weaker}
use Rattle.step_changes.specs.process_order.Names.{lists_of}
use Rattle.step_check.specs.Checks.{AreCheckRows}
use Rattle.step_check.proofs.Lists.{all_rows}
use Rattle.step_check.proofs.rows.check_rows.Goals as goal

pub returns : goal.returns
returns c =
    let codes = c.args.codes.now in
    let targets = c.args.targets.now in
    let lists = lists_of c.loop-process.lists.items in
    let size : length lists ≡ c.loop-process.process = length-map c.loop-process.lists.items (λ v. v.items) ∙ c.loop-process.invariant.0 in
    let count : length lists ≡ length targets = omega (arith, size, c.requires, c.loop-process-test.false, c.loop-process.auto.process-end) in
    let all : length targets ≤ c.loop-process.process = omega (arith, c.requires, c.loop-process-test.false) in
    let rows : AreCheckRows codes targets lists = all_rows codes targets lists c.loop-process.process count all c.loop-process.invariant.1 in
    IfOk-weaker c.from_lists.result _ _ (λ found e. subst (AreCheckRows codes targets) (sym (e ∙ ap (map (λ v. v.items)) c.as_slice.ensures.value)) rows) c.from_lists.ensures
