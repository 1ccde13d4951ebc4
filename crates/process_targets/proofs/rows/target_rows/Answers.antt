use Rattle.std.proofs.Common.{◌≡◌, ◌∙◌, ◌<◌, ◌++◌, ◌∷◌, [], true, length, get_or, map, sym, ap, subst, arith}
use Rattle.std.specs.List.{All}
use Rattle.std.proofs.lemmas.List.{length-append, length-map, map-append, with_items_is}
use Rattle.std.proofs.lemmas.Result.{IfOk-weaker}
use Rattle.design_model.specs.View.{design_view, process_view}
use Rattle.design_targets.specs.Leaves.{leaves}
use Rattle.index_sets.specs.Rows.{row_at}
use Rattle.process_targets.specs.Rows.{AreTargetRows, AreTargets, HasLeaves}
use Rattle.process_targets.specs.Targets.{IsRightLeaf}
use Rattle.process_targets.proofs.Leaves.{right_law}
use Rattle.process_targets.proofs.Named.{targets_of_leaves}
use Rattle.process_targets.proofs.Processes.{all_rows, body_is, rows_more}
use Rattle.process_targets.proofs.rows.target_rows.Goals as goal

pub targets-requires-clause-right : goal.targets-requires-clause-right
targets-requires-clause-right c =
    let d = design_view c.args.design.now in
    let less : c.loop-process.process-index < length c.args.design.now.processes = omega (arith, c.loop-process-test.true, ap length c.as_slice-process-items.ensures) in
    let found : c.process-item.result ≡ get_or c.args.design.now.processes c.loop-process.process-index c.process-item.result = c.process-item.is ∙ ap (λ qs. get_or qs c.loop-process.process-index c.process-item.result) c.as_slice-process-items.ensures in
    subst (λ b. All (IsRightLeaf d) (leaves true b)) (body_is c.args.design.now c.loop-process.process-index c.process-item.result less found) (right_law d c.requires c.loop-process.process-index)

pub loop-process-preserved : goal.loop-process-preserved
loop-process-preserved c =
    let d = design_view c.args.design.now in
    let n = c.loop-process.process-index in
    let less : c.loop-process.process-index < length c.args.design.now.processes = omega (arith, c.loop-process-test.true, ap length c.as_slice-process-items.ensures) in
    let found : c.process-item.result ≡ get_or c.args.design.now.processes c.loop-process.process-index c.process-item.result = c.process-item.is ∙ ap (λ qs. get_or qs c.loop-process.process-index c.process-item.result) c.as_slice-process-items.ensures in
    let whole = with_items_is c.loop-process.places c.targets.new.places (omega arith) in
    let read : length c.deref_mut.result.now ≡ length c.loop-process.places.items = ap length c.deref_mut.ensures.value in
    let row : AreTargets d c.loop-process.process-index c.in_ok-list.list.items = targets_of_leaves d c.loop-process.process-index c.in_ok-list.list.items c.requires c.in_ok-list.ensures.once (subst (λ b. HasLeaves d (leaves true b) c.in_ok-list.list.items) (sym (body_is c.args.design.now n c.process-item.result less found)) c.in_ok-list.ensures.row) in
    let lists : map (λ list. list.items) c.push.new.self.items ≡ map (λ list. list.items) c.loop-process.lists.items ++ c.in_ok-list.list.items ∷ [] = ap (map (λ list. list.items)) c.in_ok-push.ensures.items ∙ map-append (λ list. list.items) c.loop-process.lists.items (c.in_ok-list.list ∷ []) in
    record {
      size = ap length whole ∙ c.in_ok-list.ensures.size ∙ read ∙ c.loop-process.invariant.size;
      count = omega (arith, ap length c.in_ok-push.ensures.items, length-append c.loop-process.lists.items (c.in_ok-list.list ∷ []), c.loop-process.invariant.count);
      each = λ k l. subst (λ rows. AreTargets d k (row_at rows k)) (sym lists) (rows_more (AreTargets d) (map (λ list. list.items) c.loop-process.lists.items) c.in_ok-list.list.items n (length-map c.loop-process.lists.items (λ list. list.items) ∙ c.loop-process.invariant.count) row c.loop-process.invariant.each k l);
    }

pub returns : goal.returns
returns c =
    let d = design_view c.args.design.now in
    let rows = map (λ list. list.items) c.loop-process.lists.items in
    let items : map (λ list. list.items) c.as_slice.result.now ≡ map (λ list. list.items) c.loop-process.lists.items = ap (map (λ list. list.items)) c.as_slice.ensures.value in
    let size : length (map (λ list. list.items) c.loop-process.lists.items) ≡ length c.loop-process.lists.items = length-map c.loop-process.lists.items (λ list. list.items) in
    let whole : length d.processes ≡ length c.args.design.now.processes = length-map c.args.design.now.processes process_view in
    let made : AreTargetRows d rows = all_rows d rows c.requires (omega (arith, size, whole, c.loop-process.invariant.count, c.loop-process-test.false, c.loop-process.auto.process-index-end, ap length c.as_slice-process-items.ensures)) (λ k l. c.loop-process.invariant.each k (omega (arith, l, whole, c.loop-process-test.false, ap length c.as_slice-process-items.ensures))) in
    IfOk-weaker c.from_lists.result _ _ (λ r e. subst (AreTargetRows d) (sym (e ∙ items)) made) c.from_lists.ensures
