use Rattle.std.proofs.Common.{◌≡◌, ◌∙◌, ◌<◌, [], true, false, length, sym, ap, ap₂, subst}
use Rattle.std.specs.List.{All}
use Rattle.std.proofs.lemmas.List.{get_or-map}
use Rattle.design_model.specs.Design.{body}
use Rattle.design_model.specs.View.{process_view}
use Rattle.design_targets.specs.Written.{written}
use Rattle.design_wakes.proofs.Tables.{lists_grow}
use Rattle.index_sets.specs.Rows.{row_at}
use Rattle.once_writers.specs.Lists.{once_of, once_written}
use Rattle.once_writers.proofs.Picked.{marks, marks_are, marks_within}
use Rattle.once_writers.proofs.lists.once_lists.Goals as goal

pub once_list-requires-clause-within : goal.once_list-requires-clause-within
once_list-requires-clause-within c =
    let is = marks_are c.args.wanted.now c.row.result.now c.row-in-loop-process.result.now c.new-marked.result.items c.push_marked.new.marked.items c.push_marked-in-loop-process.new.marked.items c.new-marked.ensures.items c.in_ok-push_marked.ensures c.in_ok-push_marked-2.ensures in
    subst (All (λ x. x < length c.loop-process.counts.counts.items)) (sym (c.as_slice.ensures.value ∙ is)) (marks_within c.args.wanted.now c.row.result.now c.row-in-loop-process.result.now (length c.loop-process.counts.counts.items) c.loop-process.invariant.size)

pub loop-process-preserved : goal.loop-process-preserved
loop-process-preserved c =
    let wanted = c.args.wanted.now in
    let ps = c.args.processes.now in
    let i = c.loop-process.process in
    let w = c.index-processes-process.result in
    let is = marks_are wanted c.row.result.now c.row-in-loop-process.result.now c.new-marked.result.items c.push_marked.new.marked.items c.push_marked-in-loop-process.new.marked.items c.new-marked.ensures.items c.in_ok-push_marked.ensures c.in_ok-push_marked-2.ensures in
    let first : c.row.result.now ≡ written true (body (process_view w)) = c.row.ensures ∙ ap (λ rows. row_at rows i) c.in_ok-blocking.ensures ∙ get_or-map (λ process. written true (body (process_view process))) ps i w [] c.loop-process-test.true ∙ ap (λ process. written true (body (process_view process))) (sym c.index-processes-process.is) in
    let second : c.row-in-loop-process.result.now ≡ written false (body (process_view w)) = c.row-in-loop-process.ensures ∙ ap (λ rows. row_at rows i) c.in_ok-nonblocking.ensures ∙ get_or-map (λ process. written false (body (process_view process))) ps i w [] c.loop-process-test.true ∙ ap (λ process. written false (body (process_view process))) (sym c.index-processes-process.is) in
    record {
      lists = rw c.in_ok-push.ensures.items (lists_grow (λ list. list.items) (λ process. once_written wanted (process_view process)) c.loop-process.lists.items ps i c.in_ok-list.list w c.loop-process-test.true c.index-processes-process.is (c.in_ok-list.ensures.found ∙ ap (once_of (process_view w)) (c.as_slice.ensures.value ∙ is ∙ ap₂ (marks wanted) first second)) c.loop-process.invariant.lists);
      clear = c.in_ok-list.ensures.clear;
      size = c.in_ok-list.ensures.size ∙ c.loop-process.invariant.size;
    }
