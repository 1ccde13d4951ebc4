use Rattle.std.proofs.Common.{◌≡◌, ◌∙◌, [], length, map, replicate, sym, ap, subst, arith}
use Rattle.std.proofs.lemmas.List.{length-map}
use Rattle.std.proofs.lemmas.Result.{IfOk-weaker}
use Rattle.index_sets.specs.Rows.{row_at}
use Rattle.design_wakes.specs.Transpose.{AddsPairs, IsTranspose}
use Rattle.design_wakes.proofs.Adding.{So, all_added, item_row, lists_more, lists_none}
use Rattle.design_wakes.proofs.turned.transpose.Goals as goal

pub loop-list-init : goal.loop-list-init
loop-list-init c = rw c.in_ok-rows.ensures (lists_none (map (λ list. list.items) c.args.lists.now) (replicate c.args.count []))

pub loop-list-preserved : goal.loop-list-preserved
loop-list-preserved c =
    let lists = map (λ list. list.items) c.args.lists.now in
    let is : row_at lists c.loop-list.list ≡ c.as_slice.result.now = item_row (λ list. list.items) c.args.lists.now c.loop-list.list c.index-lists-list.result c.loop-list-test.true c.index-lists-list.is ∙ sym c.as_slice.ensures.value in
    lists_more lists (replicate c.args.count []) (map (λ row. row.items) c.loop-list.rows.items) (map (λ row. row.items) c.add_list.new.rows.items) c.loop-list.list c.as_slice.result.now is c.loop-list.invariant c.in_ok-add_list.ensures

pub returns : goal.returns
returns c =
    let lists = map (λ list. list.items) c.args.lists.now in
    let end : c.loop-list.list ≡ length lists = omega (arith, c.loop-list-test.false, c.loop-list.auto.list-end, length-map c.args.lists.now (λ list. list.items)) in
    let all : AddsPairs (So lists (length lists)) (replicate c.args.count []) (map (λ row. row.items) c.loop-list.rows.items) = subst (λ n. AddsPairs (So lists n) (replicate c.args.count []) (map (λ row. row.items) c.loop-list.rows.items)) end c.loop-list.invariant in
    let made : IsTranspose lists c.args.count (map (λ row. row.items) c.loop-list.rows.items) = all_added lists (map (λ row. row.items) c.loop-list.rows.items) c.args.count all in
    IfOk-weaker c.from_lists.result _ (λ rows. IsTranspose lists c.args.count rows) (λ rows is. subst (λ r. IsTranspose lists c.args.count r) (sym (is ∙ ap (map (λ list. list.items)) c.as_slice-2.ensures.value)) made) c.from_lists.ensures
