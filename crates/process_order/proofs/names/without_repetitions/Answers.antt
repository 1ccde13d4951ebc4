use Rattle.std.proofs.Common.{◌≡◌, ◌∙◌, ◌++◌, ◌∷◌, [], ◌+◌, sym, ap, subst, arith}
use Rattle.std.specs.List.{Contains}
use Rattle.std.proofs.lemmas.List.{length-map, map_push}
use Rattle.index_sets.specs.Rows.{row_at}
use Rattle.rank_order.proofs.Orders.{list_row}
use Rattle.process_order.specs.Names.{lists_of}
use Rattle.process_order.proofs.Past.{AreSame, HasSame, no_rows_same, rows_same}
use Rattle.process_order.proofs.RowLemmas.{row_inside}
use Rattle.process_order.proofs.names.without_repetitions.Goals as goal

pub loop-list-init : goal.loop-list-init
loop-list-init c = (c.in_ok-seen.ensures.size, subst (λ ls. AreSame (lists_of ls) (lists_of c.args.lists.now) 0) (sym c.new-once.ensures.items) (no_rows_same (lists_of c.args.lists.now)))

pub first_of_each-requires : goal.first_of_each-requires
first_of_each-requires c =
    let row : row_at (lists_of c.args.lists.now) c.loop-list.list-index ≡ c.as_slice.result.now = list_row c.args.lists.now c.loop-list.list-index c.list-item.result c.loop-list-test.true c.list-item.is ∙ sym c.as_slice.ensures.value in
    λ x k. omega (arith, c.requires c.loop-list.list-index x (subst (λ r. Contains r x) (sym row) k), c.loop-list.invariant.0)

pub loop-list-preserved : goal.loop-list-preserved
loop-list-preserved c =
    let lists = lists_of c.args.lists.now in
    let row : row_at (lists_of c.args.lists.now) c.loop-list.list-index ≡ c.as_slice.result.now = list_row c.args.lists.now c.loop-list.list-index c.list-item.result c.loop-list-test.true c.list-item.is ∙ sym c.as_slice.ensures.value in
    let made : lists_of c.push.new.self.items ≡ lists_of c.loop-list.once.items ++ c.in_ok-kept.kept.items ∷ [] = ap lists_of c.in_ok-push.ensures.items ∙ map_push (λ v. v.items) c.loop-list.once.items c.in_ok-kept.kept in (
      c.first_of_each.ensures.size ∙ c.loop-list.invariant.0,
      subst (λ ls. AreSame ls lists (c.loop-list.list-index + 1)) (sym made) (rows_same (lists_of c.loop-list.once.items) lists c.loop-list.list-index c.in_ok-kept.kept.items c.loop-list.invariant.1 (subst (HasSame c.in_ok-kept.kept.items) (sym row) c.in_ok-kept.ensures.same)),
    )

pub returns : goal.returns
returns c =
    let inv = c.loop-list.invariant.1 in
    record {
      count = omega (arith, inv.count, length-map c.loop-list.once.items (λ v. v.items), c.loop-list-test.false, c.loop-list.auto.list-index-end);
      same = λ p x. (
        λ k. (inv.same p x (omega (arith, row_inside (lists_of c.loop-list.once.items) p x k, inv.count))).0 k,
        λ k. (inv.same p x (omega (arith, row_inside (lists_of c.args.lists.now) p x k, length-map c.args.lists.now (λ v. v.items), c.loop-list-test.false))).1 k,
      );
    }
