use Rattle.std.proofs.Common.{◌≡◌, ◌∙◌, sym, subst, arith}
use Rattle.std.specs.List.{Contains}
use Rattle.std.proofs.lemmas.List.{length-map}
use Rattle.index_sets.specs.Rows.{row_at}
use Rattle.rank_order.proofs.Orders.{list_row}
use Rattle.process_order.specs.Names.{lists_of}
use Rattle.process_order.proofs.Past.{lists_past}
use Rattle.process_order.proofs.RowLemmas.{row_inside}
use Rattle.process_order.proofs.names.past_lists.Goals as goal

pub loop-list-init : goal.loop-list-init
loop-list-init c = record { least_is = omega arith; below = λ p x l. absurd (omega arith) }

pub loop-list-preserved : goal.loop-list-preserved
loop-list-preserved c =
    let row : row_at (lists_of c.args.lists.now) c.loop-list.list-index ≡ c.as_slice.result.now = list_row c.args.lists.now c.loop-list.list-index c.list-item.result c.loop-list-test.true c.list-item.is ∙ sym c.as_slice.ensures.value in
    lists_past (lists_of c.args.lists.now) c.args.least c.loop-list.list-index c.loop-list.past c.past_list-past.result c.loop-list.invariant c.past_list-past.ensures.least (λ x k. c.past_list-past.ensures.past x (subst (λ r. Contains r x) row k))

pub returns : goal.returns
returns c =
    record {
      least = c.loop-list.invariant.least_is;
      past = λ p x k. c.loop-list.invariant.below p x (omega (arith, row_inside (lists_of c.args.lists.now) p x k, length-map c.args.lists.now (λ v. v.items), c.loop-list-test.false)) k;
    }
