use Rattle.std.proofs.Common.{◌≡◌, ◌∙◌, ◌++◌, ◌∷◌, [], ◌+◌, length, sym, ap, subst, arith}
use Rattle.std.specs.List.{Contains}
use Rattle.std.proofs.lemmas.List.{length-map, map_push}
use Rattle.index_sets.specs.Rows.{row_at}
use Rattle.rank_order.proofs.Orders.{list_row}
use Rattle.process_order.specs.Names.{lists_of}
use Rattle.process_order.proofs.Past.{AreShared, HasBoth, HasSame, no_rows_shared, rows_shared}
use Rattle.process_order.proofs.RowLemmas.{row_inside}
use Rattle.process_order.proofs.owners.shared_lists.Goals as goal

pub loop-process-init : goal.loop-process-init
loop-process-init c =
    (c.in_ok-marks.ensures.size, subst (λ ls. AreShared (lists_of ls) (lists_of c.args.watched.now) (lists_of c.args.driven.now) 0) (sym c.new-shared.ensures.items) (no_rows_shared (lists_of c.args.watched.now) (lists_of c.args.driven.now)))

pub mark-requires : goal.mark-requires
mark-requires c =
    let row : row_at (lists_of c.args.driven.now) c.loop-process.process ≡ c.as_slice.result.now = list_row c.args.driven.now c.loop-process.process c.index-driven-process.result (omega (arith, c.loop-process-test.true, c.loop-process.auto.process-end, c.requires.size)) c.index-driven-process.is ∙ sym c.as_slice.ensures.value in
    λ x k. omega (arith, c.requires.driven c.loop-process.process x (subst (λ r. Contains r x) (sym row) k), c.loop-process.invariant.0)

pub marked-requires : goal.marked-requires
marked-requires c =
    let row : row_at (lists_of c.args.watched.now) c.loop-process.process ≡ c.as_slice-in-loop-process.result.now = list_row c.args.watched.now c.loop-process.process c.index-watched-process.result c.loop-process-test.true c.index-watched-process.is ∙ sym c.as_slice-in-loop-process.ensures.value in
    λ x k. omega (arith, c.requires.watched c.loop-process.process x (subst (λ r. Contains r x) (sym row) k), c.loop-process.invariant.0, c.mark.ensures.size)

pub loop-process-preserved : goal.loop-process-preserved
loop-process-preserved c =
    let watched = lists_of c.args.watched.now in
    let driven = lists_of c.args.driven.now in
    let i = c.loop-process.process in
    let shared = lists_of c.loop-process.shared.items in
    let row : row_at (lists_of c.args.driven.now) c.loop-process.process ≡ c.as_slice.result.now = list_row c.args.driven.now c.loop-process.process c.index-driven-process.result (omega (arith, c.loop-process-test.true, c.loop-process.auto.process-end, c.requires.size)) c.index-driven-process.is ∙ sym c.as_slice.ensures.value in
    let row2 : row_at (lists_of c.args.watched.now) c.loop-process.process ≡ c.as_slice-in-loop-process.result.now = list_row c.args.watched.now c.loop-process.process c.index-watched-process.result c.loop-process-test.true c.index-watched-process.is ∙ sym c.as_slice-in-loop-process.ensures.value in
    let made : lists_of c.push.new.self.items ≡ lists_of c.loop-process.shared.items ++ c.in_ok-list.list.items ∷ [] = ap lists_of c.in_ok-push.ensures.items ∙ map_push (λ v. v.items) c.loop-process.shared.items c.in_ok-list.list in (
      c.mark.ensures.size ∙ c.loop-process.invariant.0,
      subst (λ ls. AreShared ls watched driven (i + 1)) (sym made) (rows_shared shared watched driven i c.in_ok-list.list.items c.mark.new.marks.items c.loop-process.invariant.1 (subst (λ r. HasBoth c.in_ok-list.list.items r c.mark.new.marks.items) (sym row2) c.in_ok-list.ensures) (subst (HasSame c.mark.new.marks.items) (sym row) c.mark.ensures.members)),
    )

pub returns-clause-size : goal.returns-clause-size
returns-clause-size c =
    omega (arith, c.loop-process.invariant.1.count, length-map c.loop-process.shared.items (λ v. v.items), c.loop-process-test.false, c.loop-process.auto.process-end)

pub returns-clause-both : goal.returns-clause-both
returns-clause-both c =
    let inv = c.loop-process.invariant.1 in
    λ p x. (
      λ k. (inv.both p x (omega (arith, row_inside (lists_of c.loop-process.shared.items) p x k, inv.count))).0 k,
      λ k. (inv.both p x (omega (arith, row_inside (lists_of c.args.watched.now) p x k.0, length-map c.args.watched.now (λ v. v.items), c.loop-process-test.false))).1 k,
    )
