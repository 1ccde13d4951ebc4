use Rattle.std.proofs.Common.{[], ◌∷◌, ap, arith, get_or, length, take}
use Rattle.std.proofs.lemmas.List.{get_or_default, map-append, take_more}
use Rattle.coverage_db.specs.declared.db.DbInstance.{DbInstance}
use Rattle.design_model.specs.Design.{no_instance}
use Rattle.design_model.specs.declared.design.Instance.{Instance}
use Rattle.point_table.specs.Rows.{row_at}
use Rattle.point_table.proofs.Lists.{order_below}
use Rattle.point_table.proofs.rows.rows_of.Goals as goal

pub bounds-instances-number : goal.bounds-instances-number
bounds-instances-number c = order_below (length c.args.instances.now) c.args.order.now c.requires.permutation c.loop-number.number-index (omega arith)

pub loop-number-preserved : goal.loop-number-preserved
loop-number-preserved c =
    let is = c.args.instances.now in
    let order = c.args.order.now in
    let k = c.loop-number.number-index in
    let n = get_or order k 0 in
    let there = order_below (length is) order c.requires.permutation k (omega arith) in
    let found = c.index-instances-number.result in
    let row : Instance → DbInstance = λ i. record { path = i.path; «module» = i.«module» } in
    let one = ap row c.index-instances-number.is in
    let same = ap row (get_or_default is n found no_instance there) in
    let item = c.in_ok-row_of.ensures in
    let added = c.in_ok-push.ensures.ok in
    let more = take_more order k 0 (omega arith) in
    let joined = map-append (row_at is) (take k order) (n ∷ []) in
    let before = c.loop-number.invariant in
    cc
