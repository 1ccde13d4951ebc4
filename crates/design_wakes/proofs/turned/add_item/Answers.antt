use Rattle.std.proofs.Common.{◌<◌, length, arith}
use Rattle.design_wakes.proofs.Adding.{item_added}
use Rattle.design_wakes.proofs.turned.add_item.Goals as goal

pub returns-in_ok-push : goal.returns-in_ok-push
returns-in_ok-push c =
    let within : c.args.item < length c.args.rows.now.items = omega (arith, c.if-item-len.true, c.len.ensures, c.args.rows.now.ok.0) in
    item_added (λ row. row.items) c.args.rows.now.items c.args.item c.index_mut.result.now within c.index_mut.ensures.value c.args.number c.push.new.self c.in_ok-push.ensures.items
