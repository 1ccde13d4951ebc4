use Rattle.std.proofs.Common.{◌≡◌, map, take, subst}
use Rattle.std.specs.List.{Contains}
use Rattle.std.proofs.lemmas.List.{take_all}
use Rattle.design_wakes.specs.Transpose.{AddsPairs}
use Rattle.design_wakes.proofs.Adding.{items_more, items_none}
use Rattle.design_wakes.proofs.turned.add_list.Goals as goal

pub loop-item-init : goal.loop-item-init
loop-item-init c = items_none c.args.items.now c.args.number (map (λ row. row.items) c.args.rows.now.items)

pub loop-item-preserved : goal.loop-item-preserved
loop-item-preserved c =
    items_more c.args.items.now c.args.number (map (λ row. row.items) c.args.rows.now.items) (map (λ row. row.items) c.loop-item.rows.items) (map (λ row. row.items) c.add_item.new.rows.items) c.loop-item.item-index c.loop-item-test.true c.loop-item.invariant c.in_ok-add_item.ensures

pub returns : goal.returns
returns c =
    let items = c.args.items.now in
    let all : take c.loop-item.item-index items ≡ items = take_all c.loop-item.item-index items c.loop-item-test.false in
    subst (λ zs. AddsPairs (λ x p. Contains zs x × (c.args.number ≡ p)) (map (λ row. row.items) c.args.rows.now.items) (map (λ row. row.items) c.loop-item.rows.items)) all c.loop-item.invariant
