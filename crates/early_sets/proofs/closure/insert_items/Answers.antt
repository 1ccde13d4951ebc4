use Rattle.std.proofs.Common.{◌≡◌, ◌∙◌, true, get_or, take, refl, subst, arith}
use Rattle.std.proofs.lemmas.List.{take_all}
use Rattle.std.proofs.lemmas.List.Elements.{Contains-get_or}
use Rattle.early_sets.specs.Adds.{Adds}
use Rattle.early_sets.specs.Reached.{IsRowItem}
use Rattle.early_sets.proofs.Adding.{row_more, row_none}
use Rattle.early_sets.proofs.closure.insert_items.Goals as goal

pub loop-item-init : goal.loop-item-init
loop-item-init g c = (refl, row_none c.args.except c.args.row.now c.args.set.now.items, omega arith, omega arith)

pub insert_item-requires : goal.insert_item-requires
insert_item-requires g c =
    let row = c.args.row.now in
    let i = c.loop-item.item-index in
    omega (arith, c.loop-item.invariant.0, c.requires (get_or row i 0) (Contains-get_or row i 0 c.loop-item-test.true))

pub loop-item-preserved : goal.loop-item-preserved
loop-item-preserved g c = (
  c.insert_item.ensures.size ∙ c.loop-item.invariant.0,
  row_more c.args.except c.args.row.now c.args.set.now.items c.loop-item.set.items c.insert_item.new.set.items c.loop-item.item-index c.loop-item-test.true c.loop-item.invariant.1 c.insert_item.ensures.adds,
  omega (arith, c.loop-item-test.true),
  omega (arith, c.count.ensures, c.loop-item.invariant.3),
)

pub returns-clause-adds : goal.returns-clause-adds
returns-clause-adds g c =
    let row = c.args.row.now in
    let all : take c.loop-item.item-index row ≡ row = take_all c.loop-item.item-index row c.loop-item-test.false in
    subst (λ zs. Adds (IsRowItem true zs c.args.except) c.args.set.now.items c.loop-item.set.items) all c.loop-item.invariant.1

pub returns-clause-turns : goal.returns-clause-turns
returns-clause-turns g c = omega (arith, c.loop-item.invariant.2, c.loop-item.invariant.3)
