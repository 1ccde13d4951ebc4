use Rattle.std.proofs.Common.{◌≡◌, ◌∙◌, [], get_or, take, sym, subst, arith}
use Rattle.std.proofs.lemmas.List.Elements.{Contains-get_or}
use Rattle.process_order.proofs.Past.{HasSame, same_all, same_more, same_none}
use Rattle.process_order.proofs.owners.mark.Goals as goal

pub loop-number-init : goal.loop-number-init
loop-number-init c = (c.clear.ensures.size, subst (λ xs. HasSame xs (take 0 c.args.list.now)) (sym c.clear.ensures.items) (same_none c.args.list.now))

pub insert-requires : goal.insert-requires
insert-requires c =
    omega (arith, c.requires (get_or c.args.list.now c.loop-number.number-index 0) (Contains-get_or c.args.list.now c.loop-number.number-index 0 c.loop-number-test.true), c.loop-number.invariant.0)

pub loop-number-preserved : goal.loop-number-preserved
loop-number-preserved c = (
  c.insert.ensures.size ∙ c.loop-number.invariant.0,
  same_more c.loop-number.marks.items c.insert.new.self.items c.args.list.now c.loop-number.number-index c.insert.result c.loop-number-test.true c.insert.ensures.items c.insert.ensures.there c.loop-number.invariant.1,
)

pub returns-clause-members : goal.returns-clause-members
returns-clause-members c = same_all c.loop-number.marks.items c.args.list.now c.loop-number.number-index c.loop-number-test.false c.loop-number.invariant.1
