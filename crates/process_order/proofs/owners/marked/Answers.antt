use Rattle.std.proofs.Common.{◌≡◌, ◌∙◌, [], get_or, take, sym, subst, arith}
use Rattle.std.proofs.lemmas.List.Elements.{Contains-get_or}
use Rattle.process_order.proofs.Past.{HasBoth, both_all, both_none, both_step}
use Rattle.process_order.proofs.owners.marked.Goals as goal

pub loop-number-init : goal.loop-number-init
loop-number-init c = subst (λ xs. HasBoth xs (take 0 c.args.list.now) c.args.marks.now.items) (sym c.new-found.ensures.items) (both_none c.args.list.now c.args.marks.now.items)

pub contains-is_marked-requires : goal.contains-is_marked-requires
contains-is_marked-requires c = c.requires (get_or c.args.list.now c.loop-number.number-index 0) (Contains-get_or c.args.list.now c.loop-number.number-index 0 c.loop-number-test.true)

pub loop-number-preserved : goal.loop-number-preserved
loop-number-preserved c =
    both_step c.loop-number.found.items c.push_if.new.numbers.items c.args.list.now c.args.marks.now.items c.loop-number.number-index c.contains-is_marked.result c.loop-number-test.true c.loop-number.invariant c.in_ok-push_if.ensures c.contains-is_marked.ensures

pub returns : goal.returns
returns c = both_all c.loop-number.found.items c.args.list.now c.args.marks.now.items c.loop-number.number-index c.loop-number-test.false c.loop-number.invariant
