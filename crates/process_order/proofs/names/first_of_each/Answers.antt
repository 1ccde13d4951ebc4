use Rattle.std.proofs.Common.{◌≡◌, ◌∙◌, ◌++◌, ◌∷◌, [], cond, get_or, take, sym, ap, subst, arith}
use Rattle.std.specs.List.{Contains}
use Rattle.std.proofs.lemmas.List.Elements.{Contains-get_or}
use Rattle.process_order.proofs.Past.{HasSame, same_all, same_more, same_none}
use Rattle.process_order.proofs.names.first_of_each.Goals as goal

pub loop-number-init : goal.loop-number-init
loop-number-init c =
    (c.clear.ensures.size, c.new-kept.ensures.items ∙ sym c.clear.ensures.items, subst (λ xs. HasSame xs (take 0 c.args.list.now)) (sym c.clear.ensures.items) (same_none c.args.list.now))

pub insert-is_first-requires : goal.insert-is_first-requires
insert-is_first-requires c =
    omega (arith, c.requires (get_or c.args.list.now c.loop-number.number-index 0) (Contains-get_or c.args.list.now c.loop-number.number-index 0 c.loop-number-test.true), c.loop-number.invariant.0)

pub loop-number-preserved : goal.loop-number-preserved
loop-number-preserved c =
    let list = c.args.list.now in
    let i = c.loop-number.number-index in
    let seen = c.loop-number.seen.items in (
      c.insert-is_first.ensures.size ∙ c.loop-number.invariant.0,
      c.in_ok-push_if.ensures ∙ ap (λ xs. cond c.insert-is_first.result (xs ++ get_or list i 0 ∷ []) xs) c.loop-number.invariant.1 ∙ sym c.insert-is_first.ensures.items,
      same_more seen c.insert-is_first.new.self.items list i c.insert-is_first.result c.loop-number-test.true c.insert-is_first.ensures.items c.insert-is_first.ensures.there c.loop-number.invariant.2,
    )

pub returns-clause-same : goal.returns-clause-same
returns-clause-same c =
    subst (λ xs. HasSame xs c.args.list.now) (sym c.loop-number.invariant.1) (same_all c.loop-number.seen.items c.args.list.now c.loop-number.number-index c.loop-number-test.false c.loop-number.invariant.2)
