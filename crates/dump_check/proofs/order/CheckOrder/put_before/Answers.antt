use Rattle.std.proofs.Common.{◌≡◌, ◌<◌, ◌-◌, ◌++◌, ◌∙◌, length, drop, get_or, reverse, sym, subst, arith}
use Rattle.std.proofs.lemmas.List.Elements.{Contains-get_or}
use Rattle.dump_check.specs.Checks.{last_of_each}
use Rattle.dump_check.proofs.Lasts.{back, put_last}
use Rattle.dump_check.proofs.order.CheckOrder.put_before.Goals as goal

pub insert-requires : goal.insert-requires
insert-requires c =
    let within : c.loop-place.place - 1 < length c.args.signals.now = omega (arith, c.loop-place-test.true, c.loop-place.auto.place) in
    omega (arith, c.loop-place.invariant.0, c.requires (get_or c.args.signals.now (c.loop-place.place - 1) 0) (Contains-get_or c.args.signals.now (c.loop-place.place - 1) 0 within))

pub loop-place-preserved : goal.loop-place-preserved
loop-place-preserved c =
    let signals = c.args.signals.now in
    let place = c.loop-place.place in
    let items = c.loop-place.self-inside.signals.items in (
      c.insert.ensures.size ∙ c.loop-place.invariant.0,
      λ after e. subst (λ ds. reverse c.insert.new.self.items ≡ last_of_each (ds ++ after)) (sym (back signals place (omega (arith, c.loop-place-test.true)) (omega (arith, c.loop-place.auto.place)))) (put_last items c.insert.new.self.items (get_or signals (place - 1) 0) (drop place signals ++ after) c.insert.result c.insert.ensures.there c.insert.ensures.items (c.loop-place.invariant.1 after e)),
    )
