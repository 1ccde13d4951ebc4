use Rattle.std.proofs.Common.{◌≡◌, ◌+◌, ◌-◌, ◌*◌, ◌/◌, ◌%◌, ◌^◌, min, inl, inr, ap₂, arith, sym, ◌∙◌}
use Rattle.memory_rebuild.proofs.Numbers.{unit_is}
use Rattle.memory_rebuild.proofs.Search.{search_ends, search_goes_on}
use Rattle.memory_rebuild.proofs.shape.Shape.place_after.Goals as goal
use Rattle.memory_rebuild.proofs.shape.Shape.place_after.Goals.{then-wrong-eq0-via-then-wrong-eq0, then-wrong-eq0-via-else-wrong-eq0+then-not-is_known}

pub returns-then-wrong-eq0-clause-none : goal.returns-then-wrong-eq0-clause-none
returns-then-wrong-eq0-clause-none c = λ q low high.
    search_ends c.args.self.now c.args.index.now c.args.place c.least.result c.ones.result c.sure.result c.value-value.result c.least.ensures.value c.value-value.ensures.value c.ones.ensures.value c.sure.ensures c.requires.place c.requires.not_named
    (elim c.then-wrong-eq0.branch [ then-wrong-eq0-via-then-wrong-eq0 w ↦ inl w.if-wrong-eq0.true | then-wrong-eq0-via-else-wrong-eq0+then-not-is_known w ↦ inr (sym w.is_known.ensures ∙ w.if-not-is_known.true) ]) q low

pub returns-clause-none : goal.returns-clause-none
returns-clause-none c = λ q low high.
    let unit : 1 * 2 ^ c.ilog2.result % 340282366920938463463374607431768211456 ≡ 2 ^ c.ilog2.result = unit_is c.ilog2.result c.ilog2.ensures.bound in
    let same : c.least-2.result ≡ c.least.result = c.least-2.ensures.value ∙ sym c.least.ensures.value in
    let is : c.min.result ≡ min (((c.least.result + c.args.place) / 2 ^ c.ilog2.result + 1) * 2 ^ c.ilog2.result - c.least.result) c.count-2.result =
    c.min.ensures ∙ ap₂ (λ u a. min (((c.least.result + c.args.place) / u + 1) * u - a) c.count-2.result) unit same in
    search_goes_on c.args.self.now c.args.index.now c.args.place c.least.result c.ones.result c.sure.result c.value-value.result c.least.ensures.value c.value-value.ensures.value c.ones.ensures.value c.sure.ensures c.requires.place c.ilog2.result c.min.result q c.ilog2.ensures.power_le c.ilog2.ensures.next_power_gt (omega (arith, is)) low high
