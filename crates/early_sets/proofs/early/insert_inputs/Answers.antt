use Rattle.std.proofs.Common.{◌≡◌, ◌∙◌, length, refl, subst, arith}
use Rattle.early_sets.specs.Adds.{Adds}
use Rattle.early_sets.specs.Early.{IsEarlyInput}
use Rattle.early_sets.proofs.EarlyAdding.{inputs_more, inputs_none}
use Rattle.early_sets.proofs.early.insert_inputs.Goals as goal

pub loop-place-init : goal.loop-place-init
loop-place-init g c = (refl, inputs_none c.args.tables.now c.args.habit c.args.noted.now.items c.args.trigger c.args.early.now.items, omega arith)

pub insert_where-requires : goal.insert_where-requires
insert_where-requires g c = omega (arith, c.get-input.ensures.below, c.requires.noted, c.requires.size, c.loop-place.invariant.0)

pub loop-place-preserved : goal.loop-place-preserved
loop-place-preserved g c =
    let one = rw (c.is_free-free.ensures, c.get-input.ensures.value) at c.insert_where.ensures.adds in (
      c.insert_where.ensures.size ∙ c.loop-place.invariant.0,
      inputs_more c.args.tables.now c.args.habit c.args.noted.now.items c.loop-place.place c.args.trigger c.args.early.now.items c.loop-place.early.items c.insert_where.new.set.items c.loop-place.invariant.1 one,
      omega (arith, c.count.ensures, c.loop-place.invariant.2),
    )

pub returns-clause-adds : goal.returns-clause-adds
returns-clause-adds g c =
    let end : c.loop-place.place ≡ length c.args.noted.now.items = omega (arith, c.len-place-end.ensures.value) in
    subst (λ n. Adds (IsEarlyInput c.args.tables.now c.args.habit c.args.noted.now.items n c.args.trigger) c.args.early.now.items c.loop-place.early.items) end c.loop-place.invariant.1

pub returns-clause-turns : goal.returns-clause-turns
returns-clause-turns g c = omega (arith, c.loop-place.invariant.2, c.len-place-end.ensures.value)
