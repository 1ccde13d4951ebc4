use Rattle.std.proofs.Common.{◌≡◌, ◌∙◌, take, refl, subst, arith}
use Rattle.std.specs.List.{Contains}
use Rattle.std.proofs.lemmas.List.{take_all}
use Rattle.early_sets.specs.Adds.{Adds}
use Rattle.early_sets.proofs.Adding.{members_more, members_none, one_added}
use Rattle.early_sets.proofs.closure.insert_members.Goals as goal

pub loop-place-init : goal.loop-place-init
loop-place-init g c = (refl, members_none c.args.from.now.items c.args.into.now.items, omega arith)

pub loop-place-preserved : goal.loop-place-preserved
loop-place-preserved g c =
    let one = rw c.get.ensures.value at (one_added c.loop-place.into.items c.insert.new.self.items c.get.result c.insert.result c.insert.ensures.there c.insert.ensures.items) in (
      c.insert.ensures.size ∙ c.loop-place.invariant.0,
      members_more c.args.from.now.items c.args.into.now.items c.loop-place.into.items c.insert.new.self.items c.loop-place.place (omega (arith, c.len-place-end.ensures.value)) c.loop-place.invariant.1 one,
      omega (arith, c.count.ensures, c.loop-place.invariant.2),
    )

pub returns-clause-adds : goal.returns-clause-adds
returns-clause-adds g c =
    let all : take c.loop-place.place c.args.from.now.items ≡ c.args.from.now.items = take_all c.loop-place.place c.args.from.now.items (omega (arith, c.len-place-end.ensures.value)) in
    subst (λ ms. Adds (Contains ms) c.args.into.now.items c.loop-place.into.items) all c.loop-place.invariant.1

pub returns-clause-turns : goal.returns-clause-turns
returns-clause-turns g c = omega (arith, c.loop-place.invariant.2, c.len-place-end.ensures.value)
