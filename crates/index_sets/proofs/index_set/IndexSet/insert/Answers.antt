use Rattle.std.proofs.Common.{refl, arith}
use Rattle.std.proofs.lemmas.Bool.{true≢false}
use Rattle.index_sets.proofs.Places.{below_member, inserted, inserts, member_below, new_items}
use Rattle.index_sets.proofs.index_set.IndexSet.insert.Goals as goal

pub returns-then-from-to-clause-there : goal.returns-then-from-to-clause-there
returns-then-from-to-clause-there c =
    let s = c.self.inside in
    (λ _. member_below s.order.items s.places.items s.used c.args.self.now c.self.view_is c.self.invariant c.args.number c.index-from.result.now c.requires c.index-from.ensures c.if-from-to.true, λ _. refl)

pub invariant_of-self : goal.invariant_of-self
invariant_of-self c =
    let s = c.self.inside in
    inserted s.order.items s.places.items s.used c.args.number c.index-from.result.now c.index-other.result.now
    (inserts s.order.items s.places.items s.used c.args.self.now c.self.view_is c.self.invariant c.args.number c.index-from.result.now c.index-other.result.now c.requires c.index-from.ensures c.if-from-to.false c.index-other.ensures)

pub returns-clause-there : goal.returns-clause-there
returns-clause-there c =
    let s = c.self.inside in (
      λ e. absurd (true≢false e),
      λ m. let below = below_member s.order.items s.places.items s.used c.args.self.now c.self.view_is c.self.invariant c.args.number c.index-from.result.now c.requires c.index-from.ensures m in absurd (omega (arith, below, c.if-from-to.false)),
    )

pub returns-clause-items : goal.returns-clause-items
returns-clause-items c =
    let s = c.self.inside in
    new_items s.order.items s.places.items s.used c.args.self.now c.self.view_is c.self.invariant c.args.number c.index-from.result.now c.index-other.result.now
    (inserts s.order.items s.places.items s.used c.args.self.now c.self.view_is c.self.invariant c.args.number c.index-from.result.now c.index-other.result.now c.requires c.index-from.ensures c.if-from-to.false c.index-other.ensures)
