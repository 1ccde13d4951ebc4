use Rattle.std.proofs.Common.{◌∙◌, sym, ap, length, arith, length-take-le}
use Rattle.index_sets.proofs.index_set.IndexSet.len.Goals as goal

pub returns-clause-value : goal.returns-clause-value
returns-clause-value c = sym (length-take-le c.self.inside.used c.self.inside.order.items c.self.invariant.within) ∙ ap (λ m. length m.items) c.self.view_is

pub returns-clause-within : goal.returns-clause-within
returns-clause-within c = omega (arith, c.self.invariant.within, ap (λ m. m.size) c.self.view_is)
