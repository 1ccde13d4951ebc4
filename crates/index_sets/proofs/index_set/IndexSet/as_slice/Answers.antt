use Rattle.std.proofs.Common.{◌∙◌, ap, arith}
use Rattle.std.specs.Prelude.{take}
use Rattle.index_sets.proofs.index_set.IndexSet.as_slice.Goals as goal

pub first-requires : goal.first-requires
first-requires c = omega (arith, c.as_slice.ensures.len, c.self.inside.order.ok.0, c.self.invariant.within)

pub returns : goal.returns
returns c = c.first.ensures ∙ ap (take c.self.inside.used) c.as_slice.ensures.value ∙ ap (λ m. m.items) c.self.view_is
