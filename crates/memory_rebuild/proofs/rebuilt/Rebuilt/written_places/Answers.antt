use Rattle.std.proofs.Common.{List, ℕ, sym, subst}
use Rattle.std.specs.Prelude.{Contains, vec_capacity}
use Rattle.memory_rebuild.proofs.Kept.{not_listed}
use Rattle.memory_rebuild.proofs.rebuilt.Rebuilt.written_places.Goals as goal

pub returns-clause-others : goal.returns-clause-others
returns-clause-others c =
    λ place l none.
    not_listed c.self.inside.shape c.self.inside.epoch (vec_capacity c.self.inside.written) c.self.inside.words.items c.self.inside.written.items c.args.self.now c.self.invariant c.self.view_is place l (λ h. none (subst (λ (xs : List ℕ). Contains xs place) (sym c.as_slice.ensures.value) h))
