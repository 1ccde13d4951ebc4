use Rattle.std.proofs.Common.{sym, ap, ◌∙◌}
use Rattle.flat_design.specs.Declarations.{has_direction, is_port}
use Rattle.elab_declarations.proofs.TableLemmas.{any_named_at, holds_of}
use Rattle.elab_declarations.proofs.declarations.Declarations.is_port.Goals as goal

pub returns-in-Some : goal.returns-in-Some
returns-in-Some c =
    c.has_direction.ensures ∙ ap (holds_of has_direction) c.in-Some.ensures.value ∙ sym (any_named_at has_direction c.args.name.now c.self.inside.found.entries c.self.invariant _ c.as_slice.ensures) ∙ ap (λ ds. is_port ds c.args.name.now) c.self.view_is

pub returns-in-None : goal.returns-in-None
returns-in-None c =
    ap (holds_of has_direction) c.in-None.ensures.value ∙ sym (any_named_at has_direction c.args.name.now c.self.inside.found.entries c.self.invariant _ c.as_slice.ensures) ∙ ap (λ ds. is_port ds c.args.name.now) c.self.view_is
