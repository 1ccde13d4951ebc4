use Rattle.std.proofs.Common.{Bool, sym, ap, ◌∙◌}
use Rattle.flat_design.specs.Declarations.{Declaration, is_parameter, names_parameter}
use Rattle.elab_declarations.proofs.TableLemmas.{any_named_at, holds_of}
use Rattle.elab_declarations.proofs.declarations.Declarations.is_parameter.Goals as goal

-- declared as a parameter
abbrev passes : Declaration → Bool
passes d = is_parameter d.sort

pub returns-in-Some : goal.returns-in-Some
returns-in-Some c =
    c.is_parameter.ensures ∙ ap (holds_of passes) c.in-Some.ensures.value ∙ sym (any_named_at passes c.args.name.now c.self.inside.found.entries c.self.invariant _ c.as_slice.ensures) ∙ ap (λ ds. names_parameter ds c.args.name.now) c.self.view_is

pub returns-in-None : goal.returns-in-None
returns-in-None c =
    ap (holds_of passes) c.in-None.ensures.value ∙ sym (any_named_at passes c.args.name.now c.self.inside.found.entries c.self.invariant _ c.as_slice.ensures) ∙ ap (λ ds. names_parameter ds c.args.name.now) c.self.view_is
