use Rattle.std.proofs.Common.{Bool, not, sym, ap, ◌∙◌}
use Rattle.flat_design.specs.Declarations.{Declaration, completes, is_declared_again}
use Rattle.elab_declarations.specs.DeclarationView.{declaration_view}
use Rattle.elab_declarations.proofs.TableLemmas.{any_named_at, holds_of}
use Rattle.elab_declarations.proofs.declarations.Declarations.declares_again.Goals as goal

-- at odds with a later declaration
abbrev clashes : Declaration → Declaration → Bool
clashes d c = not (completes c d)

pub returns-in-Some : goal.returns-in-Some
returns-in-Some c =
    let test = clashes (declaration_view c.args.declaration.now) in
    ap not c.completes.ensures ∙ ap (holds_of test) c.in-Some.ensures.value ∙ sym (any_named_at test c.args.declaration.now.name.now.name c.self.inside.found.entries c.self.invariant _ c.as_slice.ensures) ∙ ap (λ ds. is_declared_again ds (declaration_view c.args.declaration.now)) c.self.view_is

pub returns-in-None : goal.returns-in-None
returns-in-None c =
    let test = clashes (declaration_view c.args.declaration.now) in
    ap (holds_of test) c.in-None.ensures.value ∙ sym (any_named_at test c.args.declaration.now.name.now.name c.self.inside.found.entries c.self.invariant _ c.as_slice.ensures) ∙ ap (λ ds. is_declared_again ds (declaration_view c.args.declaration.now)) c.self.view_is
