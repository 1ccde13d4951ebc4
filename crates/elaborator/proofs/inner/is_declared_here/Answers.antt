use Rattle.std.proofs.Common.{sym, ap, ◌∙◌}
use Rattle.std.specs.Option.{option_map}
use Rattle.flat_design.specs.Connections.{declaration_of}
use Rattle.elab_declarations.specs.DeclarationView.{declaration_view}
use Rattle.elaborator.proofs.InnerLemmas.{declared_at, stands_at}
use Rattle.elaborator.proofs.inner.is_declared_here.Goals as goal

pub returns-in-Some : goal.returns-in-Some
returns-in-Some c =
    c.is_same_place.ensures ∙ ap (λ o. stands_at o c.args.name.now.place) (ap (option_map (λ found. declaration_view found.now)) (sym c.in-Some.is) ∙ c.find.ensures ∙ ap (declaration_of c.args.declared.now) c.as_slice.ensures) ∙ sym (declared_at c.args.declared.now c.args.name.now.name c.args.name.now.place c.requires)

pub returns-in-None : goal.returns-in-None
returns-in-None c =
    ap (λ o. stands_at o c.args.name.now.place) (ap (option_map (λ found. declaration_view found.now)) (sym c.in-None.is) ∙ c.find.ensures ∙ ap (declaration_of c.args.declared.now) c.as_slice.ensures) ∙ sym (declared_at c.args.declared.now c.args.name.now.name c.args.name.now.place c.requires)
