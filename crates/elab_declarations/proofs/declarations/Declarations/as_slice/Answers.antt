use Rattle.std.proofs.Common.{ap, ◌∙◌}
use Rattle.elab_declarations.specs.DeclarationView.{declarations_view}
use Rattle.elab_declarations.proofs.TableLemmas.{declarations_of_values}
use Rattle.elab_declarations.proofs.declarations.Declarations.as_slice.Goals as goal

pub returns : goal.returns
returns c = ap declarations_view (c.as_slice.ensures ∙ c.values.ensures.rest) ∙ declarations_of_values c.self.inside.found.entries ∙ c.self.view_is
