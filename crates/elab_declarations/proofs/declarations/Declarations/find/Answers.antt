use Rattle.std.proofs.Common.{ap, ◌∙◌}
use Rattle.flat_design.specs.Connections.{declaration_of}
use Rattle.elab_declarations.proofs.TableLemmas.{declaration_found}
use Rattle.elab_declarations.proofs.declarations.Declarations.find.Goals as goal

pub returns : goal.returns
returns c = declaration_found c.args.name.now c.self.inside.found.entries c.get.result c.self.invariant c.get.ensures.value ∙ ap (λ ds. declaration_of ds c.args.name.now) c.self.view_is
