use Rattle.std.proofs.Common.{ap, sym, ◌∙◌}
use Rattle.verilog_tree.specs.View.{expr_view}
use Rattle.flat_design.specs.Scope.{binding_of}
use Rattle.elab_declarations.specs.DeclarationView.{declaration_view}
use Rattle.elab_scope.specs.Tally.{after_faults}
use Rattle.elab_scope.specs.View.{name_view}
use Rattle.elab_ports.proofs.JoiningLemmas.{told_anyway}
use Rattle.elab_ports.proofs.joining.join.Goals as goal

pub returns-then-not-names_faulty-clause-met : goal.returns-then-not-names_faulty-clause-met
returns-then-not-names_faulty-clause-met c =
    let j = c.args.port.now in
    c.check_value-sound.ensures.met ∙ ap (after_faults c.args.tally.now) (sym (told_anyway (binding_of c.args.scope.now) (name_view j.label) (declaration_view j.port) (expr_view j.value.now)))
