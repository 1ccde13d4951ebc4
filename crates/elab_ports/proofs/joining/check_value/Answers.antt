use Rattle.std.proofs.Common.{◌≡◌, false, if◌then◌else◌, ap, sym, ◌∙◌}
use Rattle.verilog_tree.specs.View.{expr_view}
use Rattle.flat_design.specs.Connections.{output_faults}
use Rattle.flat_design.specs.Expressions.{faults}
use Rattle.flat_design.specs.Fault.{none}
use Rattle.flat_design.specs.Instances.{is_input}
use Rattle.flat_design.specs.Scope.{binding_of}
use Rattle.flat_design.specs.Targets.{target_faults}
use Rattle.flat_design.specs.declared.entry.Mode.TheVariants.{Continuous}
use Rattle.elab_declarations.specs.DeclarationView.{declaration_view}
use Rattle.elab_scope.specs.Tally.{after_faults}
use Rattle.elab_scope.specs.View.{name_view}
use Rattle.elab_ports.proofs.JoiningLemmas.{then_target}
use Rattle.elab_ports.proofs.joining.check_value.Goals as goal

pub returns-then-check_output-clause-met : goal.returns-then-check_output-clause-met
returns-then-check_output-clause-met c =
    let g = binding_of c.args.scope.now in
    let d = declaration_view c.args.port.now.port in
    let e = expr_view c.args.port.now.value.now in
    let outs = output_faults g (name_view c.args.port.now.label) e in
    let targets = target_faults g Continuous e in
    let t = c.args.tally.now in
    let output : is_input d ≡ false = sym c.is_input.ensures ∙ c.if-is_input.false in
    then_target outs targets t c.check_output.new.tally c.check_target.new.tally (sym c.check_output.ensures.sound ∙ c.if-check_output.true) c.check_output.ensures.met c.check_target.ensures.met
    ∙ ap (λ b. after_faults t (if b then faults g e else (if none outs then targets else outs))) (sym output)
