use Rattle.std.proofs.Common.{◌≡◌, ap, ◌∙◌}
use Rattle.std.proofs.lemmas.Result.{IfOk-weaker}
use Rattle.verilog_tree.specs.View.{module_view}
use Rattle.flat_design.specs.Declarations.{declarations}
use Rattle.flat_design.specs.Instances.{declared}
use Rattle.flat_design.specs.Scope.{binding_of}
use Rattle.elab_declarations.specs.Constants.{overrides_view}
use Rattle.elaborator.proofs.inner.declared_names.Goals as goal

pub returns : goal.returns
returns c =
    let m = module_view c.args.inner.now in
    let scope = c.in_ok-constants.ensures.scope in
    IfOk-weaker c.check_declarations.result (λ d. d ≡ declarations (binding_of c.in_ok-constants.constants.scope) m) (λ d. d ≡ declared (overrides_view c.args.overrides.now) m) (λ d is. is ∙ ap (λ g. declarations g m) scope) c.check_declarations.ensures.names
