use Rattle.std.proofs.Common.{◌≡◌, drop}
use Rattle.flat_design.specs.Scope.{binding_of}
use Rattle.elab_declarations.specs.Constants.{bindings_view}
use Rattle.elab_instances.specs.Behind.{or_bound}
use Rattle.elab_instances.specs.Entering.{own_bindings}
use Rattle.elab_instances.proofs.entries.bind_constants.Given as goal

-- the parameters so far, and after them the others, are all
abbrev pub invariant-loop-constant : goal.invariant-loop-constant
invariant-loop-constant l =
    or_bound (binding_of l.scope) (own_bindings l.fn.declared (bindings_view (drop l.constant-index l.constants))) ≡ or_bound (binding_of l.fn.scope) (own_bindings l.fn.declared (bindings_view l.fn.constants))
