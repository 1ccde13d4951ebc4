use Rattle.std.proofs.Common.{◌≡◌, drop}
use Rattle.flat_design.specs.Scope.{binding_of}
use Rattle.elab_declarations.specs.Constants.{with_others}
use Rattle.elab_declarations.proofs.others.add_names.Given as goal

-- with the names that are left the scope is the last one
abbrev pub invariant-loop-name : goal.invariant-loop-name
invariant-loop-name l = with_others (drop l.name-index l.names) (binding_of l.scope) ≡ with_others (l.fn.names) (binding_of l.fn.scope)
