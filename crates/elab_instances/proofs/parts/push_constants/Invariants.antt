use Rattle.std.proofs.Common.{◌≡◌, ◌++◌, drop}
use Rattle.std.specs.Prelude.{flat_map}
use Rattle.flat_design.specs.Instances.{constant_of}
use Rattle.elab_declarations.specs.Constants.{bindings_view}
use Rattle.elab_instances.proofs.parts.push_constants.Given as goal

-- the list with the parameters that are left is the whole
abbrev pub invariant-loop-parameter : goal.invariant-loop-parameter
invariant-loop-parameter l =
    l.constants ++ flat_map (constant_of l.fn.number) (bindings_view (drop l.parameter-index l.parameter-items)) ≡ l.fn.constants ++ flat_map (constant_of l.fn.number) (bindings_view l.fn.opened.constants.found.items)
