use Rattle.std.proofs.Common.{◌≡◌, List, drop}
use Rattle.std.specs.Prelude.{flat_map}
use Rattle.flat_design.specs.Bodies.{Met}
use Rattle.flat_design.specs.Declarations.{Declaration}
use Rattle.elab_declarations.specs.DeclarationView.{declarations_view}
use Rattle.elab_scope.specs.Tally.{after_all}
use Rattle.elab_instances.specs.InstanceView.{instantiation_view}
use Rattle.elab_instances.specs.Linked.{links_view}
use Rattle.elab_instances.specs.Roles.{role_met, role_of}
use Rattle.elab_instances.proofs.opening.meet_declared.Given as goal

-- with what is met at the names that are left, the tally is the last one
abbrev pub invariant-loop-declaration : goal.invariant-loop-declaration
invariant-loop-declaration l =
    let own : Declaration → List Met = λ d. role_met (role_of (links_view l.fn.links) d) (instantiation_view l.fn.given) d in
    after_all l.tally (flat_map own (declarations_view (drop l.declaration-index l.declared))) ≡ after_all l.fn.tally (flat_map own (declarations_view l.fn.declared))
