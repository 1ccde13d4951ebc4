use Rattle.std.proofs.Common.{◌≡◌, ◌++◌, List, drop}
use Rattle.std.specs.Prelude.{flat_map}
use Rattle.design_model.specs.declared.design.Alias.{Alias}
use Rattle.flat_design.specs.Declarations.{Declaration}
use Rattle.flat_design.specs.Instances.{alias_to}
use Rattle.elab_declarations.specs.DeclarationView.{declarations_view}
use Rattle.elab_instances.specs.Linked.{links_view}
use Rattle.elab_instances.proofs.parts.push_aliases.Given as goal

-- the list with the aliases among the names that are left is the whole
abbrev pub invariant-loop-declaration : goal.invariant-loop-declaration
invariant-loop-declaration l =
    let own : Declaration → List Alias = λ d. alias_to l.fn.number d.name.name ((links_view l.fn.opened.links).outer d.name.name) in
    l.aliases ++ flat_map own (declarations_view (drop l.declaration-index l.declaration-items)) ≡ l.fn.aliases ++ flat_map own l.fn.opened.declared
