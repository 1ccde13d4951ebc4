use Rattle.std.proofs.Common.{◌≡◌, ◌++◌, drop}
use Rattle.std.specs.Prelude.{flat_map}
use Rattle.elab_declarations.specs.DeclarationView.{declarations_view}
use Rattle.elab_instances.specs.Linked.{links_view}
use Rattle.elab_instances.specs.Parts.{own_memories}
use Rattle.elab_instances.proofs.parts.push_memories.Given as goal

-- the list with the memories among the names that are left is the whole
abbrev pub invariant-loop-declaration : goal.invariant-loop-declaration
invariant-loop-declaration l =
    let own = own_memories l.fn.number (links_view l.fn.opened.links) in
    l.memories ++ flat_map own (declarations_view (drop l.declaration-index l.declaration-items)) ≡ l.fn.memories ++ flat_map own l.fn.opened.declared
