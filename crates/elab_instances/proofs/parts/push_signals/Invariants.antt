use Rattle.std.proofs.Common.{◌≡◌, ◌++◌, drop}
use Rattle.std.specs.Prelude.{flat_map}
use Rattle.elab_declarations.specs.DeclarationView.{declarations_view}
use Rattle.elab_instances.specs.Linked.{links_view}
use Rattle.elab_instances.specs.Parts.{own_signals}
use Rattle.elab_instances.proofs.parts.push_signals.Given as goal

-- the list with the signals of the names that are left is the whole
abbrev pub invariant-loop-declaration : goal.invariant-loop-declaration
invariant-loop-declaration l =
    let own = own_signals l.fn.number l.fn.opened.given.now.is_top (links_view l.fn.opened.links) in
    l.signals ++ flat_map own (declarations_view (drop l.declaration-index l.declaration-items)) ≡ l.fn.signals ++ flat_map own l.fn.opened.declared
