use Rattle.std.proofs.Common.{◌≡◌, ◌++◌, drop, map}
use Rattle.elab_declarations.specs.DeclarationView.{declarations_view}
use Rattle.elab_declarations.specs.ItemKind.{of_kind}
use Rattle.elab_declarations.proofs.items.push_named.Given as goal

-- the list with the names that are left is the whole
abbrev pub invariant-loop-name : goal.invariant-loop-name
invariant-loop-name l = declarations_view l.list.items ++ map (of_kind l.kind) (drop l.name-index l.names) ≡ declarations_view l.fn.list.items ++ map (of_kind l.fn.kind) l.fn.names
