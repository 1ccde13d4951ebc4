use Rattle.std.proofs.Common.{◌≡◌, ◌++◌, drop, map}
use Rattle.verilog_tree.specs.View.{declareds_view}
use Rattle.elab_declarations.specs.DeclarationView.{declarations_view}
use Rattle.elab_declarations.specs.ItemKind.{of_kind}
use Rattle.elab_declarations.proofs.items.push_declared.Given as goal

-- the list with the names that are left is the whole
abbrev pub invariant-loop-declared : goal.invariant-loop-declared
invariant-loop-declared l = declarations_view l.list.items ++ map (λ d. of_kind l.kind d.name) (declareds_view (drop l.declared-index l.names)) ≡ declarations_view l.fn.list.items ++ map (λ d. of_kind l.fn.kind d.name) (declareds_view l.fn.names)
