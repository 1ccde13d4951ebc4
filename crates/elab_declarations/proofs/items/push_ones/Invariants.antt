use Rattle.std.proofs.Common.{◌≡◌, ◌++◌, drop, map}
use Rattle.verilog_tree.specs.View.{ones_view}
use Rattle.elab_declarations.specs.DeclarationView.{declarations_view}
use Rattle.elab_declarations.specs.ItemKind.{of_kind}
use Rattle.elab_declarations.proofs.items.push_ones.Given as goal

-- the list with the names that are left is the whole
abbrev pub invariant-loop-one : goal.invariant-loop-one
invariant-loop-one l = declarations_view l.list.items ++ map (λ d. of_kind l.kind d.name) (ones_view (drop l.one-index l.ones)) ≡ declarations_view l.fn.list.items ++ map (λ d. of_kind l.fn.kind d.name) (ones_view l.fn.ones)
