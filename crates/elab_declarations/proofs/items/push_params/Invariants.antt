use Rattle.std.proofs.Common.{◌≡◌, ◌++◌, drop, map}
use Rattle.verilog_tree.specs.View.{params_view}
use Rattle.elab_declarations.specs.DeclarationView.{declarations_view}
use Rattle.elab_declarations.specs.ItemKind.{of_kind}
use Rattle.elab_declarations.proofs.items.push_params.Given as goal

-- the list with the names that are left is the whole
abbrev pub invariant-loop-param : goal.invariant-loop-param
invariant-loop-param l = declarations_view l.list.items ++ map (λ d. of_kind l.kind d.name) (params_view (drop l.param-index l.params)) ≡ declarations_view l.fn.list.items ++ map (λ d. of_kind l.fn.kind d.name) (params_view l.fn.params)
