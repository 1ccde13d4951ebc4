use Rattle.std.proofs.Common.{◌≡◌, ◌++◌, None, false, drop, map}
use Rattle.verilog_tree.specs.View.{params_view}
use Rattle.flat_design.specs.Declarations.{a_parameter, declaration}
use Rattle.elab_declarations.specs.DeclarationView.{declarations_view}
use Rattle.elab_declarations.proofs.items.push_header.Given as goal

-- the list with the parameters that are left is the whole
abbrev pub invariant-loop-param : goal.invariant-loop-param
invariant-loop-param l =
    declarations_view l.list.items ++ map (λ p. declaration p.name.place a_parameter None false None p.name) (params_view (drop l.param-index l.params)) ≡ declarations_view l.fn.list.items ++ map (λ p. declaration p.name.place a_parameter None false None p.name) (params_view l.fn.params)
