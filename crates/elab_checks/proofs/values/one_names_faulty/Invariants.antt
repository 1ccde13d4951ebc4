use Rattle.std.proofs.Common.{◌≡◌, drop}
use Rattle.std.specs.List.{list_any}
use Rattle.flat_design.specs.Identifiers.{all_identifiers}
use Rattle.flat_design.specs.Scope.{binding_of, is_faulty_entry, look_up}
use Rattle.verilog_tree.specs.Tree.{exprs_of}
use Rattle.verilog_tree.specs.View.{exprs_view}
use Rattle.elab_checks.proofs.values.one_names_faulty.Given as goal

-- whether the rest names something that has a fault decides
abbrev pub invariant-loop-part : goal.invariant-loop-part
invariant-loop-part l =
    list_any (λ x. is_faulty_entry (look_up (binding_of l.scope) x.name)) (all_identifiers (exprs_of (exprs_view (drop l.part-index l.parts))))
    ≡ list_any (λ x. is_faulty_entry (look_up (binding_of l.fn.scope) x.name)) (all_identifiers (exprs_of (exprs_view l.fn.parts)))
