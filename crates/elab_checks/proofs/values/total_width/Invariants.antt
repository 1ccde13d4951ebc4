use Rattle.std.proofs.Common.{◌≡◌, ◌+◌, ◌*◌, ◌≤◌, true, false, drop}
use Rattle.std.specs.List.{list_any}
use Rattle.elab_const.specs.Meaning.{parts_of}
use Rattle.flat_design.specs.Expressions.{all_faults}
use Rattle.flat_design.specs.Fault.{none}
use Rattle.flat_design.specs.Identifiers.{all_identifiers}
use Rattle.flat_design.specs.Scope.{binding_of, is_faulty_entry, look_up, names}
use Rattle.verilog_tree.specs.Tree.{exprs_of}
use Rattle.verilog_tree.specs.View.{exprs_view}
use Rattle.elab_checks.proofs.values.total_width.Given as goal

-- the width so far, with that of the rest, is that of all parts, and the rest has no fault
abbrev pub invariant-loop-part : goal.invariant-loop-part
invariant-loop-part l =
    let rest = exprs_of (exprs_view (drop l.part-index l.parts)) in
    record {
      whole : l.width + (parts_of (names (binding_of l.scope)) rest).width ≡ (parts_of (names (binding_of l.fn.scope)) (exprs_of (exprs_view l.fn.parts))).width;
      small : l.width ≤ 128 * l.part-index;
      sound : none (all_faults (binding_of l.scope) rest) ≡ true;
      known : list_any (λ x. is_faulty_entry (look_up (binding_of l.scope) x.name)) (all_identifiers rest) ≡ false;
    }
