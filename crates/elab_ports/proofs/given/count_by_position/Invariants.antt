use Rattle.std.proofs.Common.{◌≡◌, ◌+◌, ◌≤◌, length, drop}
use Rattle.std.specs.Prelude.{filter}
use Rattle.flat_design.specs.Connections as spec
use Rattle.verilog_tree.specs.View.{givens_view}
use Rattle.elab_ports.proofs.given.count_by_position.Given as goal

-- those that were counted, and those that are left, are all
abbrev pub invariant-loop-one : goal.invariant-loop-one
invariant-loop-one l =
    record {
      whole : l.count + length (filter spec.is_by_position (givens_view (drop l.one-index l.given))) ≡ length (filter spec.is_by_position (givens_view l.fn.given));
      few : l.count ≤ l.one-index;
    }
