use Rattle.std.proofs.Common.{◌≡◌, drop, None}
use Rattle.verilog_tree.specs.View.{modules_view}
use Rattle.elaborator.specs.Modules.{first_places, or_bound}
use Rattle.elab_scope.specs.NameMap.{bound_to}
use Rattle.elab_scope.specs.Tally.{after_faults}
use Rattle.elaborator.proofs.ModuleLemmas.{modules_by}
use Rattle.elaborator.proofs.modules.ModuleTable.new.Given as goal

-- the places so far, and those of the modules that are left, are all; so are the faults
abbrev pub invariant-loop-place : goal.invariant-loop-place
invariant-loop-place l =
    record {
      places : or_bound (bound_to l.places) (first_places l.place (modules_view (drop l.place l.modules))) ≡ first_places 0 (modules_view l.fn.modules);
      faults : after_faults l.tally (modules_by (bound_to l.places) l.place (modules_view (drop l.place l.modules))) ≡ after_faults l.fn.tally (modules_by (λ x. None) 0 (modules_view l.fn.modules));
    }
