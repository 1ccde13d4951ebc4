use Rattle.std.proofs.Common.{◌≡◌, drop, map}
use Rattle.std.specs.Prelude.{flat_map}
use Rattle.flat_design.specs.Processes.{self_read}
use Rattle.flat_design.specs.Scope.{binding_of}
use Rattle.elab_scope.specs.Tally.{after_faults}
use Rattle.elab_scope.specs.View.{writing_view}
use Rattle.elab_processes.specs.Reads.{AreSound, parts_view}
use Rattle.elab_processes.proofs.reads.check_each.Given as goal

-- what is reported so far, with the rest, is what is reported of all
abbrev pub invariant-loop-part : goal.invariant-loop-part
invariant-loop-part l =
    let one = self_read (binding_of l.fn.scope) (map writing_view l.fn.driven) in
    record {
      met : after_faults l.tally (flat_map one (parts_view (drop l.part-index l.parts))) ≡ after_faults l.fn.tally (flat_map one (parts_view l.fn.parts));
      sound : AreSound (binding_of l.fn.scope) (parts_view (drop l.part-index l.parts));
    }
