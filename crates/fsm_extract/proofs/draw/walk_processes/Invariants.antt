use Rattle.std.proofs.Common.{◌≡◌, ◌++◌, [], drop, map, true}
use Rattle.std.specs.List.{list_all}
use Rattle.design_model.specs.Design.{body}
use Rattle.design_model.specs.Shape.{is_body}
use Rattle.design_model.specs.View.{design_view, process_view}
use Rattle.fsm_extract.specs.Walked.{process_arcs, process_states}
use Rattle.fsm_extract.proofs.draw.walk_processes.Given as goal

-- what was found so far, with what is in the rest, is what is in all processes, no label is open, and the rest have their shapes
abbrev pub invariant-loop-process : goal.invariant-loop-process
invariant-loop-process l =
    record {
      around : l.found.around.items ≡ [];
      arcs : l.found.arcs.items ++ process_arcs (design_view l.machine.constants.design.now) l.machine.current l.machine.next (map process_view (drop l.process-index l.processes)) ≡ l.fn.found.arcs.items ++ process_arcs (design_view l.machine.constants.design.now) l.machine.current l.machine.next (map process_view l.fn.processes);
      states : l.found.states.items ++ process_states (design_view l.machine.constants.design.now) l.machine.current (map process_view (drop l.process-index l.processes)) ≡ l.fn.found.states.items ++ process_states (design_view l.machine.constants.design.now) l.machine.current (map process_view l.fn.processes);
      shaped : list_all (λ p. is_body (design_view l.machine.constants.design.now) (body p)) (map process_view (drop l.process-index l.processes)) ≡ true;
    }
