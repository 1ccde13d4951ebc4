use Rattle.std.proofs.Common.{◌∙◌, ◌++◌, ◌+◌, [], ap, drop, map, sym}
use Rattle.std.specs.List.{list_all}
use Rattle.std.proofs.lemmas.Bool.{and_parts}
use Rattle.design_model.specs.Design.{body}
use Rattle.design_model.specs.Shape.{is_body}
use Rattle.design_model.specs.View.{design_view, process_view}
use Rattle.fsm_extract.specs.Walked.{arcs_in, process_arcs, process_states, states_in}
use Rattle.fsm_extract.proofs.Views.{further, processes_from}
use Rattle.fsm_extract.proofs.draw.walk_processes.Goals as goal

pub walk_process-requires : goal.walk_process-requires
walk_process-requires c =
    let d = design_view c.args.machine.now.constants.design.now in
    let h = c.loop-process.invariant in
    let later = map process_view (drop (c.loop-process.process-index + 1) c.args.processes.now) in
    let next = processes_from c.args.processes.now c.loop-process.process-index c.process-item.result c.loop-process-test.true c.process-item.is in
    record {
      body = (and_parts (is_body d (body (process_view c.process-item.result))) (list_all (λ p. is_body d (body p)) later) (ap (list_all (λ p. is_body d (body p))) (sym next) ∙ h.shaped)).0;
      around = h.around;
    }

pub loop-process-preserved : goal.loop-process-preserved
loop-process-preserved c =
    let m = c.args.machine.now in
    let d = design_view m.constants.design.now in
    let h = c.loop-process.invariant in
    let x = process_view c.process-item.result in
    let rest = map process_view (drop c.loop-process.process-index c.args.processes.now) in
    let later = map process_view (drop (c.loop-process.process-index + 1) c.args.processes.now) in
    let all = map process_view c.args.processes.now in
    let next = processes_from c.args.processes.now c.loop-process.process-index c.process-item.result c.loop-process-test.true c.process-item.is in
    let e = c.in_ok-walk_process.ensures in
    record {
      around = e.around;
      arcs = further c.loop-process.found.arcs.items c.walk_process.new.found.arcs.items (arcs_in d m.current m.next [] (body x)) (process_arcs d m.current m.next later) (process_arcs d m.current m.next rest) (c.args.found.now.arcs.items ++ process_arcs d m.current m.next all) e.arcs (ap (process_arcs d m.current m.next) next) h.arcs;
      states = further c.loop-process.found.states.items c.walk_process.new.found.states.items (states_in d m.current (body x)) (process_states d m.current later) (process_states d m.current rest) (c.args.found.now.states.items ++ process_states d m.current all) e.states (ap (process_states d m.current) next) h.states;
      shaped = (and_parts (is_body d (body x)) (list_all (λ p. is_body d (body p)) later) (ap (list_all (λ p. is_body d (body p))) (sym next) ∙ h.shaped)).1;
    }
