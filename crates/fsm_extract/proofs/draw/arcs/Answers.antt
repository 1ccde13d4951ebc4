use Rattle.std.proofs.Common.{◌∙◌, ◌++◌, ap₂, map}
use Rattle.std.specs.List.{list_all}
use Rattle.std.proofs.lemmas.Bool.{eqb-true}
use Rattle.design_model.specs.Design.{body}
use Rattle.design_model.specs.Shape.{is_body}
use Rattle.design_model.specs.View.{design_view, process_view}
use Rattle.fsm_extract.proofs.Listed.{all_arcs, all_states, arc_listed, bodies_shaped, listed_arc, listed_state, same_pair, state_listed}
use Rattle.fsm_extract.proofs.draw.arcs.Goals as goal

pub walk_processes-requires : goal.walk_processes-requires
walk_processes-requires c =
    let d = design_view c.args.design.now in
    record {
      bodies = ap₂ (λ x ps. list_all (λ p. is_body (design_view x) (body p)) (map process_view ps)) c.new-machine.ensures.design c.as_slice.ensures ∙ bodies_shaped d d.processes c.requires.lawful.bodies;
      around = c.new.ensures.items;
    }

pub sorted-pairs-requires : goal.sorted-pairs-requires
sorted-pairs-requires c = λ a b e. same_pair a b e

pub sorted-states-requires : goal.sorted-states-requires
sorted-states-requires c = λ a b e. eqb-true a b e

pub returns : goal.returns
returns c =
    let x = c.args.design.now in
    let d = design_view x in
    let m = c.new-machine.result in
    let e = c.new-machine.ensures in
    let found = c.walk_processes.new.found in
    let sorted = c.sorted-pairs.result in
    let walked = c.in_ok-walk_processes.ensures in
    let all = all_arcs found.arcs.items c.new-2.result.items m.constants.design.now x m.current c.args.current m.next c.args.next c.as_slice.result.now walked.arcs c.new-2.ensures.items e.design e.current e.next c.as_slice.ensures in
    let labels = all_states found.states.items c.new-3.result.items m.constants.design.now x m.current c.args.current c.as_slice.result.now walked.states c.new-3.ensures.items e.design e.current c.as_slice.ensures in
    let values = c.in_ok-push_ends.ensures ∙ ap₂ (λ xs ys. xs ++ map (λ arc. arc.1) ys) labels c.as_slice-2.ensures in
    let same = c.sorted-pairs.ensures.same in
    let same_states = c.sorted-states.ensures.same in
    record {
      pairs_rise = c.sorted-pairs.ensures.rising;
      pairs = λ v w. (
        listed_arc d c.requires.lawful c.args.current c.args.next found.arcs.items sorted all (λ a. (same a).0) (λ a. (same a).1) v w,
        arc_listed d c.requires.lawful c.args.current c.args.next found.arcs.items sorted all (λ a. (same a).0) (λ a. (same a).1) v w,
      );
      states_rise = c.sorted-states.ensures.rising;
      states = λ v. (
        listed_state d c.requires.lawful c.args.current c.args.next found.arcs.items sorted all (λ a. (same a).0) (λ a. (same a).1) c.sorted-states.result c.push_ends.new.states.items values (λ a. (same_states a).0) (λ a. (same_states a).1) v,
        state_listed d c.requires.lawful c.args.current c.args.next found.arcs.items sorted all (λ a. (same a).0) (λ a. (same a).1) c.sorted-states.result c.push_ends.new.states.items values (λ a. (same_states a).0) (λ a. (same_states a).1) v,
      );
    }
