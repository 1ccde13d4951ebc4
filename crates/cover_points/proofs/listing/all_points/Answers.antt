use Rattle.std.proofs.Common.{◌≡◌, ◌↔◌, List, map, subst, sym}
use Rattle.std.specs.List.Sorted.{IsStrictlySortedBy}
use Rattle.design_machines.specs.Drawn.{AreAllMachines}
use Rattle.design_machines.specs.state_machines.Drawn.{IsPointWith}
use Rattle.design_machines.specs.declared.machine.Machine.{Machine}
use Rattle.design_model.specs.Design.{In}
use Rattle.design_model.specs.View.{design_view}
use Rattle.cover_points.specs.Listed.{IsPlaced}
use Rattle.cover_points.specs.MachinePoints.{machine_cmp, machine_view}
use Rattle.cover_points.proofs.Assembly.{all_members}
use Rattle.cover_points.proofs.listing.all_points.Goals as goal

pub returns : goal.returns
returns c = λ ms drawable h.
    let d = design_view c.args.design.now in
    let xs = c.args.machines.items in
    let ps = c.in_ok-states.states.items in
    let same : c.as_slice.result.now ≡ xs = c.as_slice.ensures.value in
    let own = subst (λ (ys : List Machine). AreAllMachines d ms ys) (sym same) h in
    record {
      members = all_members c.in_ok-lines.lines.items c.in_ok-nodes.nodes.items c.in_ok-toggles.toggles.items xs ps c.in_ok-words.words.items d ms c.in_ok-lines.ensures.members c.in_ok-nodes.ensures.members c.in_ok-toggles.ensures.members (λ x o. subst (λ (ys : List Machine). In x (map (machine_view ys) ps) ↔ IsPointWith d ms x) same (c.in_ok-states.ensures.members ms drawable own x o)) c.in_ok-words.ensures.members;
      machines = h;
      placed = λ p i. subst (λ (ys : List Machine). IsPlaced ys p) same (c.in_ok-states.ensures.placed ms own p i);
      line_owners = c.in_ok-lines.ensures.owners;
      node_owners = c.in_ok-nodes.ensures.owners;
      lines = c.in_ok-lines.ensures.rise;
      nodes = c.in_ok-nodes.ensures.rise;
      toggles = c.in_ok-toggles.ensures.rise;
      states = subst (λ (ys : List Machine). IsStrictlySortedBy (machine_cmp d.instances ys) ps) same c.in_ok-states.ensures.rise;
      words = c.in_ok-words.ensures.rise;
    }
