use Rattle.std.proofs.Common.{◌≡◌, ◌∙◌, List, ap, subst}
use Rattle.std.specs.List.{dedup}
use Rattle.std.specs.List.Sorted.{IsSorted}
use Rattle.std.specs.Ordering.{eq_by_cmp}
use Rattle.design_model.specs.Design.{In}
use Rattle.design_model.specs.View.{design_view}
use Rattle.design_model.specs.declared.design.Instance.{Instance}
use Rattle.cover_points.specs.MachinePoints.{machine_cmp}
use Rattle.cover_points.specs.declared.machine_point.MachinePoint.{MachinePoint}
use Rattle.cover_points.proofs.Orders.{machine_total}
use Rattle.cover_points.proofs.Members.{once_from, once_rise}
use Rattle.cover_points.proofs.MachineMembers.{from_found, leaves_states, machines_are}
use Rattle.cover_points.proofs.machines.machine_points.Goals as goal

pub returns-clause-rise : goal.returns-clause-rise
returns-clause-rise c =
    let is = c.args.design.now.instances in
    let xs = c.args.machines.now in
    let moved = c.sort_points.new.found.items in
    let kept : c.keep_first_points.new.found.items ≡ dedup (eq_by_cmp (machine_cmp is xs)) moved =
    c.keep_first_points.ensures ∙ ap (λ (is : List Instance). dedup (eq_by_cmp (machine_cmp is xs)) moved) c.as_slice-instances.ensures in
    let sorted = subst (λ (is : List Instance). IsSorted (machine_cmp is xs) moved) c.as_slice-instances.ensures c.in_ok-sort_points.ensures.sorted in
    rw kept (once_rise (machine_total is xs) c.in_ok-found.found.items moved c.sort_points.ensures.permutation sorted)

pub returns-clause-placed : goal.returns-clause-placed
returns-clause-placed c = λ ms all p h.
    let is = c.as_slice-instances.result.now in
    let xs = c.args.machines.now in
    let was = once_from (machine_total is xs) c.in_ok-found.found.items c.sort_points.new.found.items c.sort_points.ensures.permutation p (subst (λ (ks : List MachinePoint). In p ks) c.keep_first_points.ensures h) in
    from_found xs (leaves_states (design_view c.args.design.now) ms xs all) p (subst (λ (ks : List MachinePoint). In p ks) c.in_ok-found.ensures was)

pub returns-clause-members : goal.returns-clause-members
returns-clause-members c = λ ms drawable h x o.
    let d = design_view c.args.design.now in
    let xs = c.args.machines.now in
    let moved = c.sort_points.new.found.items in
    let kept : c.keep_first_points.new.found.items ≡ dedup (eq_by_cmp (machine_cmp d.instances xs)) moved =
    c.keep_first_points.ensures ∙ ap (λ (is : List Instance). dedup (eq_by_cmp (machine_cmp is xs)) moved) c.as_slice-instances.ensures in
    machines_are d c.requires ms drawable xs h c.in_ok-found.found.items moved c.keep_first_points.new.found.items c.in_ok-found.ensures c.sort_points.ensures.permutation kept x o
