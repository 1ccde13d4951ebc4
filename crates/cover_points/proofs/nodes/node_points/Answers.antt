use Rattle.std.proofs.Common.{◌≡◌, ◌∙◌, List, map, ap}
use Rattle.std.specs.List.{dedup}
use Rattle.std.specs.List.Sorted.{IsSorted}
use Rattle.std.specs.Ordering.{eq_by_cmp}
use Rattle.design_model.specs.View.{design_view, process_view}
use Rattle.text_points.specs.declared.points.NodePoint.{NodePoint}
use Rattle.cover_points.specs.Order.{node_cmp}
use Rattle.cover_points.specs.Texts.{each_from, process_nodes}
use Rattle.cover_points.proofs.Orders.{node_total}
use Rattle.cover_points.proofs.Members.{once_rise}
use Rattle.cover_points.proofs.NodeMembers.{nodes_are, nodes_owned}
use Rattle.cover_points.proofs.nodes.node_points.Goals as goal

pub returns-clause-rise : goal.returns-clause-rise
returns-clause-rise c =
    let is = c.args.design.now.instances in
    let sorted : List NodePoint = c.sort_nodes.new.found.items in
    let up : IsSorted (node_cmp is) sorted = rw c.as_slice-instances.ensures at c.in_ok-sort_nodes.ensures.sorted in
    let kept : c.keep_first_nodes.new.found.items ≡ dedup (eq_by_cmp (node_cmp is)) sorted = rw c.as_slice-instances.ensures at c.keep_first_nodes.ensures in
    rw kept (once_rise (node_total is) c.in_ok-found.found.items sorted c.sort_nodes.ensures.permutation up)

pub returns-clause-members : goal.returns-clause-members
returns-clause-members c =
    let d = design_view c.args.design.now in
    let is = c.args.design.now.instances in
    let found : c.in_ok-found.found.items ≡ each_from process_nodes 0 d.processes =
    c.in_ok-found.ensures ∙ ap (λ ps. each_from process_nodes 0 (map process_view ps)) c.as_slice.ensures in
    let kept : c.keep_first_nodes.new.found.items ≡ dedup (eq_by_cmp (node_cmp is)) c.sort_nodes.new.found.items = rw c.as_slice-instances.ensures at c.keep_first_nodes.ensures in
    nodes_are d c.requires c.in_ok-found.found.items c.sort_nodes.new.found.items c.keep_first_nodes.new.found.items found c.sort_nodes.ensures.permutation kept

pub returns-clause-owners : goal.returns-clause-owners
returns-clause-owners c =
    let d = design_view c.args.design.now in
    let is = c.args.design.now.instances in
    let found : c.in_ok-found.found.items ≡ each_from process_nodes 0 d.processes =
    c.in_ok-found.ensures ∙ ap (λ ps. each_from process_nodes 0 (map process_view ps)) c.as_slice.ensures in
    let kept : c.keep_first_nodes.new.found.items ≡ dedup (eq_by_cmp (node_cmp is)) c.sort_nodes.new.found.items = rw c.as_slice-instances.ensures at c.keep_first_nodes.ensures in
    nodes_owned d c.in_ok-found.found.items c.sort_nodes.new.found.items c.keep_first_nodes.new.found.items found c.sort_nodes.ensures.permutation kept
