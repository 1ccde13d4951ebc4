use Rattle.std.proofs.Common.{◌≡◌, ◌∙◌, ap}
use Rattle.design_model.specs.View.{design_view}
use Rattle.cover_points.specs.Texts.{each_from}
use Rattle.cover_points.specs.Things.{signal_indexes}
use Rattle.cover_points.proofs.Orders.{index_total}
use Rattle.cover_points.proofs.Members.{once_rise}
use Rattle.cover_points.proofs.ThingMembers.{toggles_are}
use Rattle.cover_points.proofs.things.toggle_points.Goals as goal

pub returns-clause-rise : goal.returns-clause-rise
returns-clause-rise c =
    let d = design_view c.args.design.now in
    rw c.keep_first_indexes.ensures (once_rise (index_total d) c.in_ok-found.found.items c.sort_indexes.new.found.items c.sort_indexes.ensures.permutation c.in_ok-sort_indexes.ensures.sorted)

pub returns-clause-members : goal.returns-clause-members
returns-clause-members c =
    let d = design_view c.args.design.now in
    let found : c.in_ok-found.found.items ≡ each_from signal_indexes 0 d.signals = c.in_ok-found.ensures ∙ ap (each_from signal_indexes 0) c.as_slice.ensures in
    toggles_are d c.requires c.in_ok-found.found.items c.sort_indexes.new.found.items c.keep_first_indexes.new.found.items found c.sort_indexes.ensures.permutation c.keep_first_indexes.ensures
