use Rattle.std.proofs.Common.{◌≡◌, true, length, map, subst, sym, arith}
use Rattle.std.proofs.lemmas.List.{length-map}
use Rattle.design_model.specs.View.{design_view, process_view}
use Rattle.process_order.specs.Tables.{tables_of}
use Rattle.wake_list.specs.Members.{IsOnce, has}
use Rattle.replay_core.proofs.Orders.{clocked_below, clocked_once}
use Rattle.replay_core.proofs.tables.clocked_order.Goals as goal

pub new-requires-clause-once : goal.new-requires-clause-once
new-requires-clause-once c =
    let t = c.args.processes.now in
    subst IsOnce (sym c.as_slice.ensures.value) (clocked_once (design_view c.args.design.now) c.requires.tabled.0 (tables_of t) c.requires.tabled.1)

pub new-requires-clause-below : goal.new-requires-clause-below
new-requires-clause-below c = λ p h.
    let D = c.args.design.now in
    let t = c.args.processes.now in
    let below = clocked_below (design_view D) c.requires.tabled.0 (tables_of t) c.requires.tabled.1 p (subst (λ ps. has p ps ≡ true) c.as_slice.ensures.value h) in
    let size : length (map process_view D.processes) ≡ length D.processes = length-map D.processes process_view in
    let count = c.len.ensures in
    omega (arith, below, size, count)
