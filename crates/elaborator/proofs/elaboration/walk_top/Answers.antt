use Rattle.std.proofs.Common.{ap, refl, subst, sym}
use Rattle.verilog_tree.specs.View.{module_view, modules_view}
use Rattle.elaborator.proofs.ElaborateLemmas.{walks_absent, walks_present}
use Rattle.tree_places.specs.Counted.{IsCountable}
use Rattle.elaborator.proofs.RoomLemmas.{found_countable}
use Rattle.elaborator.proofs.elaboration.walk_top.Goals as goal

pub walk_instance-requires-clause-countable : goal.walk_instance-requires-clause-countable
walk_instance-requires-clause-countable c =
    let found = found_countable (modules_view c.args.ground.modules.now.modules.now) c.args.top.now (module_view c.in-Some.module.now) c.args.ground.modules.now.countable (sym c.in-Some.ensures) in
    subst IsCountable (sym (ap (λ i. i.of_module) c.in_ok-given-in-Some.ensures)) found

pub returns-in_ok-walk_instance-in-Some : goal.returns-in_ok-walk_instance-in-Some
returns-in_ok-walk_instance-in-Some c =
    walks_present (modules_view c.args.ground.modules.now.modules.now) c.args.top.now (module_view c.in-Some.module.now) _ (sym c.in-Some.ensures) c.in_ok-given-in-Some.ensures c.in_ok-walk_instance-in-Some.ensures.walks

pub returns-in-None : goal.returns-in-None
returns-in-None c = walks_absent (modules_view c.args.ground.modules.now.modules.now) c.args.top.now (sym c.in-None.ensures) c.fault.ensures refl refl
