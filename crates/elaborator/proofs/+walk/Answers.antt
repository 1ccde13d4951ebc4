use Rattle.std.proofs.Common.{◌≡◌, ◌<◌, [], ◌∷◌, ◌-◌, ◌^◌, ◌&&◌, suc, ℕ, List, refl, sym, ap, map, ◌∙◌, subst, drop, arith, rules}
use Rattle.std.specs.List.{list_any}
use Rattle.std.specs.Prelude.{bytes_eq}
use Rattle.std.proofs.lemmas.Bool.{false≢true}
use Rattle.std.proofs.lemmas.Grind.{common_steps}
use Rattle.std.proofs.lemmas.Result.{on_ok_weaker}
use Rattle.design_model.specs.Design.{AreDistinct}
use Rattle.verilog_tree.specs.declared.item.Given.{Given as CodeGiven}
use Rattle.verilog_tree.specs.declared.item.Named.{Named}
use Rattle.verilog_tree.specs.View.{declareds_view, givens_view, item_view, items_view, module_view, modules_view, one_view, ones_view}
use Rattle.flat_design.specs.Bodies.{met_fault, met_faults}
use Rattle.flat_design.specs.Connections.{connections_faults, joined_ports, joining}
use Rattle.flat_design.specs.Fault.{Fault, limit_fault}
use Rattle.flat_design.specs.Flat.{instance, is_same_place, join_ports}
use Rattle.flat_design.specs.Instances.{Sofar, context, meet}
use Rattle.flat_design.specs.Numbering.{form_lines, form_nodes, values_nodes}
use Rattle.flat_design.specs.Scope.{Bindings, binding_of}
use Rattle.flat_design.specs.declared.fault.DesignLimit.TheVariants.{Instances}
use Rattle.flat_laws.proofs.DeclaredOnce.{declared_distinct, name_of}
use Rattle.tree_places.specs.Counted.{IsCountable, connections_nodes, ones_nodes}
use Rattle.elab_build.specs.Sound.{IsClear}
use Rattle.elab_declarations.specs.Constants.{overrides_view}
use Rattle.elab_instances.specs.InstanceView.{instantiation_view}
use Rattle.elab_ports.specs.PortView.{joined_view, ports_view}
use Rattle.elab_scope.specs.Tally.{Tally, after, after_all}
use Rattle.elaborator.specs.Named.{item_of}
use Rattle.elaborator.specs.Room.{HaveFewer, HaveRoom, TakesFew, form_room, items_room}
use Rattle.elaborator.specs.Walk.{GoesBy, IsAt, WalksBy, around_here, items_lines, items_nodes}
use Rattle.elaborator.specs.declared.naming.InstancesOf.{InstancesOf}
use Rattle.elaborator.specs.declared.walk.Walk.{Walk}
use Rattle.elaborator.proofs.EnterLemmas.{limit_ends}
use Rattle.elaborator.proofs.InstanceLemmas.{instance_ends, instance_walks, replaced_ends, replaced_goes}
use Rattle.elaborator.proofs.JoinedNodes.{joined_fewer}
use Rattle.elaborator.proofs.KeptLemmas.{goes_kept, keeps_still, keeps_twice, walks_kept}
use Rattle.elaborator.proofs.RoomLemmas.{item_room, module_room, net_few, on_ok_always, one_few, ones_few, rest_room}
use Rattle.elaborator.proofs.StepLemmas.{faults_walk, scope_numbers, still_goes}
use Rattle.elaborator.proofs.WalkItems.{ItemGoes, ItemsGo, always_goes, assign_goes, instances_go, items_next, net_goes, others_still}
use Rattle.elaborator.proofs.WalkOnes.{OneGoes, OnesGo, all_go, none_go, one_goes, one_still, ones_next}
use Rattle.elaborator.proofs.+walk.Goals as goal

-- the faults of the connections of an instance
abbrev faults_of : Bindings → Named → InstancesOf → List CodeGiven → List Fault
faults_of scope label of cs =
    connections_faults (binding_of scope) (overrides_view of.overrides.items) (module_view of.module.now) label (givens_view cs)

pub items::walk_items-loop-item-init : goal.items::walk_items-loop-item-init
items::walk_items-loop-item-init t c = record { goes = λ later others goes. goes; scope = refl; keeps = keeps_still c.args.walk.now c.requires.kept; room = c.requires.few }

pub items::walk_items-walk_item-requires : goal.items::walk_items-walk_item-requires
items::walk_items-walk_item-requires t c =
    let f = (item_view c.item-item.result).form in
    let room = item_room (binding_of c.args.scope.now) c.loop-item.numbers c.args.items.now c.loop-item.item-index c.item-item.result c.loop-item-test.true c.item-item.is c.loop-item.invariant.room in
    let few = subst (λ h. HaveRoom c.loop-item.numbers (form_lines f) (form_room h f)) (sym c.loop-item.invariant.scope) room in
    (search rules, (c.requires.base, (c.requires.declared, (c.loop-item.invariant.keeps.kept, ((λ clean. subst IsClear (sym c.loop-item.invariant.scope) (c.requires.clear (c.loop-item.invariant.keeps.clean clean))), few)))))

pub items::walk_items-loop-item-preserved : goal.items::walk_items-loop-item-preserved
items::walk_items-loop-item-preserved t c =
    let base = c.args.ground.base in
    let g = binding_of c.args.scope.now in
    let ms = modules_view c.args.ground.modules.now.modules.now in
    let given = instantiation_view c.args.body.now.given.now in
    let x = c.item-item.result in
    let here : ItemGoes base ms c.args.depth given g (item_view x) c.loop-item.walk c.loop-item.numbers c.walk_item.new.walk c.walk_item.new.numbers =
    subst (λ h. ItemGoes base ms c.args.depth given h (item_view x) c.loop-item.walk c.loop-item.numbers c.walk_item.new.walk c.walk_item.new.numbers) c.loop-item.invariant.scope c.in_ok-walk_item.ensures.goes in
    record {
      goes = λ later others goes. c.loop-item.invariant.goes later others (items_next ms c.args.depth given g c.args.items.now c.loop-item.item-index x c.loop-item-test.true c.item-item.is here goes);
      scope = c.in_ok-walk_item.ensures.scope ∙ c.loop-item.invariant.scope;
      keeps = keeps_twice c.loop-item.invariant.keeps (goes_kept (form_lines (item_view x).form) (form_nodes g (item_view x).form) here c.loop-item.invariant.keeps.kept);
      room =
          rest_room g c.loop-item.numbers c.args.items.now c.loop-item.item-index x c.loop-item-test.true c.item-item.is c.loop-item.invariant.room c.walk_item.new.numbers
          (subst (λ h. TakesFew c.loop-item.numbers c.walk_item.new.numbers (form_lines (item_view x).form) (form_nodes h (item_view x).form)) c.loop-item.invariant.scope c.in_ok-walk_item.ensures.few);
    }

pub items::walk_items-returns-clause-goes : goal.items::walk_items-returns-clause-goes
items::walk_items-returns-clause-goes t c =
    let base = c.args.ground.base in
    let g = binding_of c.args.scope.now in
    let ms = modules_view c.args.ground.modules.now.modules.now in
    let given = instantiation_view c.args.body.now.given.now in
    let left : drop c.loop-item.item-index c.args.items.now ≡ [] = grind (arith, common_steps) in
    let still : ItemsGo base ms c.args.depth given g (items_view []) c.loop-item.walk c.loop-item.numbers c.loop-item.walk c.loop-item.numbers = still_goes c.loop-item.walk c.loop-item.numbers in
    c.loop-item.invariant.goes c.loop-item.walk c.loop-item.numbers (subst (λ xs. ItemsGo base ms c.args.depth given g (items_view xs) c.loop-item.walk c.loop-item.numbers c.loop-item.walk c.loop-item.numbers) (sym left) still)

pub items::walk_items-returns-clause-scope : goal.items::walk_items-returns-clause-scope
items::walk_items-returns-clause-scope t c = c.loop-item.invariant.scope

pub items::walk_item-returns-in-Net-clause-goes : goal.items::walk_item-returns-in-Net-clause-goes
items::walk_item-returns-in-Net-clause-goes t c =
    let given = instantiation_view c.args.body.now.given.now in
    on_ok_weaker c.walk_nets.result (λ goes. net_goes c.args.ground.base (modules_view c.args.ground.modules.now.modules.now) c.args.depth given (binding_of c.args.scope.now) c.args.item.now.place c.args.item.now.form c.args.walk.now c.args.numbers.now c.walk_nets.new.walk c.walk_nets.new.numbers _ _ c.in-Net.names c.as_slice.result.now c.in-Net.is c.as_slice.ensures (goes given)) c.walk_nets.ensures.goes

pub items::walk_item-returns-in-Assign-clause-goes : goal.items::walk_item-returns-in-Assign-clause-goes
items::walk_item-returns-in-Assign-clause-goes t c =
    on_ok_weaker c.walk_assign.result (λ goes. assign_goes c.args.ground.base (modules_view c.args.ground.modules.now.modules.now) c.args.depth (instantiation_view c.args.body.now.given.now) (binding_of c.args.scope.now) c.args.item.now.place c.args.item.now.form c.args.walk.now c.args.numbers.now c.walk_assign.new.walk c.walk_assign.new.numbers c.in-Assign.target c.in-Assign.value c.in-Assign.is goes) c.walk_assign.ensures.goes

pub items::walk_item-returns-in-Always-clause-goes : goal.items::walk_item-returns-in-Always-clause-goes
items::walk_item-returns-in-Always-clause-goes t c =
    on_ok_weaker c.walk_always.result (λ goes. always_goes c.args.ground.base (modules_view c.args.ground.modules.now.modules.now) c.args.depth (instantiation_view c.args.body.now.given.now) (binding_of c.args.scope.now) c.args.item.now.place c.args.item.now.form c.args.walk.now c.args.numbers.now c.walk_always.new.walk c.walk_always.new.numbers c.in-Always.when c.in-Always.statement c.in-Always.is goes) c.walk_always.ensures.goes

pub items::walk_item-returns-in-Instance-clause-goes : goal.items::walk_item-returns-in-Instance-clause-goes
items::walk_item-returns-in-Instance-clause-goes t c =
    on_ok_weaker c.walk_instances.result (λ goes. instances_go c.args.ground.base (modules_view c.args.ground.modules.now.modules.now) c.args.depth (instantiation_view c.args.body.now.given.now) (binding_of c.args.scope.now) c.args.item.now.place c.args.item.now.form c.args.walk.now c.args.numbers.now c.walk_instances.new.walk c.args.numbers.now c.in-Instance.module _ c.as_slice-overrides.result.now _ c.as_slice-ones.result.now c.in-Instance.is c.as_slice-overrides.ensures c.as_slice-ones.ensures goes) c.walk_instances.ensures

pub items::walk_item-returns-in_default-clause-goes : goal.items::walk_item-returns-in_default-clause-goes
items::walk_item-returns-in_default-clause-goes t c =
    others_still c.args.walk.now c.args.numbers.now (modules_view c.args.ground.modules.now.modules.now) c.args.depth (instantiation_view c.args.body.now.given.now) (binding_of c.args.scope.now) c.args.item.now.place c.args.item.now.form c.in_default.not-Net c.in_default.not-Assign c.in_default.not-Always c.in_default.not-Instance

pub items::walk_item-walk_nets-requires-clause-few : goal.items::walk_item-walk_nets-requires-clause-few
items::walk_item-walk_nets-requires-clause-few t c =
    let room = rw c.in-Net.is at c.requires.few in
    omega (arith, room.1, ap (λ ds. values_nodes (binding_of c.args.scope.now) (declareds_view ds)) c.as_slice.ensures)

pub items::walk_item-walk_assign-requires-clause-few : goal.items::walk_item-walk_assign-requires-clause-few
items::walk_item-walk_assign-requires-clause-few t c =
    let room = rw c.in-Assign.is at c.requires.few in
    omega (arith, room.1)

pub items::walk_item-walk_always-requires-clause-few : goal.items::walk_item-walk_always-requires-clause-few
items::walk_item-walk_always-requires-clause-few t c =
    let room = rw c.in-Always.is at c.requires.few in
    (omega (arith, room.0), omega (arith, room.1))

pub items::walk_item-walk_instances-requires : goal.items::walk_item-walk_instances-requires
items::walk_item-walk_instances-requires t c =
    let room = rw c.in-Instance.is at c.requires.few in
    (search rules, (c.requires.base, (c.requires.declared, (c.requires.kept, (c.requires.clear, omega (arith, room.1, ap (λ os. ones_nodes (binding_of c.args.scope.now) (ones_view os)) c.as_slice-ones.ensures))))))

pub items::walk_item-returns-in-Net-clause-few : goal.items::walk_item-returns-in-Net-clause-few
items::walk_item-returns-in-Net-clause-few t c =
    on_ok_weaker c.walk_nets.result (λ few. net_few (binding_of c.args.scope.now) c.args.numbers.now c.walk_nets.new.numbers c.args.item.now.form _ _ c.in-Net.names c.as_slice.result.now c.in-Net.is c.as_slice.ensures few) c.walk_nets.ensures.few

pub items::walk_item-returns-in-Assign-clause-few : goal.items::walk_item-returns-in-Assign-clause-few
items::walk_item-returns-in-Assign-clause-few t c = rw c.in-Assign.is c.walk_assign.ensures.few

pub items::walk_item-returns-in-Always-clause-few : goal.items::walk_item-returns-in-Always-clause-few
items::walk_item-returns-in-Always-clause-few t c = rw c.in-Always.is c.walk_always.ensures.few

pub items::walk_item-returns-in-Instance-clause-few : goal.items::walk_item-returns-in-Instance-clause-few
items::walk_item-returns-in-Instance-clause-few t c = on_ok_always c.walk_instances.result (omega arith, omega arith)

pub instances::walk_instances-returns-in-Some : goal.instances::walk_instances-returns-in-Some
instances::walk_instances-returns-in-Some t c =
    let w = c.args.walk.now in
    let g = binding_of c.args.scope.now in
    let ms = modules_view c.args.ground.modules.now.modules.now in
    let given = instantiation_view c.args.body.now.given.now in
    let cs = givens_view c.args.item.overrides.now in
    let ones = ones_view c.args.item.ones.now in
    let m = module_view c.in-Some.of.module.now in
    let os = overrides_view c.in-Some.of.overrides.items in
    let some = rw c.in-Some.is at c.in_ok-found.ensures.some in
    on_ok_weaker c.walk_ones.result (λ goes.
    all_go ms c.args.depth given g c.args.item.place c.args.item.module.now cs ones m os some.1
    (subst (λ u. OnesGo c.args.ground.base ms c.args.depth given g c.args.item.place (item_of c.args.item.module.now cs ones) m os ones c.args.numbers (record w { tally = u }) c.walk_ones.new.walk) some.0 goes))
    c.walk_ones.ensures

pub instances::walk_instances-returns-in-None : goal.instances::walk_instances-returns-in-None
instances::walk_instances-returns-in-None t c =
    let none = rw c.in-None.is at c.in_ok-found.ensures.none in
    none_go (modules_view c.args.ground.modules.now.modules.now) c.args.depth (instantiation_view c.args.body.now.given.now) (binding_of c.args.scope.now) c.args.item.place c.args.item.module.now (givens_view c.args.item.overrides.now) (ones_view c.args.item.ones.now) none.0 none.2
    (faults_walk {w = c.args.walk.now} none.0 none.1 refl refl)

pub instances::walk_ones-loop-one-init : goal.instances::walk_ones-loop-one-init
instances::walk_ones-loop-one-init t c = record { goes = λ later goes. goes; keeps = keeps_still c.args.walk.now c.requires.kept; few = c.requires.few }

pub instances::walk_ones-walk_one-requires : goal.instances::walk_ones-walk_one-requires
instances::walk_ones-walk_one-requires t c =
    let few = one_few (2 ^ 32) (binding_of c.args.scope.now) c.args.ones.now c.loop-one.one-index c.one-item.result c.loop-one-test.true c.one-item.is c.loop-one.invariant.few in
    (search rules, (c.requires.base, (c.requires.declared, (c.loop-one.invariant.keeps.kept, ((λ clean. c.requires.clear (c.loop-one.invariant.keeps.clean clean)), few)))))

pub instances::walk_ones-loop-one-preserved : goal.instances::walk_ones-loop-one-preserved
instances::walk_ones-loop-one-preserved t c =
    let g = binding_of c.args.scope.now in
    let ms = modules_view c.args.ground.modules.now.modules.now in
    let given = instantiation_view c.args.body.now.given.now in
    let x = item_of c.args.item.module.now (givens_view c.args.item.overrides.now) (ones_view c.args.item.ones.now) in
    let m = module_view c.args.of.now.module.now in
    let os = overrides_view c.args.of.now.overrides.items in
    let o = c.one-item.result in
    let here : OneGoes c.args.ground.base ms c.args.depth given g c.args.item.place x m os (one_view o) c.args.numbers c.loop-one.walk c.walk_one.new.walk = c.in_ok-walk_one.ensures in
    record {
      goes = λ later goes. c.loop-one.invariant.goes later (ones_next ms c.args.depth given g c.args.item.place x m os c.args.ones.now c.loop-one.one-index o c.loop-one-test.true c.one-item.is here goes);
      keeps = keeps_twice c.loop-one.invariant.keeps (goes_kept 0 0 here c.loop-one.invariant.keeps.kept);
      few = ones_few (2 ^ 32) g c.args.ones.now c.loop-one.one-index o c.loop-one-test.true c.one-item.is c.loop-one.invariant.few;
    }

pub instances::walk_ones-returns : goal.instances::walk_ones-returns
instances::walk_ones-returns t c =
    let g = binding_of c.args.scope.now in
    let ms = modules_view c.args.ground.modules.now.modules.now in
    let given = instantiation_view c.args.body.now.given.now in
    let x = item_of c.args.item.module.now (givens_view c.args.item.overrides.now) (ones_view c.args.item.ones.now) in
    let m = module_view c.args.of.now.module.now in
    let os = overrides_view c.args.of.now.overrides.items in
    let left : drop c.loop-one.one-index c.args.ones.now ≡ [] = grind (arith, common_steps) in
    let still : OnesGo c.args.ground.base ms c.args.depth given g c.args.item.place x m os (ones_view []) c.args.numbers c.loop-one.walk c.loop-one.walk = still_goes c.loop-one.walk c.args.numbers in
    c.loop-one.invariant.goes c.loop-one.walk (subst (λ ys. OnesGo c.args.ground.base ms c.args.depth given g c.args.item.place x m os (ones_view ys) c.args.numbers c.loop-one.walk c.loop-one.walk) (sym left) still)

pub instances::walk_one-is_declared_here-requires : goal.instances::walk_one-is_declared_here-requires
instances::walk_one-is_declared_here-requires t c =
    let given = instantiation_view c.args.body.now.given.now in
    subst (λ ds. AreDistinct (map name_of ds)) (sym c.requires.declared) (declared_distinct given.overrides given.of_module)

pub instances::walk_one-returns-then-not-is_declared_here : goal.instances::walk_one-returns-then-not-is_declared_here
instances::walk_one-returns-then-not-is_declared_here t c =
    let given = instantiation_view c.args.body.now.given.now in
    let x = item_of c.args.item.module.now (givens_view c.args.item.overrides.now) (ones_view c.args.item.ones.now) in
    let o = one_view c.args.one.now in
    one_still c.args.walk.now c.args.numbers (modules_view c.args.ground.modules.now.modules.now) c.args.depth given (binding_of c.args.scope.now) c.args.item.place x (module_view c.args.of.now.module.now) (overrides_view c.args.of.now.overrides.items) o
    (λ b i. ap (λ ds. list_any (λ d. bytes_eq d.name.name o.name.name && is_same_place d.name.place o.name.place) ds) (sym c.requires.declared) ∙ sym c.is_declared_here.ensures ∙ c.if-not-is_declared_here.true)

pub instances::walk_one-walk_instance-requires : goal.instances::walk_one-walk_instance-requires
instances::walk_one-walk_instance-requires t c =
    let w = c.args.walk.now in
    let fs : List Fault = faults_of c.args.scope.now c.args.item.module.now c.args.of.now c.as_slice-given.result.now in
    let faults : WalksBy c.args.ground.base w (record w { tally = c.check_ports.new.tally }) (λ b st. meet (met_faults fs) st) = faults_walk {w = w} fs c.in_ok-found.ensures.met refl refl in
    let inner = c.in_ok-inner.ensures 0 0 (binding_of c.args.scope.now) c.in_ok-found.ensures.how in
    (search rules, (c.requires.base, ((walks_kept faults c.requires.kept).kept.few, subst IsCountable (sym (ap (λ i. i.of_module) inner)) c.args.of.now.countable)))

pub instances::walk_one-walk_ports-requires-clause-kept : goal.instances::walk_one-walk_ports-requires-clause-kept
instances::walk_one-walk_ports-requires-clause-kept t c =
    let w = c.args.walk.now in
    let fs : List Fault = faults_of c.args.scope.now c.args.item.module.now c.args.of.now c.as_slice-given.result.now in
    let faults : WalksBy c.args.ground.base w (record w { tally = c.check_ports.new.tally }) (λ b st. meet (met_faults fs) st) = faults_walk {w = w} fs c.in_ok-found.ensures.met refl refl in
    (walks_kept c.in_ok-entered.ensures.walks (walks_kept faults c.requires.kept).kept).kept

pub instances::walk_one-walk_ports-requires-clause-clear : goal.instances::walk_one-walk_ports-requires-clause-clear
instances::walk_one-walk_ports-requires-clause-clear t c clean =
    let w = c.args.walk.now in
    let fs : List Fault = faults_of c.args.scope.now c.args.item.module.now c.args.of.now c.as_slice-given.result.now in
    let faults : WalksBy c.args.ground.base w (record w { tally = c.check_ports.new.tally }) (λ b st. meet (met_faults fs) st) = faults_walk {w = w} fs c.in_ok-found.ensures.met refl refl in
    let first = walks_kept faults c.requires.kept in
    c.requires.clear (first.clean ((walks_kept c.in_ok-entered.ensures.walks first.kept).clean clean))

pub instances::walk_one-walk_ports-requires-clause-how : goal.instances::walk_one-walk_ports-requires-clause-how
instances::walk_one-walk_ports-requires-clause-how t c =
    let g = binding_of c.args.scope.now in
    ap (map joined_view) c.deref-in-Some.ensures.value ∙ c.in_ok-found.ensures.how ∙ ap (λ js. map (λ j. joining g j.port j.label j.value) (ports_view js)) (sym c.deref.ensures.value)

pub instances::walk_one-walk_ports-requires-clause-few : goal.instances::walk_one-walk_ports-requires-clause-few
instances::walk_one-walk_ports-requires-clause-few t c =
    let g = binding_of c.args.scope.now in
    let cs = givens_view c.as_slice-given.result.now in
    let few : connections_nodes g cs < 2 ^ 32 = omega (arith, c.requires.few, ap (λ ys. connections_nodes g (givens_view ys)) c.as_slice-given.ensures) in
    let all = joined_fewer (2 ^ 32) g (overrides_view c.args.of.now.overrides.items) (module_view c.args.of.now.module.now) c.args.item.module.now cs few in
    subst (HaveFewer (2 ^ 32) g) (sym c.in_ok-found.ensures.ports ∙ ap ports_view (sym c.deref.ensures.value)) all

pub instances::walk_one-returns-in-Some : goal.instances::walk_one-returns-in-Some
instances::walk_one-returns-in-Some t c =
    let base = c.args.ground.base in
    let g = binding_of c.args.scope.now in
    let ms = modules_view c.args.ground.modules.now.modules.now in
    let given = instantiation_view c.args.body.now.given.now in
    let label = c.args.item.module.now in
    let p = c.args.item.place in
    let x = item_of label (givens_view c.args.item.overrides.now) (ones_view c.args.item.ones.now) in
    let m = module_view c.args.of.now.module.now in
    let os = overrides_view c.args.of.now.overrides.items in
    let o = one_view c.args.one.now in
    let js = ports_view c.in_ok-found.found.ports.items in
    let inner = instantiation_view c.in_ok-inner.inner in
    let inside = binding_of c.in-Some.inside in
    let fs : List Fault = faults_of c.args.scope.now label c.args.of.now c.as_slice-given.result.now in
    let told : Walk = record c.args.walk.now { tally = c.check_ports.new.tally } in
    let faults : WalksBy base c.args.walk.now told (λ b st. meet (met_faults fs) st) = faults_walk fs c.in_ok-found.ensures.met refl refl in
    let scope = rw c.in-Some.is at c.in_ok-entered.ensures.scope in
    let found : (before : Tally) (b : ℕ) (st : Sofar) → IsAt before base b told st → inside ≡ (context b inner st).scope = λ before b st at. scope.1 ∙ scope_numbers inner at scope.0 in
    on_ok_weaker c.walk_ports.result (λ joins.
    one_goes ms c.args.depth given g p x m os o inner js fs
    (λ b i. ap (λ ds. list_any (λ d. bytes_eq d.name.name o.name.name && is_same_place d.name.place o.name.place) ds) (sym c.requires.declared) ∙ sym c.is_declared_here.ensures ∙ c.if-not-is_declared_here.false)
    (c.in_ok-found.ensures.ports ∙ ap (λ ys. joined_ports os m label (givens_view ys)) c.as_slice-given.ensures)
    (ap (λ ys. connections_faults g os m label (givens_view ys)) c.as_slice-given.ensures)
    (λ b i. c.in_ok-inner.ensures b i g c.in_ok-found.ensures.how)
    (replaced_goes ms c.args.depth given g inside p inner js fs faults c.in_ok-entered.ensures.walks found
    (subst (λ ys. GoesBy base c.walk_instance.new.walk c.args.numbers c.walk_ports.new.walk c.args.numbers (λ b i l n st. join_ports (around_here b given i g) p inside (ports_view ys) st) 0 0) c.deref.ensures.value (joins given))))
    c.walk_ports.ensures

pub instances::walk_one-returns : goal.instances::walk_one-returns
instances::walk_one-returns t c =
    let base = c.args.ground.base in
    let g = binding_of c.args.scope.now in
    let ms = modules_view c.args.ground.modules.now.modules.now in
    let given = instantiation_view c.args.body.now.given.now in
    let label = c.args.item.module.now in
    let p = c.args.item.place in
    let x = item_of label (givens_view c.args.item.overrides.now) (ones_view c.args.item.ones.now) in
    let m = module_view c.args.of.now.module.now in
    let os = overrides_view c.args.of.now.overrides.items in
    let o = one_view c.args.one.now in
    let js = ports_view c.in_ok-found.found.ports.items in
    let inner = instantiation_view c.in_ok-inner.inner in
    let fs : List Fault = faults_of c.args.scope.now label c.args.of.now c.as_slice-given.result.now in
    let told : Walk = record c.args.walk.now { tally = c.check_ports.new.tally } in
    let faults : WalksBy base c.args.walk.now told (λ b st. meet (met_faults fs) st) = faults_walk fs c.in_ok-found.ensures.met refl refl in
    let ended = rw c.in-None.is at c.in_ok-entered.ensures.scope in
    one_goes ms c.args.depth given g p x m os o inner js fs
    (λ b i. ap (λ ds. list_any (λ d. bytes_eq d.name.name o.name.name && is_same_place d.name.place o.name.place) ds) (sym c.requires.declared) ∙ sym c.is_declared_here.ensures ∙ c.if-not-is_declared_here.false)
    (c.in_ok-found.ensures.ports ∙ ap (λ ys. joined_ports os m label (givens_view ys)) c.as_slice-given.ensures)
    (ap (λ ys. connections_faults g os m label (givens_view ys)) c.as_slice-given.ensures)
    (λ b i. c.in_ok-inner.ensures b i g c.in_ok-found.ensures.how)
    (replaced_ends ms c.args.depth given g p inner js fs faults c.in_ok-entered.ensures.walks ended)

pub instances::walk_instance-walk_items-requires : goal.instances::walk_instance-walk_items-requires
instances::walk_instance-walk_items-requires t c =
    let e = rw c.in-Some.is at c.in_ok-found.ensures in
    let g = binding_of c.in-Some.field-0.scope in
    let numbers = c.in-Some.field-0.numbers in
    let room = module_room (instantiation_view c.args.given.now).of_module g numbers c.requires.countable e.opens.line e.opens.node in
    let few = subst (λ xs. HaveRoom numbers (items_lines (items_view xs)) (items_room g (items_view xs))) (sym c.as_slice-items.ensures) room in
    (search rules, (c.requires.base, (e.declared, (e.kept, (e.clear, few)))))

pub instances::walk_instance-returns-then-depth-eq0-clause-walks : goal.instances::walk_instance-returns-then-depth-eq0-clause-walks
instances::walk_instance-returns-then-depth-eq0-clause-walks t c =
    let w = c.args.walk.now in
    let i = instantiation_view c.args.given.now in
    let ms = modules_view c.args.ground.modules.now.modules.now in
    let later : Walk = record w { tally = c.fault.new.self } in
    let met : c.fault.new.self ≡ after_all w.tally (met_faults (limit_fault Instances i.item ∷ [])) = c.fault.ensures ∙ ap (λ f. after w.tally (met_fault f)) c.limit.ensures in
    subst (λ d. WalksBy c.args.ground.base w later (λ b st. instance b ms d i st)) (sym c.if-depth-eq0.true) (faults_walk (limit_fault Instances i.item ∷ []) met refl refl)

pub instances::walk_instance-returns-then-depth-eq0-clause-scope : goal.instances::walk_instance-returns-then-depth-eq0-clause-scope
instances::walk_instance-returns-then-depth-eq0-clause-scope t c =
    let i = instantiation_view c.args.given.now in
    ap (λ u. u.ended) (c.fault.ensures ∙ ap (λ f. after c.args.walk.now.tally (met_fault f)) c.limit.ensures) ∙ limit_ends c.args.walk.now.tally (limit_fault Instances i.item) refl

pub instances::walk_instance-returns-then-depth-eq0-clause-few : goal.instances::walk_instance-returns-then-depth-eq0-clause-few
instances::walk_instance-returns-then-depth-eq0-clause-few t c still =
    let i = instantiation_view c.args.given.now in
    let ended = ap (λ u. u.ended) (c.fault.ensures ∙ ap (λ f. after c.args.walk.now.tally (met_fault f)) c.limit.ensures) ∙ limit_ends c.args.walk.now.tally (limit_fault Instances i.item) refl in
    absurd (false≢true (sym still ∙ ended))

pub instances::walk_instance-returns-in-None-clause-walks : goal.instances::walk_instance-returns-in-None-clause-walks
instances::walk_instance-returns-in-None-clause-walks t c =
    let i = instantiation_view c.args.given.now in
    let ms = modules_view c.args.ground.modules.now.modules.now in
    let passed = rw c.in-None.is at c.in_ok-found.ensures in
    let deep : suc (c.args.depth - 1) ≡ c.args.depth = omega arith in
    subst (λ d. WalksBy c.args.ground.base c.args.walk.now c.enter.new.walk (λ b st. instance b ms d i st)) deep (instance_ends ms (c.args.depth - 1) i passed.opens passed.ended)

pub instances::walk_instance-returns-in-None-clause-scope : goal.instances::walk_instance-returns-in-None-clause-scope
instances::walk_instance-returns-in-None-clause-scope t c = let passed = rw c.in-None.is at c.in_ok-found.ensures in passed.ended

pub instances::walk_instance-returns-in-None-clause-few : goal.instances::walk_instance-returns-in-None-clause-few
instances::walk_instance-returns-in-None-clause-few t c still = let passed = rw c.in-None.is at c.in_ok-found.ensures in absurd (false≢true (sym still ∙ passed.ended))

pub instances::walk_instance-returns-in_ok-walk_items-in-Some-clause-walks : goal.instances::walk_instance-returns-in_ok-walk_items-in-Some-clause-walks
instances::walk_instance-returns-in_ok-walk_items-in-Some-clause-walks t c =
    let base = c.args.ground.base in
    let i = instantiation_view c.args.given.now in
    let g = binding_of c.in-Some.field-0.scope in
    let ms = modules_view c.args.ground.modules.now.modules.now in
    let below = c.args.depth - 1 in
    let e = rw c.in-Some.is at c.in_ok-found.ensures in
    let deep : suc below ≡ c.args.depth = omega arith in
    let goes : ItemsGo base ms below i g i.of_module.items c.enter.new.walk c.in-Some.field-0.numbers c.walk_items.new.walk c.walk_items.new.numbers =
    subst (λ xs. ItemsGo base ms below i g (items_view xs) c.enter.new.walk c.in-Some.field-0.numbers c.walk_items.new.walk c.walk_items.new.numbers) c.as_slice-items.ensures c.in_ok-walk_items-in-Some.ensures.goes in
    subst (λ d. WalksBy base c.args.walk.now c.walk_items.new.walk (λ b st. instance b ms d i st)) deep (instance_walks ms below i g e.before e.scope e.opens e.still goes)

pub instances::walk_instance-returns-in_ok-walk_items-in-Some-clause-few : goal.instances::walk_instance-returns-in_ok-walk_items-in-Some-clause-few
instances::walk_instance-returns-in_ok-walk_items-in-Some-clause-few t c = let e = rw c.in-Some.is at c.in_ok-found.ensures in (goes_kept (items_lines (items_view c.as_slice-items.result.now)) (items_nodes (binding_of c.in-Some.field-0.scope) (items_view c.as_slice-items.result.now)) c.in_ok-walk_items-in-Some.ensures.goes e.kept).kept.few
