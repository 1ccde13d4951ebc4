use Rattle.std.proofs.Common.{◌≡◌, ◌+◌, [], drop, ap, arith}
use Rattle.std.proofs.lemmas.Grind.{common_steps}
use Rattle.verilog_tree.specs.View.{declared_view, declareds_view}
use Rattle.flat_design.specs.Numbering.{values_nodes}
use Rattle.flat_design.specs.Scope.{binding_of}
use Rattle.elaborator.proofs.NetLemmas.{nets_next, nets_split, no_nets}
use Rattle.elaborator.proofs.nets.walk_nets.Goals as goal

pub loop-name-init : goal.loop-name-init
loop-name-init c = record { goes = λ later others rest. rest; clean = λ clean. clean; line = omega arith; node = omega arith }

pub walk_net-requires : goal.walk_net-requires
walk_net-requires c =
    let split = ap (values_nodes (binding_of c.args.scope.now)) (nets_split c.args.names.now c.loop-name.name-index c.name-item.result c.loop-name-test.true c.name-item.is) in
    record { base = c.requires.base; clear = λ clean. c.requires.clear (c.loop-name.invariant.clean clean); few = omega (arith, split, c.loop-name.invariant.node, c.requires.few) }

pub loop-name-preserved : goal.loop-name-preserved
loop-name-preserved c =
    let i = c.loop-name.name-index in
    let xs = c.args.names.now in
    let x = c.name-item.result in
    let split = ap (values_nodes (binding_of c.args.scope.now)) (nets_split xs i x c.loop-name-test.true c.name-item.is) in
    let few = c.in_ok-walk_net.ensures.few in
    record {
      goes = λ later others rest.
          c.loop-name.invariant.goes later others
          (nets_next c.args.ground.base (binding_of c.args.scope.now) c.args.place c.loop-name.walk c.walk_net.new.walk later c.loop-name.numbers c.walk_net.new.numbers others
          (declared_view x) (declareds_view (drop (i + 1) xs)) (declareds_view (drop i xs)) (nets_split xs i x c.loop-name-test.true c.name-item.is) c.in_ok-walk_net.ensures.goes rest);
      clean = λ clean. c.loop-name.invariant.clean (c.in_ok-walk_net.ensures.clean clean);
      line = omega (arith, few.0, c.loop-name.invariant.line);
      node = omega (arith, split, few.1, c.loop-name.invariant.node);
    }

pub returns-clause-goes : goal.returns-clause-goes
returns-clause-goes c =
    let rest = declareds_view (drop c.loop-name.name-index c.args.names.now) in
    let over : rest ≡ [] = grind (arith, common_steps) in
    c.loop-name.invariant.goes c.loop-name.walk c.loop-name.numbers (no_nets c.args.ground.base (binding_of c.args.scope.now) c.args.place c.loop-name.walk c.loop-name.numbers rest over)

pub returns-clause-clean : goal.returns-clause-clean
returns-clause-clean c = c.loop-name.invariant.clean

pub returns-clause-few : goal.returns-clause-few
returns-clause-few c = (omega (arith, c.loop-name.invariant.line), omega (arith, c.loop-name.invariant.node))
