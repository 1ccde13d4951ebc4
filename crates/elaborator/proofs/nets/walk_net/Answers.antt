use Rattle.std.proofs.Common.{ap, arith}
use Rattle.verilog_tree.specs.View.{declared_view, expr_option_view, expr_view}
use Rattle.flat_design.specs.Scope.{binding_of}
use Rattle.elaborator.proofs.NetLemmas.{with_value}
use Rattle.elaborator.proofs.nets.walk_net.Goals as goal

pub returns-in-Some-clause-goes : goal.returns-in-Some-clause-goes
returns-in-Some-clause-goes c =
    with_value c.args.ground.base (binding_of c.args.scope.now) c.args.place c.walk_value.result c.args.walk.now c.walk_value.new.walk c.args.numbers.now c.walk_value.new.numbers
    (declared_view c.args.net.now) (expr_view c.in-Some.value) (ap expr_option_view c.in-Some.is) c.walk_value.ensures.goes

pub walk_value-requires-clause-few : goal.walk_value-requires-clause-few
walk_value-requires-clause-few c =
    let few = rw c.in-Some.is at c.requires.few in
    omega (arith, few)

pub returns-in-Some-clause-few : goal.returns-in-Some-clause-few
returns-in-Some-clause-few c = rw c.in-Some.is c.walk_value.ensures.few
