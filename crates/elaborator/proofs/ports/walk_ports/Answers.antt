use Rattle.std.proofs.Common.{◌≡◌, [], ◌≤◌, ◌^◌, min, ap, drop, length, sym, subst, arith}
use Rattle.std.proofs.lemmas.List.{drop_all, length_push, length-map}
use Rattle.std.proofs.lemmas.Slice.Zip.{zip_end, zip_turn}
use Rattle.flat_design.specs.Flat.{join_ports}
use Rattle.flat_design.specs.Scope.{binding_of}
use Rattle.elab_ports.specs.PortView.{ports_view}
use Rattle.elaborator.specs.Walk.{GoesBy, around_here}
use Rattle.elaborator.proofs.JoinedNodes.{fewer_at}
use Rattle.elaborator.proofs.KeptLemmas.{goes_kept, keeps_still, keeps_twice}
use Rattle.elaborator.proofs.StepLemmas.{still_goes}
use Rattle.elaborator.proofs.WalkPorts.{joined_at, no_instance, ports_next}
use Rattle.elaborator.proofs.ports.walk_ports.Goals as goal

pub loop-port-init : goal.loop-port-init
loop-port-init c = record { goes = λ later given goes. goes; keeps = keeps_still c.args.walk.now c.requires.kept }

pub walk_port-requires-clause-clear : goal.walk_port-requires-clause-clear
walk_port-requires-clause-clear c clean = c.requires.clear (c.loop-port.invariant.keeps.clean clean)

pub walk_port-requires-clause-how : goal.walk_port-requires-clause-how
walk_port-requires-clause-how c =
    let js = c.args.ports.now in
    let ks = c.args.joined.now in
    let turn = zip_turn js ks c.loop-port.yielded c.into_iter-port-iterator.result c.loop-port.port-iterator c.next.new.self c.next.result (cc) (cc) c.loop-port.yielded_by (c.in-Some.port, c.in-Some.one) c.in-Some.is c.next.ensures.steps in
    joined_at (binding_of c.args.outside.now) js ks (length c.loop-port.yielded) c.in-Some.port.now c.in-Some.one.now turn.0 turn.1 (turn.2 c.in-Some.port.now) (turn.3 c.in-Some.one.now) c.requires.how

pub walk_port-requires-clause-few : goal.walk_port-requires-clause-few
walk_port-requires-clause-few c =
    let js = c.args.ports.now in
    let ks = c.args.joined.now in
    let turn = zip_turn js ks c.loop-port.yielded c.into_iter-port-iterator.result c.loop-port.port-iterator c.next.new.self c.next.result (cc) (cc) c.loop-port.yielded_by (c.in-Some.port, c.in-Some.one) c.in-Some.is c.next.ensures.steps in
    fewer_at (2 ^ 32) (binding_of c.args.outside.now) js (length c.loop-port.yielded) c.in-Some.port.now turn.0 (turn.2 c.in-Some.port.now) c.requires.few

pub loop-port-preserved : goal.loop-port-preserved
loop-port-preserved c =
    let js = c.args.ports.now in
    let ks = c.args.joined.now in
    let n = length c.loop-port.yielded in
    let g = binding_of c.args.outside.now in
    let inside = binding_of c.args.inside.now in
    let turn = zip_turn js ks c.loop-port.yielded c.into_iter-port-iterator.result c.loop-port.port-iterator c.next.new.self c.next.result (cc) (cc) c.loop-port.yielded_by (c.in-Some.port, c.in-Some.one) c.in-Some.is c.next.ensures.steps in
    record {
      goes = λ later given goes.
          let rest = subst (λ m. GoesBy c.args.ground.base c.walk_port.new.walk c.args.numbers later c.args.numbers (λ b i l k st. join_ports (around_here b given i g) c.args.place inside (ports_view (drop m js)) st) 0 0) (length_push c.loop-port.yielded (c.in-Some.port, c.in-Some.one)) goes in
          c.loop-port.invariant.goes later given (ports_next given g inside c.args.place js n c.in-Some.port.now turn.0 (turn.2 c.in-Some.port.now) (c.in_ok-walk_port.ensures given) rest);
      keeps = keeps_twice c.loop-port.invariant.keeps (goes_kept 0 0 (c.in_ok-walk_port.ensures no_instance) c.loop-port.invariant.keeps.kept);
    }

pub returns : goal.returns
returns c =
    λ given.
    let js = c.args.ports.now in
    let ks = c.args.joined.now in
    let n = length c.loop-port.yielded in
    let end' : n ≡ min (length js) (length ks) = zip_end js ks c.loop-port.yielded c.into_iter-port-iterator.result c.loop-port.port-iterator c.next.new.self c.next.result (cc) (cc) c.loop-port.yielded_by c.in-None.is c.next.ensures.steps in
    let long : length ks ≡ length js = simp length-map at (ap length c.requires.how) in
    let over : length js ≤ n = omega arith in
    let left : drop n js ≡ [] = drop_all n js over in
    let still = still_goes {base = c.args.ground.base} c.loop-port.walk c.args.numbers in
    c.loop-port.invariant.goes c.loop-port.walk given (subst (λ xs. GoesBy c.args.ground.base c.loop-port.walk c.args.numbers c.loop-port.walk c.args.numbers (λ b i l k st. join_ports (around_here b given i (binding_of c.args.outside.now)) c.args.place (binding_of c.args.inside.now) (ports_view xs) st) 0 0) (sym left) still)
