use Rattle.std.proofs.Common.{drop, length}
use Rattle.flat_design.specs.Flat.{join_ports}
use Rattle.flat_design.specs.Instances.{Instantiation}
use Rattle.flat_design.specs.Scope.{binding_of}
use Rattle.elab_ports.specs.PortView.{ports_view}
use Rattle.elaborator.specs.Walk.{GoesBy, around_here}
use Rattle.elaborator.specs.declared.walk.Walk.{Walk}
use Rattle.elaborator.proofs.KeptLemmas.{Keeps}
use Rattle.elaborator.proofs.ports.walk_ports.Given as goal

-- what goes on from here by the ports that are left goes on from the start by all
abbrev pub invariant-loop-port : goal.invariant-loop-port
invariant-loop-port l =
    record {
      goes : (later : Walk) (given : Instantiation) →
          GoesBy l.fn.ground.base l.walk l.fn.numbers later l.fn.numbers (λ b i m n st. join_ports (around_here b given i (binding_of l.fn.outside)) l.fn.place (binding_of l.fn.inside) (ports_view (drop (length l.yielded) l.fn.ports)) st) 0 0 →
          GoesBy l.fn.ground.base l.fn.walk l.fn.numbers later l.fn.numbers (λ b i m n st. join_ports (around_here b given i (binding_of l.fn.outside)) l.fn.place (binding_of l.fn.inside) (ports_view l.fn.ports) st) 0 0;
      keeps : Keeps l.fn.walk l.walk;
    }
