use Rattle.std.proofs.Common.{◌+◌, ◌≤◌, drop}
use Rattle.verilog_tree.specs.View.{declareds_view}
use Rattle.flat_design.specs.Numbering.{values_nodes}
use Rattle.flat_design.specs.Scope.{binding_of}
use Rattle.elaborator.specs.Walk.{IsClean}
use Rattle.elaborator.specs.declared.walk.Numbers.{Numbers}
use Rattle.elaborator.specs.declared.walk.Walk.{Walk}
use Rattle.elaborator.proofs.NetLemmas.{GoesByNets}
use Rattle.elaborator.proofs.nets.walk_nets.Given as goal

-- a walk that goes on by the values of the rest has gone by all
abbrev pub invariant-loop-name : goal.invariant-loop-name
invariant-loop-name l =
    let base = l.fn.ground.base in
    let g = binding_of l.fn.scope in
    record {
      goes :
          (later : Walk) (others : Numbers) → GoesByNets base g l.fn.place l.walk l.numbers later others (declareds_view (drop l.name-index l.names)) →
          GoesByNets base g l.fn.place l.fn.walk l.fn.numbers later others (declareds_view l.fn.names);
      clean : IsClean l.walk.tally → IsClean l.fn.walk.tally;
      line : l.numbers.line ≤ l.fn.numbers.line;
      node : l.numbers.node + values_nodes g (declareds_view (drop l.name-index l.names)) ≤ l.fn.numbers.node + values_nodes g (declareds_view l.fn.names);
    }
