use Rattle.std.proofs.Common.{◌≡◌, List, [], drop}
use Rattle.verilog_tree.specs.declared.item.Named.{Named}
use Rattle.elab_scope.specs.Tally.{after_faults}
use Rattle.elab_scope.specs.NameSet.{has}
use Rattle.flat_design.specs.Declarations.{listed_twice}
use Rattle.flat_design.specs.Identifiers.{is_among}
use Rattle.elab_declarations.proofs.declarations.check_listed.Given as goal

-- the set has the names so far, and with the faults of those that are left the tally is the last one
abbrev pub invariant-loop-port : goal.invariant-loop-port
invariant-loop-port l =
    (names : List Named) × (has l.sofar ≡ is_among names) × (after_faults l.tally (listed_twice names (drop l.port-index l.ports)) ≡ after_faults l.fn.tally (listed_twice [] l.fn.ports))
