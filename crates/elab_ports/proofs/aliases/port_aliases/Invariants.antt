use Rattle.std.proofs.Common.{◌≡◌, length}
use Rattle.flat_design.specs.Instances.{alias_number}
use Rattle.elab_scope.specs.NameMap.{bound_to}
use Rattle.elab_ports.specs.FirstBound.{or_bound}
use Rattle.elab_ports.proofs.AliasLemmas.{aliases_from}
use Rattle.elab_ports.proofs.aliases.port_aliases.Given as goal

-- the aliases so far, and after them those of the ports that are left, are all
abbrev pub invariant-loop-port : goal.invariant-loop-port
invariant-loop-port l = or_bound (bound_to l.aliases) (alias_number (aliases_from l.ports l.joined (length l.yielded))) ≡ alias_number (aliases_from l.fn.ports l.fn.joined 0)
