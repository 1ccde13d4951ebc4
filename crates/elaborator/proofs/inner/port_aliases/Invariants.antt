use Rattle.std.proofs.Common.{◌≡◌, ◌++◌, length}
use Rattle.elab_instances.specs.InstanceView.{aliases_view}
use Rattle.elab_ports.proofs.AliasLemmas.{aliases_from}
use Rattle.elaborator.proofs.inner.port_aliases.Given as goal

-- the aliases so far, with those of the ports that are left, are all
abbrev pub invariant-loop-port : goal.invariant-loop-port
invariant-loop-port l = aliases_view l.aliases.items ++ aliases_from l.ports l.joined (length l.yielded) ≡ aliases_from l.fn.ports l.fn.joined 0
