-- What is known of the outside of a host in memory with planned faults, and what is planned.
use Rattle.std.specs.Prelude.{ℕ, Bool, List}
use Rattle.cov_host.specs.Outside.{Outside}
use Rattle.memory_hosts.specs.SureHost.{sure_outside}
use Rattle.memory_hosts.specs.declared.memory_host.MemoryHost.{MemoryHost}

-- all that the outside has
abbrev pub memory_outside : MemoryHost → Outside
memory_outside host = record (sure_outside host.sure) { faults = host.planned.faults }

-- which calls are to fail, how many there were, and whether each read and each write moves at most one byte
pub record Plan : Type 0 where
  pub failing : List ℕ
  pub calls : ℕ
  pub by_one_byte : Bool

-- what is planned for a host
abbrev pub memory_plan : MemoryHost → Plan
memory_plan host = record { failing = host.planned.failing; calls = host.planned.calls; by_one_byte = host.by_one_byte }
