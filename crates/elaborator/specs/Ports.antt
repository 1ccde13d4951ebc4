-- The signal that a port is joined with.
use Rattle.std.specs.Prelude.{Option, None, Some}
use Rattle.flat_design.specs.Connections.{Joined, by_assignment}
use Rattle.flat_design.specs.declared.entry.Entry.{Entry}
use Rattle.flat_design.specs.declared.entry.Entry.TheVariants.{Signal}
use Rattle.flat_design.specs.declared.entry.SignalEntry.{SignalEntry}

-- the signal that a port has inside, where it is joined by an assignment
abbrev pub signal_joined : Joined → Option Entry → Option SignalEntry
signal_joined by_assignment (Some (Signal s)) = Some s
signal_joined _ _ = None
