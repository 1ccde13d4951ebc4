-- The statuses with which the faults of the stages end.
use Rattle.database_commands.specs.declared.fault.CommandFault.{CommandFault}
use Rattle.database_commands.specs.declared.fault.CommandFault.TheVariants as database_fault
use Rattle.design_points.specs.cover_points.declared.fault.PointFault.{PointFault}
use Rattle.design_points.specs.cover_points.declared.fault.PointFault.TheVariants.{NoMemory}
use Rattle.source_design.specs.declared.fault.SourceFault.{SourceFault}
use Rattle.source_design.specs.declared.fault.SourceFault.TheVariants as source_fault
use Rattle.covered_cli.specs.declared.status.Status.{Status}
use Rattle.covered_cli.specs.declared.status.Status.TheVariants.{Files, Memory, Source, Database}

-- the status with which a fault of sources ends
abbrev pub source_status : SourceFault → Status
source_status source_fault.NoMemory = Memory
source_status (source_fault.File call file) = Files
source_status (source_fault.Included call path) = Files
source_status (source_fault.Refused refusal) = Source

-- the status with which a fault of points ends
abbrev pub points_status : PointFault → Status
points_status NoMemory = Memory
points_status other = Source

-- the status with which a fault of a command over databases ends
abbrev pub database_status : CommandFault → Status
database_status (database_fault.Files call file) = Files
database_status database_fault.Print = Files
database_status database_fault.Memory = Memory
database_status (database_fault.NoDatabase file kind line) = Database
database_status (database_fault.DesignsDiffer file line first other) = Database
database_status (database_fault.Point file refusal address) = Database
