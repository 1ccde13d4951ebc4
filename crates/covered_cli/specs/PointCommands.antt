-- The commands that change points.
use Rattle.command_line.specs.Command.{CommandValues, exclude, restore}
use Rattle.command_line.specs.PointWords.{PointValues}
use Rattle.database_commands.specs.declared.change.Change.{Change}
use Rattle.database_commands.specs.declared.change.Change.TheVariants as change

-- the command that makes the change
abbrev pub points_command : Change → PointValues → CommandValues
points_command change.Exclude values = exclude values
points_command change.Restore values = restore values
