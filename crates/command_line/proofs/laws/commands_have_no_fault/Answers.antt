use Rattle.command_line.proofs.Outcome.{command_without_fault}
use Rattle.command_line.proofs.laws.commands_have_no_fault.Goals as goal

pub returns : goal.returns
returns c = command_without_fault
