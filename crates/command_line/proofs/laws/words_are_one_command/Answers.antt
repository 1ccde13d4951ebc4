use Rattle.command_line.proofs.OneCommand.{one_of_all}
use Rattle.command_line.proofs.laws.words_are_one_command.Goals as goal

pub returns : goal.returns
returns c = one_of_all
