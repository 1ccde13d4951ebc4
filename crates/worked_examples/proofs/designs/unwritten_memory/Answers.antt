use Rattle.worked_examples.proofs.Design.RomDoubt.{rom_example}
use Rattle.worked_examples.proofs.designs.unwritten_memory.Goals as goal

pub returns : goal.returns
returns c = rom_example
