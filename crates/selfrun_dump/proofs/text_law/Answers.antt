use Rattle.selfrun_dump.proofs.Text.{text_law}
use Rattle.selfrun_dump.proofs.text_law.Goals as goal

pub returns : goal.returns
returns c = text_law
