use Rattle.selfrun_dump.proofs.Says.{says_law}
use Rattle.selfrun_dump.proofs.says_law.Goals as goal

pub returns : goal.returns
returns c = says_law
