use Rattle.verdict_laws.proofs.Written.{written}
use Rattle.verdict_laws.proofs.written_law.Goals as goal

pub returns : goal.returns
returns c d h dump ms ps verdicts a lawful listed times verdicts_are are = written d h dump ms ps verdicts a lawful listed times verdicts_are are
