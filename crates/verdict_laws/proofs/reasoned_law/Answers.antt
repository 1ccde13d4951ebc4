use Rattle.verdict_laws.proofs.Rows.{reasoned_table}
use Rattle.verdict_laws.proofs.reasoned_law.Goals as goal

pub returns : goal.returns
returns c d h dump sources ms ps verdicts a db lawful written listed named is table shown verdicts_are are = reasoned_table d h dump sources ms ps verdicts a db lawful written listed named is table shown verdicts_are are
