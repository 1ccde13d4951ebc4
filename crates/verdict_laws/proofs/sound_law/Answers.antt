use Rattle.verdict_laws.proofs.Rows.{sound_table}
use Rattle.verdict_laws.proofs.sound_law.Goals as goal

pub returns : goal.returns
returns c d h dump sources ms ps verdicts a db lawful written listed named is table shown verdicts_are sound = sound_table d h dump sources ms ps verdicts a db lawful written listed named is table shown verdicts_are sound
