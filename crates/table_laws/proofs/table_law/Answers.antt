use Rattle.table_laws.proofs.Tables.{collected_is}
use Rattle.table_laws.proofs.table_law.Goals as goal

pub returns : goal.returns
returns c d sources ps verdicts db lawful written listed few named all is windows shown = collected_is d sources ps verdicts db lawful written listed few named all is windows shown
