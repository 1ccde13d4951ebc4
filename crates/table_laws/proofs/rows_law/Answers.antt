use Rattle.table_laws.proofs.EachRow.{lists_each}
use Rattle.table_laws.proofs.rows_law.Goals as goal

pub returns : goal.returns
returns c d sources ps db lawful written listed named is = lists_each d sources ps db lawful written listed named is
