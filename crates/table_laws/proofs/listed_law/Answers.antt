use Rattle.table_laws.proofs.Listing.{lists_points}
use Rattle.table_laws.proofs.listed_law.Goals as goal

pub returns : goal.returns
returns c d sources machines ps db lawful written listed named is = lists_points d sources machines ps db lawful written listed named is
