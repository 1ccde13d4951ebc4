use Rattle.verdict_laws.proofs.OnePoint.{one_point}
use Rattle.verdict_laws.proofs.one_point_law.Goals as goal

pub returns : goal.returns
returns c d sources ms ps db lawful written listed named is table x k is_point l names = one_point d sources ms ps db lawful written listed named is table x k is_point l names
