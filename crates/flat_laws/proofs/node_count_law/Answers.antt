use Rattle.flat_laws.proofs.node_count_law.Goals as goal
use Rattle.flat_laws.proofs.NodeCounts.{same_statement_nodes}

pub returns : goal.returns
returns c g h same s = same_statement_nodes g h same s
