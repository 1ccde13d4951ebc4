use Rattle.coverage_db.proofs.Splitting.{stripped}
use Rattle.point_lookup.proofs.split.behind.Goals as goal

pub returns : goal.returns
returns c = stripped c.args.front.now c.args.bytes.now c.strip_prefix.result c.strip_prefix.ensures.cases
