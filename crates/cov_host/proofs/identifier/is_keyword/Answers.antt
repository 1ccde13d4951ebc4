use Rattle.cov_host.specs.Identifier.{is_reserved}
use Rattle.cov_host.proofs.identifier.is_keyword.Goals as goal

pub returns : goal.returns
unfolding is_reserved
returns c = c.is_among.ensures
