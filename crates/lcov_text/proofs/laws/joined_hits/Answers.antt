use Rattle.lcov_text.proofs.JoinedHits.{joined_hits}
use Rattle.lcov_text.proofs.laws.joined_hits.Goals as goal

pub returns : goal.returns
returns c = joined_hits
