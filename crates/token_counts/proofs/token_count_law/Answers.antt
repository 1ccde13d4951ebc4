use Rattle.token_counts.proofs.FewTokens.{few_tokens}
use Rattle.token_counts.proofs.token_count_law.Goals as goal

pub returns : goal.returns
returns c sources defines tokens are = few_tokens sources defines tokens are
