use Rattle.body_store.proofs.ViewLaws.{flush_law, plain_law, seen_law, under_law}
use Rattle.body_store.proofs.laws.views_law.Goals as goal

pub returns : goal.returns
returns c = record { seen = seen_law; under = under_law; plain = plain_law; flush = flush_law }
