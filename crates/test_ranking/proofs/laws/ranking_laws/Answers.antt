use Rattle.std.proofs.Common.{ap, ◌∙◌, subst}
use Rattle.test_ranking.specs.PointSet.{no_points, size}
use Rattle.test_ranking.specs.Ranking.{AreUsed}
use Rattle.test_ranking.proofs.MergeHits.{used_hits}
use Rattle.test_ranking.proofs.Uses.{each_adds, one_ranking, used_once}
use Rattle.test_ranking.proofs.laws.ranking_laws.Goals as goal

pub returns-clause-one : goal.returns-clause-one
returns-clause-one c = one_ranking

pub returns-clause-adds : goal.returns-clause-adds
returns-clause-adds c = λ points tables ranking is. each_adds tables (no_points points) ranking.used is.used

pub returns-clause-once : goal.returns-clause-once
returns-clause-once c = λ points tables ranking before after used is split. used_once tables (no_points points) before after used (subst (AreUsed tables (no_points points)) split is.used)

pub returns-clause-hit : goal.returns-clause-hit
returns-clause-hit c = λ first others ranking each is. used_hits first others ranking.used each is.used

pub returns-clause-count : goal.returns-clause-count
returns-clause-count c = λ first others ranking each is. is.hit ∙ ap size (used_hits first others ranking.used each is.used)
