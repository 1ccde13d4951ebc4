use Rattle.scene_laws.proofs.LikeScenes.{terms_alike}
use Rattle.scene_laws.proofs.BodyContexts.{in_contexts}
use Rattle.scene_laws.proofs.LikeWays.{joined_like}
use Rattle.scene_laws.proofs.terms_law.Goals as goal

pub returns-clause-alike : goal.returns-clause-alike
returns-clause-alike c = terms_alike

pub returns-clause-contexts : goal.returns-clause-contexts
returns-clause-contexts c = in_contexts

pub returns-clause-joins : goal.returns-clause-joins
returns-clause-joins c = joined_like
