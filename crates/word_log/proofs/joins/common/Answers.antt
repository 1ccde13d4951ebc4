use Rattle.std.proofs.Common.{length, ap, refl, ◌∙◌}
use Rattle.memory_rebuild.proofs.Joins.{length-joined}
use Rattle.word_log.proofs.joins.common.Goals as goal

pub returns-then-first-clause-width : goal.returns-then-first-clause-width
returns-then-first-clause-width c = ap (λ q. length q.bits) c.join.ensures.value ∙ length-joined c.args.value.now.bits c.args.now.now.bits (length c.args.now.now.bits) c.requires.width refl
