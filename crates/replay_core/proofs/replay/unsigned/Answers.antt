use Rattle.std.proofs.Common.{◌∙◌}
use Rattle.replay_core.proofs.Changes.{unsigned_is}
use Rattle.replay_core.proofs.replay.unsigned.Goals as goal

pub returns : goal.returns
returns c = c.extend.ensures ∙ unsigned_is c.args.value.now c.width.result c.width.ensures.value
