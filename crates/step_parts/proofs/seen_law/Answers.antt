use Rattle.step_parts.proofs.Noted.{seen_more}
use Rattle.step_parts.proofs.seen_law.Goals as goal

pub returns : goal.returns
returns c d ps ms ns more before after old new seen = seen_more d ps ms ns more before after old new seen
