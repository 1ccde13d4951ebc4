use Rattle.std.proofs.Common.{refl}
use Rattle.point_marks.specs.declared.verdict.Verdict.TheVariants.{Hit}
use Rattle.signal_marks.proofs.Masks.{hit_open, set_seen}
use Rattle.signal_marks.proofs.laws.seen_hit_law.Goals as goal

pub returns : goal.returns
returns c d ps ms vs k l seen = set_seen vs k Hit l d ps ms (λ e. refl) (λ h. hit_open) seen
