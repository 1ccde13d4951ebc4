use Rattle.point_marks.specs.Marking.{with_doubt}
use Rattle.signal_marks.specs.Toggled.{verdict_of}
use Rattle.signal_marks.proofs.Masks.{keeps_hit, keeps_open, set_seen}
use Rattle.signal_marks.proofs.laws.seen_doubt_law.Goals as goal

pub returns : goal.returns
returns c d ps ms vs k y l seen = set_seen vs k (with_doubt y (verdict_of vs k)) l d ps ms (λ e. keeps_hit y (verdict_of vs k) e) (λ h. keeps_open y (verdict_of vs k)) seen
