use Rattle.signal_marks.proofs.Masks.{none_seen, nothing_at}
use Rattle.signal_marks.proofs.seen.SignalMarks.new.Goals as goal

pub returns-clause-seen : goal.returns-clause-seen
returns-clause-seen c =
    λ d ps vs. none_seen d ps c.in_ok-masks.masks.items vs (λ s. nothing_at c.args.signals s c.in_ok-masks.masks.items (c.in_ok-masks.ensures.items_if_clones_equal (λ y is. is)))
