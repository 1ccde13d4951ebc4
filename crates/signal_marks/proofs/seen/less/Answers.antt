use Rattle.signal_marks.proofs.Masks.{without_at}
use Rattle.signal_marks.proofs.seen.less.Goals as goal

pub returns : goal.returns
returns c = without_at c.args.places c.args.seen c.ranges.seen.fits
