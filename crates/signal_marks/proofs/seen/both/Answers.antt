use Rattle.signal_marks.proofs.Masks.{both_at}
use Rattle.signal_marks.proofs.seen.both.Goals as goal

pub returns-clause-rises : goal.returns-clause-rises
returns-clause-rises c = both_at c.args.seen.rises c.args.more.rises

pub returns-clause-falls : goal.returns-clause-falls
returns-clause-falls c = both_at c.args.seen.falls c.args.more.falls

pub returns-clause-may_rise : goal.returns-clause-may_rise
returns-clause-may_rise c = both_at c.args.seen.may_rise c.args.more.may_rise

pub returns-clause-may_fall : goal.returns-clause-may_fall
returns-clause-may_fall c = both_at c.args.seen.may_fall c.args.more.may_fall
