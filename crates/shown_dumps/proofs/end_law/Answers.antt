use Rattle.shown_dumps.proofs.Gap.{end_short, end_two, past_end}
use Rattle.shown_dumps.proofs.end_law.Goals as goal

pub returns-clause-two : goal.returns-clause-two
returns-clause-two c entries before last ends = end_two entries before last ends

pub returns-clause-short : goal.returns-clause-short
returns-clause-short c entries short = end_short entries short

pub returns-clause-past : goal.returns-clause-past
returns-clause-past c codes entries t rises short shown = past_end codes entries t rises short shown
