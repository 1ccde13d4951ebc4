use Rattle.clocked_laws.proofs.Kept.{clocked_flushed, clocked_made, unassigned}
use Rattle.clocked_laws.proofs.clocked_made_law.Goals as goal

pub returns-clause-unassigned : goal.returns-clause-unassigned
returns-clause-unassigned c st x none = unassigned st x none

pub returns-clause-flushed : goal.returns-clause-flushed
returns-clause-flushed c st runs x away = clocked_flushed st runs x away

pub returns-clause-made : goal.returns-clause-made
returns-clause-made c st runs x away firm = clocked_made st runs x away firm
