use Rattle.entry_laws.proofs.Texts.{body_entries}
use Rattle.entry_laws.proofs.entries_law.Goals as goal

pub returns : goal.returns
returns c text b says = body_entries text b says
