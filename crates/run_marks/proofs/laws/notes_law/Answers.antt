use Rattle.run_marks.proofs.RunNotes.{notes_are}
use Rattle.run_marks.proofs.laws.notes_law.Goals as goal

pub returns : goal.returns
returns c d p st how lawful = notes_are d p lawful st how
