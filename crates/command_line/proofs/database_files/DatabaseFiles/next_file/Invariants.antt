use Rattle.std.proofs.Common.{◌≡◌, length}
use Rattle.command_line.specs.DatabaseFiles.{files_of}
use Rattle.command_line.specs.WordsLeft.{left_words}
use Rattle.command_line.proofs.database_files.DatabaseFiles.next_file.Given as goal

-- no database was passed over
abbrev pub invariant-loop-word : goal.invariant-loop-word
invariant-loop-word l = files_of l.self ≡ files_of l.fn.self

abbrev pub decreases-loop-word : goal.decreases-loop-word
decreases-loop-word l = length (left_words l.self.words)
