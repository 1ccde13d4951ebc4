-- The exit statuses.
use Rattle.std.specs.Prelude.{ℕ}
use Rattle.covered_cli.specs.declared.status.Status.{Status}
use Rattle.covered_cli.specs.declared.status.Status.TheVariants.{Done, Usage, Source, Dump, Contradiction, Files, Memory, Database}

-- the number that the program ends with
abbrev pub code_of : Status → ℕ
code_of Done = 0
code_of Usage = 1
code_of Source = 2
code_of Dump = 3
code_of Contradiction = 4
code_of Files = 5
code_of Memory = 6
code_of Database = 7
