-- What an `lcov` command writes.
use Rattle.std.specs.Prelude.{◌≡◌, ◌⊎◌, ℕ, List}
use Rattle.cov_host.specs.Outside.{HasFile, Outside, Told}
use Rattle.coverage_db.specs.declared.db.Db.{Db}
use Rattle.command_line.specs.LcovWords.{LcovValues}
use Rattle.lcov_text.specs.Tracefile.{tracefile_text}
use Rattle.whole_files.specs.Refusals.{IsRefused}
use Rattle.whole_files.specs.declared.call.Call.{Call}
use Rattle.database_commands.specs.Complete.{HasTable}
use Rattle.database_commands.specs.Faults.{IsNoTable, IsReading, IsWriting}
use Rattle.database_commands.specs.Files.{HoldsSome, HoldsTable}
use Rattle.database_commands.specs.declared.fault.CommandFault.{CommandFault}
use Rattle.database_commands.specs.declared.fault.CommandFault.TheVariants.{Files, Print, Memory, NoDatabase, DesignsDiffer, Point}

-- the text is the tracefile of the table that the file holds
abbrev pub IsTracedText : LcovValues → Outside → List ℕ → Type 0
IsTracedText lcov before text = (table : Db) × HoldsTable before lcov.file table × (text ≡ tracefile_text table)

-- the file holds a table, the output holds its tracefile, and every other file is as before
pub record IsTracedIn (lcov : LcovValues) (before after : Outside) : Type 0 where
  pub table : Db
  pub holds : HoldsTable before lcov.file table
  pub written : Told (HasFile lcov.output (tracefile_text table)) before.files after.files

-- a call on the file, or on the output where the file holds a table, gave nothing
abbrev pub IsLcovCall : LcovValues → Outside → Outside → Call → List ℕ → Type 0
IsLcovCall lcov before after call file =
    (IsReading call × (file ≡ lcov.file) × IsRefused call file before after)
    ⊎ (IsWriting call × (file ≡ lcov.output) × IsRefused call file before after × HoldsSome before lcov.file)

-- why a tracefile was not written
abbrev pub IsLcovFault : LcovValues → Outside → Outside → CommandFault → Type 0
IsLcovFault lcov before after (Files call file) = IsLcovCall lcov before after call file.now
IsLcovFault lcov before after Print = ⊥
IsLcovFault lcov before after Memory = Unit {0}
IsLcovFault lcov before after (NoDatabase file kind line) = (file.now ≡ lcov.file) × IsNoTable file.now before kind line
IsLcovFault lcov before after (DesignsDiffer file line first other) = ⊥
IsLcovFault lcov before after (Point file fault address) = ⊥

-- the file has a table
abbrev pub IsGoodLcov : LcovValues → Outside → Type 0
IsGoodLcov lcov before = (db : Db) × HasTable before lcov.file db
