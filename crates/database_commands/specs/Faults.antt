-- Why a command over databases ends without its output.
use Rattle.std.specs.Prelude.{◌≡◌, ◌⊎◌, ◌≤◌, ℕ, List, ◌∷◌, ◌++◌, length, Option}
use Rattle.cov_host.specs.Outside.{Outside, IsCounted}
use Rattle.coverage_db.specs.Faults.{IsFault}
use Rattle.coverage_db.specs.Merge.{DiffersAt}
use Rattle.coverage_db.specs.Table.{IsTable}
use Rattle.coverage_db.specs.Text.{IsTextOf}
use Rattle.coverage_db.specs.declared.db.Db.{Db}
use Rattle.coverage_db.specs.declared.fault.DbFault.TheVariants.{At}
use Rattle.coverage_db.specs.declared.fault.DbKind.{DbKind}
use Rattle.command_line.specs.DatabaseWords.{MergeValues}
use Rattle.whole_files.specs.Refusals.{IsRefused}
use Rattle.whole_files.specs.declared.call.Call.{Call}
use Rattle.whole_files.specs.declared.call.Call.TheVariants.{OpenRead, Read}
use Rattle.database_commands.specs.Files.{AreOfOneDesign, HoldTables, HoldsTable, IsFile}
use Rattle.database_commands.specs.Merging.{IsMergeOf}
use Rattle.database_commands.specs.declared.fault.CommandFault.{CommandFault}
use Rattle.database_commands.specs.declared.fault.CommandFault.TheVariants.{Files, Print, Memory, NoDatabase, DesignsDiffer, Point}

-- the call reads a file
abbrev pub IsReading : Call → Type 0
IsReading OpenRead = Unit {0}
IsReading Read = Unit {0}
IsReading call = ⊥

-- the call writes a file
abbrev pub IsWriting : Call → Type 0
IsWriting OpenRead = ⊥
IsWriting Read = ⊥
IsWriting call = Unit {0}

-- the text of the file is that of no table of at most 2,147,483,648 bytes, and this is its fault
pub record IsNoTable (name : List ℕ) (before : Outside) (kind : DbKind) (line : Option ℕ) : Type 0 where
  pub text : List ℕ
  pub is : IsFile before name text
  pub none : (db : Db) → IsTable db → IsTextOf db text → length text ≤ 2147483648 → ⊥
  pub fault : IsFault text (At kind line)

-- no table was read of the file
abbrev pub IsTableFault : List ℕ → Outside → Outside → CommandFault → Type 0
IsTableFault name before after (Files call file) = (file.now ≡ name) × IsReading call × IsRefused call name before after
IsTableFault name before after (NoDatabase file kind line) = (file.now ≡ name) × IsNoTable name before kind line
IsTableFault name before after Memory = Unit {0}
IsTableFault name before after other = ⊥

-- the file was not written
abbrev pub IsWriteFault : List ℕ → Outside → Outside → CommandFault → Type 0
IsWriteFault name before after (Files call file) = (file.now ≡ name) × IsWriting call × IsRefused call file.now before after
IsWriteFault name before after Memory = Unit {0}
IsWriteFault name before after other = ⊥

-- two tables were not joined
abbrev pub IsJoinFault : Db → Db → List ℕ → CommandFault → Type 0
IsJoinFault table other name (DesignsDiffer file line first_line other_line) = (file.now ≡ name) × DiffersAt table other line first_line other_line
IsJoinFault table other name Memory = Unit {0}
IsJoinFault table other name fault = ⊥

-- the text was not printed
abbrev pub IsPrintFault : Outside → Outside → CommandFault → Type 0
IsPrintFault before after Print = IsCounted before.faults after.faults
IsPrintFault before after Memory = Unit {0}
IsPrintFault before after other = ⊥

-- the files before this one have tables of one design
pub record ComesTo (files : List (List ℕ)) (before : Outside) (file : List ℕ) : Type 0 where
  pub earlier : List (List ℕ)
  pub later : List (List ℕ)
  pub tables : List Db
  pub files_are : files ≡ earlier ++ file ∷ later
  pub hold : HoldTables before earlier tables
  pub of_one : AreOfOneDesign tables

-- the tables of the first file and of this one are of different designs, and differ first at this line
pub record IsOtherDesign (first : List ℕ) (file : List ℕ) (before : Outside) (line : ℕ) (first_line other_line : List ℕ) : Type 0 where
  pub first_table : Db
  pub other_table : Db
  pub first_holds : HoldsTable before first first_table
  pub other_holds : HoldsTable before file other_table
  pub differ : DiffersAt first_table other_table line first_line other_line

-- the files of a merge in the order of the words
abbrev pub inputs_of : MergeValues → List (List ℕ)
inputs_of merge = merge.first ∷ merge.others

-- the files hold tables of one design, which have a merge
abbrev pub HasMerge : MergeValues → Outside → Type 0
HasMerge merge before = (table : Db) × IsMergeOf merge before table

-- a call on a file of the merge gave nothing; one on the output only where the files have a merge
abbrev pub IsMergeCall : MergeValues → Outside → Outside → Call → List ℕ → Type 0
IsMergeCall merge before after call file =
    (IsReading call × ComesTo (inputs_of merge) before file × IsRefused call file before after)
    ⊎ (IsWriting call × (file ≡ merge.output) × IsRefused call file before after × HasMerge merge before)

-- why a merge ended without its output
abbrev pub IsMergeFault : MergeValues → Outside → Outside → CommandFault → Type 0
IsMergeFault merge before after (Files call file) = IsMergeCall merge before after call file.now
IsMergeFault merge before after Print = ⊥
IsMergeFault merge before after Memory = Unit {0}
IsMergeFault merge before after (NoDatabase file kind line) = ComesTo (inputs_of merge) before file.now × IsNoTable file.now before kind line
IsMergeFault merge before after (Point file fault address) = ⊥
IsMergeFault merge before after (DesignsDiffer file line first other) = ComesTo (inputs_of merge) before file.now × IsOtherDesign merge.first file.now before line first other

-- a fault that comes before anything is written or printed
abbrev pub IsEarly : CommandFault → Type 0
IsEarly (Files call file) = IsReading call
IsEarly Print = ⊥
IsEarly Memory = ⊥
IsEarly (NoDatabase file kind line) = Unit {0}
IsEarly (DesignsDiffer file line first other) = Unit {0}
IsEarly (Point file fault address) = Unit {0}
