-- Which files are good.
use Rattle.std.specs.Prelude.{◌≡◌, ◌≤◌, ℕ, List, [], ◌∷◌, length, Some, IsSomeAnd}
use Rattle.command_line.specs.DatabaseWords.{MergeValues, ReportValues}
use Rattle.cov_host.specs.Outside.{IsCounted, Outside}
use Rattle.coverage_db.specs.Merge.{SameDesign}
use Rattle.coverage_db.specs.Table.{IsTable}
use Rattle.coverage_db.specs.Text.{IsTextOf}
use Rattle.coverage_db.specs.declared.db.Db.{Db}
use Rattle.db_tools.specs.Excluded.{Exclusion}
use Rattle.database_commands.specs.Excluding.{HasExclusion}

-- the files of the host are known, and this one has a text of this table, which is no longer than 2,147,483,648 bytes
pub record HasTable (before : Outside) (name : List ℕ) (db : Db) : Type 0 where
  pub table : IsTable db
  pub text : List ℕ
  pub is_text : IsTextOf db text
  pub is : IsSomeAnd before.files (λ files. files name ≡ Some text)
  pub short : length text ≤ 2147483648

-- each file has a table of this design
abbrev pub HaveTablesOf : Outside → Db → List (List ℕ) → Type 0
HaveTablesOf before first [] = Unit {0}
HaveTablesOf before first (name ∷ names) = ((db : Db) × HasTable before name db × SameDesign first db) × HaveTablesOf before first names

-- the files of a merge have tables of one design
abbrev pub IsGoodMerge : MergeValues → Outside → Type 0
IsGoodMerge merge before = (first : Db) × HasTable before merge.first first × HaveTablesOf before first merge.others

-- the file of a report has a table with its excluded points
abbrev pub IsGoodReport : ReportValues → Outside → Type 0
IsGoodReport report before = (e : Exclusion) × HasExclusion before report.file e

-- no fault of the host was counted
abbrev pub NoFaults : Outside → Outside → Type 0
NoFaults before after = IsCounted before.faults after.faults → ⊥
