-- What an `exclude` or a `restore` command writes.
use Rattle.std.specs.Prelude.{◌≡◌, ◌⊎◌, ◌≤◌, ℕ, List, ◌∷◌, ◌++◌, length, Option, Some, IsSomeAnd}
use Rattle.cov_host.specs.Outside.{HasFile, Outside, Told}
use Rattle.coverage_db.specs.declared.fault.DbFault.TheVariants.{At}
use Rattle.coverage_db.specs.declared.fault.DbKind.{DbKind}
use Rattle.db_tools.specs.Changes.{ExcludesAll, RestoresAll}
use Rattle.db_tools.specs.Excluded.{ExcludeRefuses, Excludes, Exclusion, IsExcludedText, IsExclusion, RestoreRefuses, Restores, excluded_text}
use Rattle.db_tools.specs.Faults.{IsReadFault}
use Rattle.db_tools.specs.declared.fault.ToolFault.{ToolFault}
use Rattle.command_line.specs.PointWords.{PointValues}
use Rattle.whole_files.specs.Refusals.{IsRefused}
use Rattle.whole_files.specs.declared.call.Call.{Call}
use Rattle.database_commands.specs.Faults.{IsReading, IsWriting}
use Rattle.database_commands.specs.Files.{IsFile}
use Rattle.database_commands.specs.declared.change.Change.{Change}
use Rattle.database_commands.specs.declared.change.Change.TheVariants.{Exclude, Restore}
use Rattle.database_commands.specs.declared.fault.CommandFault.{CommandFault}
use Rattle.database_commands.specs.declared.fault.CommandFault.TheVariants.{Files, Print, Memory, NoDatabase, DesignsDiffer, Point}

-- ---- files with a table of which some points are excluded

-- the file has a text of this table with its excluded points, which is no longer than 2,147,483,648 bytes
pub record HoldsExclusion (before : Outside) (name : List ℕ) (e : Exclusion) : Type 0 where
  pub exclusion : IsExclusion e
  pub text : List ℕ
  pub is_text : IsExcludedText e text
  pub is : IsFile before name text
  pub short : length text ≤ 2147483648

-- the file has a text of some table with its excluded points
abbrev pub HoldsSomeExclusion : Outside → List ℕ → Type 0
HoldsSomeExclusion before name = (e : Exclusion) × HoldsExclusion before name e

-- the files of the host are known, and this one has a text of this table with its excluded points
pub record HasExclusion (before : Outside) (name : List ℕ) (e : Exclusion) : Type 0 where
  pub exclusion : IsExclusion e
  pub text : List ℕ
  pub is_text : IsExcludedText e text
  pub is : IsSomeAnd before.files (λ files. files name ≡ Some text)
  pub short : length text ≤ 2147483648

-- the text of the file is that of no table with excluded points of at most 2,147,483,648 bytes, and this is its fault
pub record IsNoExclusion (name : List ℕ) (before : Outside) (kind : DbKind) (line : Option ℕ) : Type 0 where
  pub text : List ℕ
  pub is : IsFile before name text
  pub none : (e : Exclusion) → IsExclusion e → IsExcludedText e text → length text ≤ 2147483648 → ⊥
  pub fault : IsReadFault text (At kind line)

-- no table with excluded points was read of the file
abbrev pub IsExclusionFault : List ℕ → Outside → Outside → CommandFault → Type 0
IsExclusionFault name before after (Files call file) = (file.now ≡ name) × IsReading call × IsRefused call name before after
IsExclusionFault name before after (NoDatabase file kind line) = (file.now ≡ name) × IsNoExclusion name before kind line
IsExclusionFault name before after Memory = Unit {0}
IsExclusionFault name before after other = ⊥

-- ---- the change of a command

-- the point is changed
abbrev pub Changes : Change → List ℕ → Exclusion → Exclusion → Type 0
Changes Exclude address old new = Excludes address old new
Changes Restore address old new = Restores address old new

-- the points are changed, one after another
abbrev pub ChangesAll : Change → List (List ℕ) → Exclusion → Exclusion → Type 0
ChangesAll Exclude addresses old new = ExcludesAll addresses old new
ChangesAll Restore addresses old new = RestoresAll addresses old new

-- what a refusal to change a point says
abbrev pub ChangeRefuses : Change → List ℕ → Exclusion → ToolFault → Type 0
ChangeRefuses Exclude address e fault = ExcludeRefuses address e fault
ChangeRefuses Restore address e fault = RestoreRefuses address e fault

-- the points before this one are changed, and this one is refused then
pub record StopsAt (change : Change) (addresses : List (List ℕ)) (old : Exclusion) (address : List ℕ) (fault : ToolFault) : Type 0 where
  pub earlier : List (List ℕ)
  pub later : List (List ℕ)
  pub middle : Exclusion
  pub addresses_are : addresses ≡ earlier ++ address ∷ later
  pub changed : ChangesAll change earlier old middle
  pub refused : ChangeRefuses change address middle fault

-- a point was not changed
abbrev pub IsChangeFault : Change → List ℕ → List (List ℕ) → Exclusion → CommandFault → Type 0
IsChangeFault change name addresses old (Point file fault address) = (file.now ≡ name) × StopsAt change addresses old address.now fault
IsChangeFault change name addresses old other = ⊥

-- the file holds a table with its excluded points, and this is it with the points of the words changed
pub record IsChangeOf (change : Change) (points : PointValues) (before : Outside) (e : Exclusion) : Type 0 where
  pub first : Exclusion
  pub holds : HoldsExclusion before points.file first
  pub changed : ChangesAll change points.addresses first e

-- the points of the words can be changed in the table that the file holds
abbrev pub HasChange : Change → PointValues → Outside → Type 0
HasChange change points before = (e : Exclusion) × IsChangeOf change points before e

-- the text is that of the table of the file with the points of the words changed
abbrev pub IsChangedText : Change → PointValues → Outside → List ℕ → Type 0
IsChangedText change points before text = (e : Exclusion) × IsChangeOf change points before e × (text ≡ excluded_text e)

-- the output holds that text, and every other file is as before
pub record IsChangedIn (change : Change) (points : PointValues) (before after : Outside) : Type 0 where
  pub e : Exclusion
  pub is : IsChangeOf change points before e
  pub written : Told (HasFile points.output (excluded_text e)) before.files after.files

-- the file holds a table, and one of the points of the words is refused
pub record IsRefusedPoint (change : Change) (points : PointValues) (before : Outside) (address : List ℕ) (fault : ToolFault) : Type 0 where
  pub first : Exclusion
  pub holds : HoldsExclusion before points.file first
  pub stops : StopsAt change points.addresses first address fault

-- a call on the file, or on the output where the points can be changed, gave nothing
abbrev pub IsPointsCall : Change → PointValues → Outside → Outside → Call → List ℕ → Type 0
IsPointsCall change points before after call file =
    (IsReading call × (file ≡ points.file) × IsRefused call file before after)
    ⊎ (IsWriting call × (file ≡ points.output) × IsRefused call file before after × HasChange change points before)

-- why the points were not changed
abbrev pub IsPointsFault : Change → PointValues → Outside → Outside → CommandFault → Type 0
IsPointsFault change points before after (Files call file) = IsPointsCall change points before after call file.now
IsPointsFault change points before after Print = ⊥
IsPointsFault change points before after Memory = Unit {0}
IsPointsFault change points before after (NoDatabase file kind line) = (file.now ≡ points.file) × IsNoExclusion file.now before kind line
IsPointsFault change points before after (DesignsDiffer file line first other) = ⊥
IsPointsFault change points before after (Point file fault address) = (file.now ≡ points.file) × IsRefusedPoint change points before address.now fault

-- the file has a table in which the points of the words can be changed: they are different points of it, none of them excluded, or to be restored all of them
abbrev pub IsGoodChange : Change → PointValues → Outside → Type 0
IsGoodChange change points before = (first : Exclusion) × (last : Exclusion) × HasExclusion before points.file first × ChangesAll change points.addresses first last
