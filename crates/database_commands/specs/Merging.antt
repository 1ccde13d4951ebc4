-- What a `merge` command writes.
use Rattle.std.specs.Prelude.{◌≡◌, ℕ, List, [], ◌∷◌, All}
use Rattle.cov_host.specs.Outside.{HasFile, Outside, Told}
use Rattle.coverage_db.specs.Merge.{SameDesign, merged_all}
use Rattle.coverage_db.specs.Text.{text_of}
use Rattle.coverage_db.specs.declared.db.Db.{Db}
use Rattle.command_line.specs.DatabaseWords.{MergeValues}
use Rattle.database_commands.specs.Files.{HoldTables, HoldsTable}

-- the files hold tables of one design, and this is their merge in the order of the words
pub record IsMergeOf (merge : MergeValues) (before : Outside) (table : Db) : Type 0 where
  pub first : Db
  pub others : List Db
  pub first_holds : HoldsTable before merge.first first
  pub others_hold : HoldTables before merge.others others
  pub of_one : All (SameDesign first) others
  pub is : table ≡ merged_all first others

-- the text is that of the merge of the files
abbrev pub IsMergedText : MergeValues → Outside → List ℕ → Type 0
IsMergedText merge before text = (table : Db) × IsMergeOf merge before table × (text ≡ text_of table)

-- the output holds the text of the merge of the files, and every other file is as before
pub record IsMergedIn (merge : MergeValues) (before after : Outside) : Type 0 where
  pub table : Db
  pub is : IsMergeOf merge before table
  pub written : Told (HasFile merge.output (text_of table)) before.files after.files

-- one list is the other in another order
pub data IsReordered {X : Type 0} : List X → List X → Type 0 where
  nothing : IsReordered [] []
  behind : (x : X) {xs ys : List X} → IsReordered xs ys → IsReordered (x ∷ xs) (x ∷ ys)
  swapped : (x y : X) (xs : List X) → IsReordered (x ∷ y ∷ xs) (y ∷ x ∷ xs)
  and_then : {xs ys zs : List X} → IsReordered xs ys → IsReordered ys zs → IsReordered xs zs
