-- Files that hold tables.
use Rattle.std.specs.Prelude.{◌≡◌, ◌≢◌, ◌≤◌, ℕ, List, [], ◌∷◌, length, Some, All, IfSome}
use Rattle.cov_host.specs.Outside.{Files, Outside}
use Rattle.coverage_db.specs.Merge.{SameDesign}
use Rattle.coverage_db.specs.Table.{IsTable}
use Rattle.coverage_db.specs.Text.{IsTextOf}
use Rattle.coverage_db.specs.declared.db.Db.{Db}

-- the file has this text, where the files of the host are known
abbrev pub IsFile : Outside → List ℕ → List ℕ → Type 0
IsFile outside name text = IfSome outside.files (λ files. files name ≡ Some text)

-- the file has a text of this table, which is no longer than 2,147,483,648 bytes
pub record HoldsTable (before : Outside) (name : List ℕ) (db : Db) : Type 0 where
  pub table : IsTable db
  pub text : List ℕ
  pub is_text : IsTextOf db text
  pub is : IsFile before name text
  pub short : length text ≤ 2147483648

-- the file has a text of some table
abbrev pub HoldsSome : Outside → List ℕ → Type 0
HoldsSome before name = (db : Db) × HoldsTable before name db

-- each file has a text of its table
abbrev pub HoldTables : Outside → List (List ℕ) → List Db → Type 0
HoldTables before [] [] = Unit {0}
HoldTables before (name ∷ names) (db ∷ tables) = HoldsTable before name db × HoldTables before names tables
HoldTables before _ _ = ⊥

-- all tables are of the design of the first
abbrev pub AreOfOneDesign : List Db → Type 0
AreOfOneDesign [] = Unit {0}
AreOfOneDesign (first ∷ others) = All (SameDesign first) others

-- every file but this one is as before
abbrev pub KeepsOthers : List ℕ → Files → Files → Type 0
KeepsOthers name old new = (other : List ℕ) → other ≢ name → new other ≡ old other
