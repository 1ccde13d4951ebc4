-- What is wrong with a text that is no table's: the first line that is not as a table has it.
use Rattle.std.specs.Prelude.{◌≡◌, ◌≢◌, ◌⊎◌, ℕ, ◌+◌, ◌<◌, false, IsTrue, List, [], ◌∷◌, ◌++◌, length, codes, decimal, Some, None, Result, Ok, Err}
use Rattle.coverage_db.specs.declared.db.Db.{Db}
use Rattle.coverage_db.specs.declared.fault.DbFault.{DbFault}
use Rattle.coverage_db.specs.declared.fault.DbFault.TheVariants.{At, NoMemory}
use Rattle.coverage_db.specs.declared.fault.DbKind.TheVariants.{BadLine, WrongVersion, WrongCount, DbTooLong}
use Rattle.coverage_db.specs.declared.version.Version.{Version}
use Rattle.coverage_db.specs.declared.version.Version.TheVariants.{Two}
use Rattle.coverage_db.specs.Fields.{is_plain}
use Rattle.coverage_db.specs.Table.{IsTable}
use Rattle.coverage_db.specs.Text.{head_lines, lines_to_points, lines_to_windows, lines_with_counts, lines_of, begins_point, begins_window, IsTextOf}

-- the lines begin those of a table, whatever they say are the numbers of its points and of its windows
pub record Begins (lines : List (List ℕ)) : Type 0 where
  pub version : Version
  pub db : Db
  pub digits : List ℕ
  pub window_digits : List ℕ
  pub others : List (List ℕ)
  pub table : IsTable db
  pub plain : IsTrue (is_plain digits)
  pub windows_plain : IsTrue (is_plain window_digits)
  pub same : lines_with_counts version digits window_digits db ≡ lines ++ others

-- the first line is that of another version
pub record IsWrongVersion (text : List ℕ) : Type 0 where
  pub digits : List ℕ
  pub next : List ℕ
  pub others : List (List ℕ)
  pub plain : IsTrue (is_plain digits)
  pub other : digits ≢ codes "1"
  pub newer : digits ≢ codes "2"
  pub split : lines_of text ≡ (codes "covered-db " ++ digits) ∷ next ∷ others

-- the lines are those of a table up to its last point, and then one of no point; but the line with this number says
-- another number of points
pub record IsWrongCount (text : List ℕ) (number : ℕ) : Type 0 where
  pub version : Version
  pub db : Db
  pub digits : List ℕ
  pub line : List ℕ
  pub next : List ℕ
  pub others : List (List ℕ)
  pub table : IsTable db
  pub plain : IsTrue (is_plain digits)
  pub last : begins_point line ≡ false
  pub differs : digits ≢ decimal (length db.points)
  pub number_is : number ≡ length (head_lines version db) + 1
  pub split : lines_of text ≡ lines_to_points version digits db ++ line ∷ next ∷ others

-- the lines are those of a table up to its last window, and then one of no window; but the line with this number says
-- another number of windows
pub record IsWrongWindowCount (text : List ℕ) (number : ℕ) : Type 0 where
  pub db : Db
  pub digits : List ℕ
  pub line : List ℕ
  pub next : List ℕ
  pub others : List (List ℕ)
  pub table : IsTable db
  pub plain : IsTrue (is_plain digits)
  pub last : begins_window line ≡ false
  pub differs : digits ≢ decimal (length db.windows)
  pub number_is : number ≡ length (lines_to_points Two (decimal (length db.points)) db) + 1
  pub split : lines_of text ≡ lines_to_windows Two (decimal (length db.points)) digits db ++ line ∷ next ∷ others

-- The lines before the one with this number begin those of a table. With it they do not, or it has no line feed, or
-- the text had ended. The text is no table's, of no other version, and of no other number of points or of windows.
pub record IsBadLine (text : List ℕ) (number : ℕ) : Type 0 where
  pub before : List (List ℕ)
  pub rest : List (List ℕ)
  pub split : lines_of text ≡ before ++ rest
  pub number_is : number ≡ length before + 1
  pub begins : Begins before
  pub ends : (line next : List ℕ) (others : List (List ℕ)) → rest ≡ line ∷ next ∷ others → Begins (before ++ line ∷ []) → ⊥
  pub no_table : (db : Db) → IsTable db → IsTextOf db text → ⊥
  pub same_version : IsWrongVersion text → ⊥
  pub counted : (number : ℕ) → IsWrongCount text number → ⊥
  pub windows_counted : (number : ℕ) → IsWrongWindowCount text number → ⊥

-- what a fault says of the text
abbrev pub IsFault : List ℕ → DbFault → Type 0
IsFault text NoMemory = Unit {0}
IsFault text (At BadLine (Some number)) = IsBadLine text number
IsFault text (At WrongVersion (Some number)) = IsWrongVersion text × (number ≡ 1)
IsFault text (At WrongCount (Some number)) = IsWrongCount text number ⊎ IsWrongWindowCount text number
IsFault text (At DbTooLong None) = 2147483648 < length text
IsFault text (At BadLine None) = ⊥
IsFault text (At WrongVersion None) = ⊥
IsFault text (At WrongCount None) = ⊥
IsFault text (At DbTooLong (Some number)) = ⊥

-- the result is this table, unless memory ran out
abbrev pub IsTheTable : Db → Result Db DbFault → Type 0
IsTheTable db (Ok read) = read ≡ db
IsTheTable db (Err fault) = fault ≡ NoMemory
