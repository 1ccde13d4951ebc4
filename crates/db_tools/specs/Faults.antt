-- What is wrong with a text that is that of no table with excluded points.
use Rattle.std.specs.Prelude.{◌≡◌, ◌≢◌, ◌⊎◌, ◌<◌, ℕ, ◌+◌, Bool, true, false, IsTrue, ◌&&◌, not, bytes_eq, All, List, [], ◌∷◌, ◌++◌, length, codes, decimal, Some, None}
use Rattle.coverage_db.specs.declared.db.Db.{Db}
use Rattle.coverage_db.specs.declared.fault.DbFault.{DbFault}
use Rattle.coverage_db.specs.declared.fault.DbFault.TheVariants.{At, NoMemory}
use Rattle.coverage_db.specs.declared.fault.DbKind.{DbKind}
use Rattle.coverage_db.specs.declared.fault.DbKind.TheVariants.{BadLine, WrongVersion, WrongCount, DbTooLong}
use Rattle.coverage_db.specs.Faults.{IsFault}
use Rattle.coverage_db.specs.Fields.{is_plain, split_first}
use Rattle.coverage_db.specs.Table.{IsTable}
use Rattle.coverage_db.specs.Text.{begins_point, text_of, text_of_lines}
use Rattle.db_tools.specs.Excluded.{marked_addresses, opening}

-- a number that is not 0
abbrev pub is_count : List ℕ → Bool
is_count digits = is_plain digits && not (bytes_eq digits (codes "0"))

-- the first line of a text, without its line feed, and what is after it
abbrev pub HasLine : List ℕ → List ℕ → List ℕ → Type 0
HasLine text line rest = split_first 10 text ≡ Some (line, rest)

-- the first line is that of an excluded text of some version, with these digits
pub record IsExcludedVersion (text digits rest : List ℕ) : Type 0 where
  pub plain : IsTrue (is_plain digits)
  pub line : HasLine text (codes "covered-ex " ++ digits) rest

-- a line of an address begins as that of a point does
pub record IsAddressLine (line : List ℕ) : Type 0 where
  pub point : begins_point line ≡ true
  pub whole : (rest : List ℕ) → HasLine (line ++ 10 ∷ rest) line rest

-- the text has these lines up to the last address, with these digits for the number of addresses, and then this
pub record Opens (text digits : List ℕ) (lines : List (List ℕ)) (inner : List ℕ) : Type 0 where
  pub whole : text ≡ text_of_lines (opening digits lines) ++ inner
  pub count : IsTrue (is_count digits)
  pub each : All IsAddressLine lines
  pub ends : (line rest : List ℕ) → HasLine inner line rest → begins_point line ≡ false

-- the first line is that of a number of addresses, with these digits
pub record HasNumber (text digits rest : List ℕ) : Type 0 where
  pub count : IsTrue (is_count digits)
  pub line : HasLine text (codes "excluded " ++ digits) rest

-- the text has these lines of addresses, and then this
pub record Splits (text : List ℕ) (lines : List (List ℕ)) (inner : List ℕ) : Type 0 where
  pub whole : text ≡ text_of_lines lines ++ inner
  pub each : All IsAddressLine lines
  pub ends : (line rest : List ℕ) → HasLine inner line rest → begins_point line ≡ false

-- the second line is not that of a number of addresses, or has no line feed
pub record LacksCount (text : List ℕ) : Type 0 where
  pub rest : List ℕ
  pub version : HasLine text (codes "covered-ex 1") rest
  pub none : (digits others : List ℕ) → HasNumber rest digits others → ⊥

-- the first of these lines that is not the address of a point of the table after those of the lines before it
pub record IsNoAddress (table : Db) (lines : List (List ℕ)) (place : ℕ) : Type 0 where
  pub before : List (List ℕ)
  pub line : List ℕ
  pub others : List (List ℕ)
  pub marks : List Bool
  pub split : lines ≡ before ++ line ∷ others
  pub place_is : place ≡ length before
  pub long : length marks ≡ length table.points
  pub named : marked_addresses table marks ≡ before
  pub other : (marks : List Bool) → length marks ≡ length table.points → marked_addresses table marks ≡ before ++ line ∷ [] → ⊥

-- the lines before the table are those of an excluded text, and what is wrong is after them
abbrev pub IsInside : List ℕ → (List ℕ → List (List ℕ) → List ℕ → Type 0) → Type 0
IsInside text Fault = (digits : List ℕ) × (lines : List (List ℕ)) × (inner : List ℕ) × Opens text digits lines inner × Fault digits lines inner

-- the text after the addresses is that of a database of the newest version, as far as its first line says
abbrev pub BeginsNewest : List ℕ → Type 0
BeginsNewest inner = (rest : List ℕ) × HasLine inner (codes "covered-db 2") rest

-- the line after the addresses is not the first of a database of the newest version, or has no line feed
abbrev pub LacksNewest : List ℕ → List (List ℕ) → List ℕ → Type 0
LacksNewest digits lines inner = BeginsNewest inner → ⊥

-- the number of addresses is another
abbrev pub CountsOther : List ℕ → List (List ℕ) → List ℕ → Type 0
CountsOther digits lines inner = (digits ≢ decimal (length lines)) × ((line : List ℕ) × (rest : List ℕ) × HasLine inner line rest)

-- the table after the addresses has this fault, its lines counted from the first of the whole text
abbrev pub HasFault : DbKind → ℕ → List ℕ → List (List ℕ) → List ℕ → Type 0
HasFault kind number digits lines inner = (within : ℕ) × (number ≡ 2 + length lines + within) × BeginsNewest inner × IsFault inner (At kind (Some within))

-- the line with this number is that of an address, and of no point of the table that comes after those before it
abbrev pub NamesNone : ℕ → List ℕ → List (List ℕ) → List ℕ → Type 0
NamesNone number digits lines inner = (table : Db) × (place : ℕ) × IsTable table × (inner ≡ text_of table) × IsNoAddress table lines place × (number ≡ 3 + place)

-- what a fault says of a text that begins as an excluded text does
abbrev pub IsExcludedFault : List ℕ → DbFault → Type 0
IsExcludedFault text NoMemory = Unit {0}
IsExcludedFault text (At BadLine (Some number)) =
    ((number ≡ 2) × LacksCount text) ⊎ IsInside text (λ digits lines inner. (number ≡ 3 + length lines) × LacksNewest digits lines inner)
    ⊎ IsInside text (HasFault BadLine number) ⊎ IsInside text (NamesNone number)
IsExcludedFault text (At WrongVersion (Some number)) = (number ≡ 1) × ((digits : List ℕ) × (rest : List ℕ) × IsExcludedVersion text digits rest × (digits ≢ codes "1"))
IsExcludedFault text (At WrongCount (Some number)) = ((number ≡ 2) × IsInside text CountsOther) ⊎ IsInside text (HasFault WrongCount number)
IsExcludedFault text other = ⊥

-- what a fault says of a text: of one that begins as an excluded text does, or as the text of a table
abbrev pub IsReadFault : List ℕ → DbFault → Type 0
IsReadFault text fault = (2147483648 < length text × (fault ≡ At DbTooLong None))
    ⊎ ((digits : List ℕ) × (rest : List ℕ) × IsExcludedVersion text digits rest × IsExcludedFault text fault)
    ⊎ (((digits rest : List ℕ) → IsExcludedVersion text digits rest → ⊥) × IsFault text fault)

-- ---- parts of a fault

-- what is wrong with the lines before the table, except with their addresses
abbrev pub IsOpenFault : List ℕ → DbFault → Type 0
IsOpenFault text NoMemory = Unit {0}
IsOpenFault text (At BadLine (Some number)) = ((number ≡ 2) × LacksCount text) ⊎ IsInside text (λ digits lines inner. (number ≡ 3 + length lines) × LacksNewest digits lines inner)
IsOpenFault text (At WrongCount (Some number)) = (number ≡ 2) × IsInside text CountsOther
IsOpenFault text other = ⊥

-- the number of the line of a fault
abbrev pub IsLineWithin : (ℕ → Type 0) → DbFault → Type 0
IsLineWithin P NoMemory = Unit {0}
IsLineWithin P (At kind None) = Unit {0}
IsLineWithin P (At kind (Some line)) = P line

-- the fault of a table after this number of lines
abbrev pub moved : ℕ → DbFault → DbFault
moved before NoMemory = NoMemory
moved before (At kind None) = At kind None
moved before (At kind (Some line)) = At kind (Some (before + line))

-- what is wrong with the number of addresses, or with the line after them
abbrev pub IsHeadFault : List ℕ → List (List ℕ) → List ℕ → DbFault → Type 0
IsHeadFault digits lines inner NoMemory = Unit {0}
IsHeadFault digits lines inner (At BadLine (Some number)) = (number ≡ 3 + length lines) × LacksNewest digits lines inner
IsHeadFault digits lines inner (At WrongCount (Some number)) = (number ≡ 2) × CountsOther digits lines inner
IsHeadFault digits lines inner other = ⊥

-- what is wrong with the table after the addresses, or with the addresses
abbrev pub IsInsideFault : List ℕ → List (List ℕ) → List ℕ → DbFault → Type 0
IsInsideFault digits lines inner NoMemory = Unit {0}
IsInsideFault digits lines inner (At BadLine (Some number)) = HasFault BadLine number digits lines inner ⊎ NamesNone number digits lines inner
IsInsideFault digits lines inner (At WrongCount (Some number)) = HasFault WrongCount number digits lines inner
IsInsideFault digits lines inner other = ⊥
