-- A table of which some points are excluded from the totals, and its text.
use Rattle.std.specs.Prelude.{◌≡◌, ℕ, Bool, true, false, not, if◌then◌else◌, List, [], ◌∷◌, ◌++◌, length, map, codes, decimal, slice_index_or, slice_set, Some, None, Result, Ok, Err}
use Rattle.coverage_db.specs.declared.db.Db.{Db}
use Rattle.coverage_db.specs.declared.fault.DbFault.{DbFault}
use Rattle.coverage_db.specs.declared.fault.DbFault.TheVariants.{NoMemory}
use Rattle.coverage_db.specs.Table.{IsTable}
use Rattle.coverage_db.specs.Text.{IsTextOf, address_text, text_of, text_of_lines}
use Rattle.point_lookup.specs.Lookup.{place_of}
use Rattle.db_tools.specs.declared.fault.ToolFault.{ToolFault}
use Rattle.db_tools.specs.declared.fault.ToolFault.TheVariants.{NoPoint, AlreadyOut, NotOut}

-- a table, and a mark for each of its points, set where the point is excluded
pub record Exclusion : Type 0 where
  pub table : Db
  pub marks : List Bool

-- the table has a text, and each of its points has a mark
pub record IsExclusion (e : Exclusion) : Type 0 where
  pub table : IsTable e.table
  pub long : length e.marks ≡ length e.table.points

-- ---- the text

-- the items that have a mark that is set
abbrev pub marked : {X : Type 0} → List X → List Bool → List X
marked [] marks = []
marked (x ∷ xs) [] = []
marked (x ∷ xs) (mark ∷ marks) = if mark then x ∷ marked xs marks else marked xs marks

-- the items that have a mark that is not set
abbrev pub unmarked : {X : Type 0} → List X → List Bool → List X
unmarked [] marks = []
unmarked (x ∷ xs) [] = []
unmarked (x ∷ xs) (mark ∷ marks) = if mark then unmarked xs marks else x ∷ unmarked xs marks

-- the addresses of the points of a table with a mark that is set, in the order of the points
abbrev pub marked_addresses : Db → List Bool → List (List ℕ)
marked_addresses table marks = map (λ p. address_text table.instances p.address) (marked table.points marks)

-- the addresses of the excluded points, which rise as the points do
abbrev pub addresses : Exclusion → List (List ℕ)
addresses e = marked_addresses e.table e.marks

-- the version, the number of addresses in these digits, and each address
abbrev pub opening : List ℕ → List (List ℕ) → List (List ℕ)
opening digits lines = codes "covered-ex 1" ∷ (codes "excluded " ++ digits) ∷ lines

-- a text with these addresses before it; with none it is the text alone
abbrev pub with_addresses : List (List ℕ) → List ℕ → List ℕ
with_addresses [] text = text
with_addresses (first ∷ others) text = text_of_lines (opening (decimal (length (first ∷ others))) (first ∷ others)) ++ text

-- the text of a table with its excluded points; where there is no excluded point, the plain text of the table
abbrev pub excluded_text : Exclusion → List ℕ
excluded_text e = with_addresses (addresses e) (text_of e.table)

-- the text is that of the table with these addresses; with none it may be that of version 1
abbrev pub IsTextWith : List (List ℕ) → Db → List ℕ → Type 0
IsTextWith [] table text = IsTextOf table text
IsTextWith (first ∷ others) table text = text ≡ with_addresses (first ∷ others) (text_of table)

abbrev pub IsExcludedText : Exclusion → List ℕ → Type 0
IsExcludedText e text = IsTextWith (addresses e) e.table text

-- the result is this table with its marks, unless memory ran out
abbrev pub IsTheExclusion : Exclusion → Result Exclusion DbFault → Type 0
IsTheExclusion e (Ok read) = read ≡ e
IsTheExclusion e (Err fault) = fault ≡ NoMemory

-- the table of the points that have a mark that is not set
abbrev pub without : Db → List Bool → Db
without table marks = record table { points = unmarked table.points marks }

-- the table of the points that are not excluded
abbrev pub visible : Exclusion → Db
visible e = without e.table e.marks

-- ---- excluding a point, and restoring it

-- the point with this address has this mark, and has the other one then; nothing else changes
pub record Remarks (address : List ℕ) (before after : Bool) (old new : Exclusion) : Type 0 where
  pub place : ℕ
  pub found : place_of old.table address ≡ Some place
  pub was : slice_index_or old.marks place after ≡ before
  pub now : new ≡ record old { marks = slice_set old.marks place after }

-- the point with this address was not excluded and is
abbrev pub Excludes : List ℕ → Exclusion → Exclusion → Type 0
Excludes address old new = Remarks address false true old new

-- the point with this address was excluded and is not
abbrev pub Restores : List ℕ → Exclusion → Exclusion → Type 0
Restores address old new = Remarks address true false old new

-- the point with this address has this mark
pub record HasMark (address : List ℕ) (mark : Bool) (e : Exclusion) : Type 0 where
  pub place : ℕ
  pub found : place_of e.table address ≡ Some place
  pub is : slice_index_or e.marks place (not mark) ≡ mark

-- what a refusal to exclude a point says
abbrev pub ExcludeRefuses : List ℕ → Exclusion → ToolFault → Type 0
ExcludeRefuses address e NoPoint = place_of e.table address ≡ None
ExcludeRefuses address e AlreadyOut = HasMark address true e
ExcludeRefuses address e NotOut = ⊥

-- what a refusal to restore a point says
abbrev pub RestoreRefuses : List ℕ → Exclusion → ToolFault → Type 0
RestoreRefuses address e NoPoint = place_of e.table address ≡ None
RestoreRefuses address e AlreadyOut = ⊥
RestoreRefuses address e NotOut = HasMark address false e
