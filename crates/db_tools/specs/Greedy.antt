-- The points that a list of addresses names, each the first that comes after those of the addresses before it.
use Rattle.std.specs.Prelude.{◌≡◌, ℕ, ◌+◌, Bool, true, false, bytes_eq, if◌then◌else◌, List, [], ◌∷◌, Some}
use Rattle.coverage_db.specs.declared.db.Db.{Db}
use Rattle.coverage_db.specs.declared.db.DbInstance.{DbInstance}
use Rattle.coverage_db.specs.declared.db.DbPoint.{DbPoint}
use Rattle.coverage_db.specs.declared.fault.DbFault.{DbFault}
use Rattle.coverage_db.specs.declared.fault.DbFault.TheVariants.{At, NoMemory}
use Rattle.coverage_db.specs.declared.fault.DbKind.TheVariants.{BadLine}
use Rattle.coverage_db.specs.Text.{address_text}
use Rattle.db_tools.specs.Faults.{IsNoAddress}

-- the text is the first of the lines
abbrev pub is_first : List ℕ → List (List ℕ) → Bool
is_first text [] = false
is_first text (line ∷ lines) = bytes_eq text line

-- a mark for each point, set where its address is the next of the lines
abbrev pub matched_marks : List DbInstance → List DbPoint → List (List ℕ) → List Bool
matched_marks instances [] lines = []
matched_marks instances (p ∷ ps) [] = false ∷ matched_marks instances ps []
matched_marks instances (p ∷ ps) (line ∷ lines) =
    if bytes_eq (address_text instances p.address) line then true ∷ matched_marks instances ps lines else false ∷ matched_marks instances ps (line ∷ lines)

-- the lines that are left then
abbrev pub unmatched : List DbInstance → List DbPoint → List (List ℕ) → List (List ℕ)
unmatched instances [] lines = lines
unmatched instances (p ∷ ps) [] = unmatched instances ps []
unmatched instances (p ∷ ps) (line ∷ lines) = if bytes_eq (address_text instances p.address) line then unmatched instances ps lines else unmatched instances ps (line ∷ lines)

-- what a refusal of addresses says
abbrev pub IsMarkFault : Db → List (List ℕ) → DbFault → Type 0
IsMarkFault table lines NoMemory = Unit {0}
IsMarkFault table lines (At BadLine (Some number)) = (place : ℕ) × (number ≡ 3 + place) × IsNoAddress table lines place
IsMarkFault table lines other = ⊥
