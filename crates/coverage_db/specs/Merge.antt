-- The merge of two tables of one design.
use Rattle.std.specs.Prelude.{◌≡◌, ◌≢◌, ℕ, ◌+◌, if◌then◌else◌, List, [], ◌∷◌, ◌++◌, map, length, codes, decimal, Option, Some, None, option_map, unwrap_or, slice_get, Bool, true, false, bytes_eq, ◌==◌, ◌⊎◌}
use Rattle.std.specs.declared.cmp.Ordering.{Ordering}
use Rattle.std.specs.Ordering.{nat_cmp, ordering_then, is_gt}
use Rattle.coverage_db.specs.declared.db.Db.{Db}
use Rattle.coverage_db.specs.declared.db.DbPoint.{DbPoint}
use Rattle.coverage_db.specs.declared.fault.MergeFault.{MergeFault}
use Rattle.coverage_db.specs.declared.fault.MergeFault.TheVariants.{DesignsDiffer, NoMemory}
use Rattle.coverage_db.specs.declared.verdict.DbVerdict.{DbVerdict}
use Rattle.coverage_db.specs.declared.verdict.DbVerdict.TheVariants.{Hit, Missed, Undetermined}
use Rattle.coverage_db.specs.declared.version.Version.TheVariants.{Two}
use Rattle.coverage_db.specs.Order.{bytes_cmp}
use Rattle.coverage_db.specs.Same.{same_instance, same_point}
use Rattle.coverage_db.specs.Text.{version_line, top_line, source_lines, instance_line, count_line, address_text}
use Rattle.coverage_db.specs.Windows.{joined_windows}

-- by time, and then by the bytes of the path
abbrev pub doubt_cmp : ℕ → List ℕ → ℕ → List ℕ → Ordering
doubt_cmp time path other_time other_path = ordering_then (nat_cmp time other_time) (bytes_cmp path other_path)

-- the other verdict of a point is the one of both when they are joined
abbrev pub yields_to : DbVerdict → DbVerdict → Bool
yields_to Hit v = false
yields_to Missed v = true
yields_to (Undetermined time path) Hit = true
yields_to (Undetermined time path) Missed = false
yields_to (Undetermined time path) (Undetermined other_time other_path) = is_gt (doubt_cmp time path other_time other_path)

-- the lesser of two doubts
abbrev pub lesser : ℕ → List ℕ → ℕ → List ℕ → DbVerdict
lesser time path other_time other_path =
    if is_gt (doubt_cmp time path other_time other_path) then Undetermined other_time other_path else Undetermined time path

-- hit if either is, else undetermined if either is, with the lesser doubt, else missed
abbrev pub joined : DbVerdict → DbVerdict → DbVerdict
joined Hit v = Hit
joined Missed v = v
joined (Undetermined time path) Hit = Hit
joined (Undetermined time path) Missed = Undetermined time path
joined (Undetermined time path) (Undetermined other_time other_path) = lesser time path other_time other_path

-- the points of the first table, each with the joined verdict
abbrev pub merged_points : List DbPoint → List DbPoint → List DbPoint
merged_points [] others = []
merged_points (p ∷ points) [] = []
merged_points (p ∷ points) (q ∷ others) = record p { verdict = joined p.verdict q.verdict } ∷ merged_points points others

-- the merge of two tables: the first with the joined verdicts, and with the windows of both
abbrev pub merged : Db → Db → Db
merged left right = record left { points = merged_points left.points right.points; windows = joined_windows left.windows right.windows }

-- the merge of a table with others, one after the other
abbrev pub merged_all : Db → List Db → Db
merged_all first [] = first
merged_all first (db ∷ others) = merged_all (merged first db) others

-- the lines of a table, each point without its verdict, and without the windows
abbrev pub lines_from_count : Db → List (List ℕ)
lines_from_count db = count_line (decimal (length db.points)) ∷ map (λ p. address_text db.instances p.address) db.points ++ codes "end" ∷ []

abbrev pub lines_from_instances : Db → List (List ℕ)
lines_from_instances db = map instance_line db.instances ++ lines_from_count db

abbrev pub lines_from_sources : Db → List (List ℕ)
lines_from_sources db = source_lines 1 db.sources ++ lines_from_instances db

abbrev pub bare_lines : Db → List (List ℕ)
bare_lines db = version_line Two ∷ top_line db.top ∷ lines_from_sources db

-- the line at a place, and `end` for a place after the last one
abbrev pub line_at : List (List ℕ) → ℕ → List ℕ
line_at lines place = unwrap_or (slice_get lines place) (codes "end")

-- the texts agree outside verdicts and windows
abbrev pub SameDesign : Db → Db → Type 0
SameDesign left right = bare_lines left ≡ bare_lines right

-- the line with this number is the first that differs, and says this on either side
pub record DiffersAt (left right : Db) (number : ℕ) (left_line right_line : List ℕ) : Type 0 where
  pub before : List (List ℕ)
  pub left_others : List (List ℕ)
  pub right_others : List (List ℕ)
  pub left_is : bare_lines left ≡ before ++ left_line ∷ left_others
  pub right_is : bare_lines right ≡ before ++ right_line ∷ right_others
  pub differ : left_line ≢ right_line
  pub number_is : number ≡ length before + 1

-- what a refusal says
abbrev pub Refuses : Db → Db → MergeFault → Type 0
Refuses left right NoMemory = Unit {0}
Refuses left right (DesignsDiffer line left_line right_line) = DiffersAt left right line left_line right_line

-- how the point at a place came out
abbrev pub verdict_at : ℕ → Db → Option DbVerdict
verdict_at place db = option_map (λ p. p.verdict) (slice_get db.points place)

-- one of the tables has the point at a place hit
abbrev pub HitInOne : ℕ → List Db → Type 0
HitInOne place [] = ⊥
HitInOne place (db ∷ others) = (verdict_at place db ≡ Some Hit) ⊎ HitInOne place others

-- ---- the first difference, part by part

-- the first place where two lists differ, or one of them ends
abbrev pub first_other : {X : Type 0} → (X → X → Bool) → List X → List X → Option ℕ
first_other same [] [] = None
first_other same [] (y ∷ ys) = Some 0
first_other same (x ∷ xs) [] = Some 0
first_other same (x ∷ xs) (y ∷ ys) = if same x y then option_map (λ place. place + 1) (first_other same xs ys) else Some 0

abbrev pub if_other : Option ℕ → ℕ → Option ℕ → Option ℕ
if_other None before otherwise = otherwise
if_other (Some place) before otherwise = Some (before + place)

-- the number of lines before the first that differs, by the parts of the tables
abbrev pub difference_of : Db → Db → Option ℕ
difference_of left right =
    if bytes_eq left.top right.top then
    if_other (first_other bytes_eq left.sources right.sources) 2
    (if_other (first_other same_instance left.instances right.instances) (2 + length left.sources)
    (if length left.points == length right.points then if_other (first_other same_point left.points right.points) (2 + length left.sources + length left.instances + 1) None
    else Some (2 + length left.sources + length left.instances)))
    else Some 1
