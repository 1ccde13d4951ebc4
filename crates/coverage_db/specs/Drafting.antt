-- Reading a table line by line: what is read of it after one more line, or the fault of that line.
-- Bytes are written as numbers: 32 space.
use Rattle.std.specs.Prelude.{◌≡◌, ◌==◌, ◌<◌, ◌^◌, ℕ, ◌+◌, ◌-◌, Bool, true, ◌&&◌, bytes_eq, if◌then◌else◌, List, [], ◌∷◌, ◌++◌, length, codes, decimal, slice_get, Option, Some, None, Result, Ok, Err}
use Rattle.std.specs.declared.cmp.Ordering.{Ordering}
use Rattle.std.specs.Global.{Global}
use Rattle.std.specs.Option.{is_some}
use Rattle.std.specs.Ordering.{is_lt}
use Rattle.cov_host.specs.Identifier.{is_identifier}
use Rattle.coverage_db.specs.declared.db.Db.{Db}
use Rattle.coverage_db.specs.declared.db.DbInstance.{DbInstance}
use Rattle.coverage_db.specs.declared.db.DbPoint.{DbPoint}
use Rattle.coverage_db.specs.declared.draft.Draft.{Draft}
use Rattle.coverage_db.specs.declared.draft.Stage.{Stage}
use Rattle.coverage_db.specs.declared.draft.Stage.TheVariants as stage
use Rattle.coverage_db.specs.declared.fault.DbFault.{DbFault}
use Rattle.coverage_db.specs.declared.fault.DbFault.TheVariants.{At, NoMemory}
use Rattle.coverage_db.specs.declared.fault.DbKind.TheVariants.{BadLine, WrongVersion, WrongCount}
use Rattle.coverage_db.specs.declared.version.Version.{Version}
use Rattle.coverage_db.specs.declared.version.Version.TheVariants as version
use Rattle.coverage_db.specs.declared.window.Window.{Window}
use Rattle.coverage_db.specs.Fields.{◌>>=◌, split_first, behind, is_plain, number_of}
use Rattle.coverage_db.specs.Order.{bytes_cmp, address_cmp}
use Rattle.coverage_db.specs.Reading.{point_of}
use Rattle.coverage_db.specs.Table.{Rises, is_path, is_file_name}
use Rattle.coverage_db.specs.Text.{begins_point, begins_window, lines_of}
use Rattle.coverage_db.specs.Windows.{window_cmp}

-- what a function returned and left is what reading gives, unless memory ran out
abbrev pub StepsTo : {X : Type 0} → Result X DbFault → Draft → Result Draft DbFault → Type 0
StepsTo (Ok x) new step = step ≡ Ok new
StepsTo (Err NoMemory) new step = Unit {0}
StepsTo (Err (At kind line)) new step = step ≡ Err (At kind line)

-- what a function returned is what reading gives, unless memory ran out
abbrev pub Returns : {X : Type 0} → Result X DbFault → Result X DbFault → Type 0
Returns (Ok x) step = step ≡ Ok x
Returns (Err NoMemory) step = Unit {0}
Returns (Err (At kind line)) step = step ≡ Err (At kind line)

-- ---- the lines before the points

-- the version that is read
unfoldable pub version_of : List ℕ → Option Version
version_of line = if bytes_eq line (codes "covered-db 2") then Some version.Two else if bytes_eq line (codes "covered-db 1") then Some version.One else None

-- the line of a version
abbrev pub is_version : List ℕ → Bool
is_version line = is_some (behind (codes "covered-db ") line >>= λ digits. if is_plain digits then Some digits else None)

unfoldable pub top_of : List ℕ → Option (List ℕ)
top_of line = do
  top ← behind (codes "top ") line
  if is_identifier top then Some top else None

-- the name of the source with this number
unfoldable pub source_of : ℕ → List ℕ → Option (List ℕ)
source_of number line = do
  numbered ← behind (codes "source ") line
  spaced ← behind (decimal number) numbered
  name ← behind (codes " ") spaced
  if is_file_name name then Some name else None

unfoldable pub instance_at : List ℕ → Option DbInstance
instance_at line = do
  fields ← behind (codes "instance ") line
  parts ← split_first 32 fields
  if is_path parts.0 && is_identifier parts.1 then Some (record { path = parts.0; «module» = parts.1 }) else None

-- the digits of the number of points
unfoldable pub count_of : List ℕ → Option (List ℕ)
count_of line = do
  digits ← behind (codes "points ") line
  if is_plain digits then Some digits else None

-- the digits of the number of windows
unfoldable pub window_count_of : List ℕ → Option (List ℕ)
window_count_of line = do
  digits ← behind (codes "windows ") line
  if is_plain digits then Some digits else None

unfoldable pub window_of : List ℕ → Option Window
window_of line = do
  times ← behind (codes "window ") line
  parts ← split_first 32 times
  first ← number_of 0 9223372036854775807 parts.0
  last ← number_of (first + 1) 9223372036854775807 parts.1
  Some (record { first = first; last = last })

-- an item may follow these
abbrev pub after_last : {X : Type 0} → (X → X → Ordering) → Option X → X → Bool
after_last cmp None item = true
after_last cmp (Some last) item = is_lt (cmp last item)

abbrev pub follows : {X : Type 0} → (X → X → Ordering) → List X → X → Bool
follows cmp items item = after_last cmp (slice_get items (length items - 1)) item

-- ---- one more line

abbrev pub bad : {X : Type 0} → ℕ → Result X DbFault
bad number = Err (At BadLine (Some number))

abbrev pub or_else : {X R : Type 0} → Option X → (X → R) → R → R
or_else None f other = other
or_else (Some x) f other = f x

abbrev pub with_source : Draft → List ℕ → Draft
with_source draft name = record draft { db = record draft.db { sources = draft.db.sources ++ name ∷ [] } }

abbrev pub with_instance : Draft → DbInstance → Draft
with_instance draft instance = record draft { stage = stage.Instances; db = record draft.db { instances = draft.db.instances ++ instance ∷ [] } }

abbrev pub with_point : Draft → DbPoint → Draft
with_point draft point = record draft { db = record draft.db { points = draft.db.points ++ point ∷ [] } }

abbrev pub with_window : Draft → Window → Draft
with_window draft window = record draft { db = record draft.db { windows = draft.db.windows ++ window ∷ [] } }

unfoldable pub next_version : ℕ → Draft → List ℕ → Result Draft DbFault
next_version number draft line =
    or_else (version_of line) (λ v. Ok (record draft { stage = stage.Top; version = v })) (if is_version line then Err (At WrongVersion (Some number)) else bad number)

unfoldable pub next_top : ℕ → Draft → List ℕ → Result Draft DbFault
next_top number draft line = or_else (top_of line) (λ top. Ok (record draft { stage = stage.Sources; db = record draft.db { top = top } })) (bad number)

-- the next instance, whose path comes after those so far
unfoldable pub next_instance : ℕ → Draft → List ℕ → Result Draft DbFault
next_instance number draft line =
    or_else (instance_at line >>= λ i. if follows (λ a b. bytes_cmp a.path b.path) draft.db.instances i then Some i else None) (λ i. Ok (with_instance draft i)) (bad number)

-- the next source, or, after at least one source, the first instance
unfoldable pub next_source : ℕ → Draft → List ℕ → Result Draft DbFault
next_source number draft line =
    or_else (source_of (length draft.db.sources + 1) line) (λ name. Ok (with_source draft name)) (if length draft.db.sources == 0 then bad number else next_instance number draft line)

-- the number of points, or one more instance
unfoldable pub next_count : ℕ → Draft → List ℕ → Result Draft DbFault
next_count number draft line = or_else (count_of line) (λ digits. Ok (record draft { stage = stage.Points; count = digits })) (next_instance number draft line)

-- the end
unfoldable pub next_end : ℕ → Draft → List ℕ → Result Draft DbFault
next_end number draft line = if bytes_eq line (codes "end") then Ok (record draft { stage = stage.End }) else bad number

-- the number of windows
unfoldable pub next_window_count : ℕ → Draft → List ℕ → Result Draft DbFault
next_window_count number draft line = or_else (window_count_of line) (λ digits. Ok (record draft { stage = stage.Windows; window_count = digits })) (bad number)

-- what a text of this version has after its points
abbrev pub next_behind : Version → ℕ → Draft → List ℕ → Result Draft DbFault
next_behind version.One number draft line = next_end number draft line
next_behind version.Two number draft line = next_window_count number draft line

-- what is after the points, where their number is right
unfoldable pub next_counted : ℕ → Draft → List ℕ → Result Draft DbFault
next_counted number draft line =
    if bytes_eq draft.count (decimal (length draft.db.points)) then next_behind draft.version number draft line
    else Err (At WrongCount (Some (3 + length draft.db.sources + length draft.db.instances)))

-- the next point, which comes after those so far
unfoldable pub next_point : ℕ → Draft → List ℕ → Result Draft DbFault
next_point number draft line =
    if begins_point line then or_else (point_of (length draft.db.sources) draft.db.instances line >>= λ p. if follows (λ a b. address_cmp a.address b.address) draft.db.points p then Some p else None) (λ p. Ok (with_point draft p)) (bad number)
    else next_counted number draft line

-- the end, where the number of windows is right
unfoldable pub next_windows_counted : ℕ → Draft → List ℕ → Result Draft DbFault
next_windows_counted number draft line =
    if bytes_eq draft.window_count (decimal (length draft.db.windows)) then next_end number draft line
    else Err (At WrongCount (Some (4 + length draft.db.sources + length draft.db.instances + length draft.db.points)))

-- the next window, which comes after those so far
unfoldable pub next_window : ℕ → Draft → List ℕ → Result Draft DbFault
next_window number draft line =
    if begins_window line then or_else (window_of line >>= λ w. if follows window_cmp draft.db.windows w then Some w else None) (λ w. Ok (with_window draft w)) (bad number)
    else next_windows_counted number draft line

abbrev pub next_at : Stage → ℕ → Draft → List ℕ → Result Draft DbFault
next_at stage.Version number draft line = next_version number draft line
next_at stage.Top number draft line = next_top number draft line
next_at stage.Sources number draft line = next_source number draft line
next_at stage.Instances number draft line = next_count number draft line
next_at stage.Points number draft line = next_point number draft line
next_at stage.Windows number draft line = next_window number draft line
next_at stage.End number draft line = bad number

abbrev pub next : ℕ → Draft → List ℕ → Result Draft DbFault
next number draft line = next_at draft.stage number draft line

-- ---- all lines

-- the table, where the text ends after its last line
abbrev pub finish_at : Stage → ℕ → Draft → List ℕ → Result Db DbFault
finish_at stage.End number draft [] = Ok draft.db
finish_at _ number draft rest = bad number

-- what the lines from this number on make of the draft; the last of them has no line feed
abbrev pub and_then : Result Draft DbFault → (Draft → Result Db DbFault) → Result Db DbFault
and_then (Ok draft) f = f draft
and_then (Err fault) f = Err fault

abbrev pub read_lines : ℕ → Draft → List (List ℕ) → Result Db DbFault
read_lines number draft [] = bad number
read_lines number draft (rest ∷ []) = finish_at draft.stage number draft rest
read_lines number draft (line ∷ next_line ∷ lines) = and_then (next number draft line) (λ new. read_lines (number + 1) new (next_line ∷ lines))

-- what reading needs of a draft
pub record IsDraft (draft : Draft) : Type 0 where
  pub few : 4 + length draft.db.sources + length draft.db.instances + length draft.db.points < 2 ^ 32
  pub rising : Rises (λ a b. bytes_cmp a.path b.path) draft.db.instances

-- nothing has been read
abbrev pub start : Global → Draft
start alloc = record { alloc = alloc; stage = stage.Version; version = version.Two; count = []; window_count = []; db = record { top = []; sources = []; instances = []; points = []; windows = [] } }

-- the table of a text, or the first fault
abbrev pub reading : Global → List ℕ → Result Db DbFault
reading alloc text = read_lines 1 (start alloc) (lines_of text)
