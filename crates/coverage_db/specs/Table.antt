-- The tables that have a text.
-- Bytes are written as numbers: 46 dot; those below 32 are in no name of a file.
use Rattle.std.specs.Prelude.{◌≡◌, ◌≢◌, ℕ, ◌+◌, ◌<◌, ◌≤◌, ◌^◌, Bool, ◌&&◌, ◌||◌, nat_le, ◌==◌, IfSome, IsTrue, List, [], ◌∷◌, ◌++◌, length, All, Contains}
use Rattle.std.specs.declared.cmp.Ordering.{Ordering}
use Rattle.std.specs.declared.cmp.Ordering.TheVariants.{Less}
use Rattle.std.specs.List.{list_all, slice_split}
use Rattle.std.specs.Char.{is_ascii_digit}
use Rattle.cov_host.specs.Identifier.{is_identifier}
use Rattle.coverage_db.specs.declared.address.SourceLine.{SourceLine}
use Rattle.coverage_db.specs.declared.address.Subject.{Subject}
use Rattle.coverage_db.specs.declared.address.Subject.TheVariants.{Line, Logic, Toggle, State, Arc, Word}
use Rattle.coverage_db.specs.declared.db.Db.{Db}
use Rattle.coverage_db.specs.declared.db.DbInstance.{DbInstance}
use Rattle.coverage_db.specs.declared.db.DbPoint.{DbPoint}
use Rattle.coverage_db.specs.declared.verdict.DbVerdict.{DbVerdict}
use Rattle.coverage_db.specs.declared.verdict.DbVerdict.TheVariants.{Hit, Missed, Undetermined}
use Rattle.coverage_db.specs.declared.window.Window.{Window}
use Rattle.coverage_db.specs.Order.{bytes_cmp, address_cmp}
use Rattle.coverage_db.specs.Windows.{window_cmp}
use Rattle.point_words.specs.Words.{can_have}

-- each item comes before the next one
abbrev pub Rises : {T : Type 0} → (T → T → Ordering) → List T → Type 0
Rises cmp [] = Unit {0}
Rises cmp (x ∷ []) = Unit {0}
Rises cmp (x ∷ y ∷ others) = (cmp x y ≡ Less) × Rises cmp (y ∷ others)

-- a simple identifier that is no keyword (IEEE 1364-2001 clause 2.7)
abbrev pub IsIdentifier : List ℕ → Type 0
IsIdentifier name = IsTrue (is_identifier name)

-- identifiers joined by dots
abbrev pub is_path : List ℕ → Bool
is_path path = list_all is_identifier (slice_split (λ byte. byte == 46) path)

-- an identifier, or decimal digits
abbrev pub is_state : List ℕ → Bool
is_state name = is_identifier name || (nat_le 1 (length name) && list_all is_ascii_digit name)

-- one or more bytes, none of them a control character below the space
abbrev pub is_file_name : List ℕ → Bool
is_file_name name = nat_le 1 (length name) && list_all (λ byte. nat_le 32 byte) name

-- an instance has a path, and its module has a name
pub record IsInstance (instance : DbInstance) : Type 0 where
  pub path : IsTrue (is_path instance.path)
  pub module_name : IsIdentifier instance.module

-- numbers from 1 are written for statements, nodes, sources and lines
abbrev pub IsNumber : ℕ → Type 0
IsNumber number = (1 ≤ number) × (number < 2 ^ 32)

-- the line is of one of this number of sources
pub record IsSourceLine (sources : ℕ) (at : SourceLine) : Type 0 where
  pub source : (1 ≤ at.source) × (at.source ≤ sources)
  pub line : IsNumber at.line

-- what a point of a table with this number of sources may count
abbrev pub IsSubject : ℕ → Subject → Type 0
IsSubject sources (Line number at word) = IsNumber number × IsSourceLine sources at
IsSubject sources (Logic number at operator case) = IsNumber number × IsSourceLine sources at × IsTrue (can_have operator case)
IsSubject sources (Toggle name index rise) = IsIdentifier name × IfSome index (λ i. i < 2 ^ 32)
IsSubject sources (State name state) = IsIdentifier name × IsTrue (is_state state)
IsSubject sources (Arc name from to) = IsIdentifier name × IsTrue (is_state from) × IsTrue (is_state to) × (from ≢ to)
IsSubject sources (Word name index write) = IsIdentifier name × (index < 2 ^ 32)

-- the path of a signal or memory in one of the instances
abbrev pub IsThingIn : List DbInstance → List ℕ → Type 0
IsThingIn instances path = (instance : DbInstance) × (name : List ℕ) × Contains instances instance × IsIdentifier name × (path ≡ instance.path ++ 46 ∷ name)

-- a doubt has a time and a thing
abbrev pub IsVerdict : List DbInstance → DbVerdict → Type 0
IsVerdict instances Hit = Unit {0}
IsVerdict instances Missed = Unit {0}
IsVerdict instances (Undetermined time path) = (time < 2 ^ 63) × IsThingIn instances path

-- a point of a table with this number of sources and these instances
pub record IsPoint (sources : ℕ) (instances : List DbInstance) (point : DbPoint) : Type 0 where
  pub instance : point.address.instance < length instances
  pub subject : IsSubject sources point.address.subject
  pub verdict : IsVerdict instances point.verdict

-- the window ends after it begins
abbrev pub IsSpan : Window → Type 0
IsSpan window = (window.first < window.last) × (window.last < 2 ^ 63)

-- windows that rise
pub record AreWindows (windows : List Window) : Type 0 where
  pub spans : All IsSpan windows
  pub rise : Rises window_cmp windows
  pub few : length windows < 2 ^ 64

-- the table has a text
pub record IsTable (db : Db) : Type 0 where
  pub top : IsIdentifier db.top
  pub sources : All (λ name. IsTrue (is_file_name name)) db.sources
  pub instances : All IsInstance db.instances
  pub points : All (IsPoint (length db.sources) db.instances) db.points
  pub some_source : db.sources ≢ []
  pub some_instance : db.instances ≢ []
  pub instances_rise : Rises (λ a b. bytes_cmp a.path b.path) db.instances
  pub points_rise : Rises (λ a b. address_cmp a.address b.address) db.points
  pub lines : 3 + length db.sources + length db.instances + length db.points < 2 ^ 32
  pub windows : AreWindows db.windows
