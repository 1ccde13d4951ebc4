-- Reading a point from the fields of its line, from left to right.
-- Bytes are written as numbers: 46 dot, 58 colon.
use Rattle.std.specs.Prelude.{ℕ, ◌+◌, Bool, true, false, not, ◌&&◌, bytes_eq, if◌then◌else◌, List, [], ◌∷◌, codes, Option, Some, None, option_map}
use Rattle.std.specs.Option.{is_some}
use Rattle.cov_host.specs.Identifier.{is_identifier}
use Rattle.coverage_db.specs.declared.address.SourceLine.{SourceLine}
use Rattle.coverage_db.specs.declared.address.Subject.{Subject}
use Rattle.coverage_db.specs.declared.address.Subject.TheVariants.{Line, Logic, Toggle, State, Arc, Word}
use Rattle.coverage_db.specs.declared.db.DbInstance.{DbInstance}
use Rattle.coverage_db.specs.declared.db.DbPoint.{DbPoint}
use Rattle.coverage_db.specs.declared.verdict.DbVerdict.{DbVerdict}
use Rattle.coverage_db.specs.declared.verdict.DbVerdict.TheVariants.{Hit, Missed, Undetermined}
use Rattle.coverage_db.specs.Fields.{◌>>=◌, split_first, split_last, fields_of, number_of, field_at, end_at, equals_at, number_at}
use Rattle.coverage_db.specs.Table.{is_state}
use Rattle.point_words.specs.Words.{line_word_of, operator_of, node_case_of, can_have}

-- a source and its line, where there are this number of sources
unfoldable pub place_of : ℕ → List ℕ → Option SourceLine
place_of sources word = do
  parts ← split_first 58 word
  source ← number_of 1 sources parts.0
  line ← number_of 1 4294967295 parts.1
  Some (record { source = source; line = line })

unfoldable pub place_at : ℕ → List (List ℕ) → Option (SourceLine × List (List ℕ))
place_at sources fields = do
  field ← field_at fields
  place ← place_of sources field.0
  Some (place, field.1)

abbrev pub tested_at : (List ℕ → Bool) → List (List ℕ) → Option (List ℕ × List (List ℕ))
tested_at test fields = do
  field ← field_at fields
  if test field.0 then Some field else None

-- the index as declared, or `-`
unfoldable pub index_at : List (List ℕ) → Option (Option ℕ × List (List ℕ))
index_at fields = do
  field ← field_at fields
  if bytes_eq field.0 (codes "-") then Some (None, field.1) else (number_of 0 4294967295 field.0 >>= λ index. Some (Some index, field.1))

-- whether the field is the first of two words; none where it is neither
abbrev pub choice_at : List ℕ → List ℕ → List (List ℕ) → Option (Bool × List (List ℕ))
choice_at first second fields = do
  field ← field_at fields
  if bytes_eq field.0 first then Some (true, field.1) else if bytes_eq field.0 second then Some (false, field.1) else None

unfoldable pub line_at : ℕ → List (List ℕ) → Option (Subject × List (List ℕ))
line_at sources fields = do
  number ← number_at 1 4294967295 fields
  place ← place_at sources number.1
  field ← field_at place.1
  word ← line_word_of field.0
  equals ← equals_at field.1
  Some (Line number.0 place.0 word, equals.1)

unfoldable pub logic_at : ℕ → List (List ℕ) → Option (Subject × List (List ℕ))
logic_at sources fields = do
  number ← number_at 1 4294967295 fields
  place ← place_at sources number.1
  op_field ← field_at place.1
  operator ← operator_of op_field.0
  case_field ← field_at op_field.1
  case ← node_case_of case_field.0
  equals ← equals_at case_field.1
  if can_have operator case then Some (Logic number.0 place.0 operator case, equals.1) else None

unfoldable pub toggle_at : List (List ℕ) → Option (Subject × List (List ℕ))
toggle_at fields = do
  name ← tested_at is_identifier fields
  index ← index_at name.1
  rise ← choice_at (codes "01") (codes "10") index.1
  equals ← equals_at rise.1
  Some (Toggle name.0 index.0 rise.0, equals.1)

-- an arc to this state
unfoldable pub arc_at : List ℕ → List ℕ → List ℕ → List (List ℕ) → Option (Subject × List (List ℕ))
arc_at name from target fields = if is_state target && not (bytes_eq from target) then (equals_at fields >>= λ equals. Some (Arc name from target, equals.1)) else None

-- a state, or an arc where another state follows
unfoldable pub machine_at : List (List ℕ) → Option (Subject × List (List ℕ))
machine_at fields = do
  name ← tested_at is_identifier fields
  state ← tested_at is_state name.1
  next ← field_at state.1
  if bytes_eq next.0 (codes "=") then Some (State name.0 state.0, next.1) else arc_at name.0 state.0 next.0 next.1

unfoldable pub word_at : List (List ℕ) → Option (Subject × List (List ℕ))
word_at fields = do
  name ← tested_at is_identifier fields
  index ← number_at 0 4294967295 name.1
  write ← choice_at (codes "w") (codes "r") index.1
  equals ← equals_at write.1
  Some (Word name.0 index.0 write.0, equals.1)

-- what a point with this letter counts
unfoldable pub subject_at : ℕ → List ℕ → List (List ℕ) → Option (Subject × List (List ℕ))
subject_at sources letter fields =
    if bytes_eq letter (codes "l") then line_at sources fields
    else if bytes_eq letter (codes "c") then logic_at sources fields
    else if bytes_eq letter (codes "t") then toggle_at fields
    else if bytes_eq letter (codes "f") then machine_at fields
    else if bytes_eq letter (codes "m") then word_at fields
    else None

-- the place of the instance with this path
abbrev pub instance_of : List DbInstance → List ℕ → Option ℕ
instance_of [] path = None
instance_of (instance ∷ instances) path = if bytes_eq instance.path path then Some 0 else option_map (λ place. place + 1) (instance_of instances path)

-- the path of a signal or memory in one of the instances
unfoldable pub is_thing : List DbInstance → List ℕ → Bool
is_thing instances path = is_some (split_last 46 path >>= λ parts. if is_identifier parts.1 then instance_of instances parts.0 else None)

unfoldable pub doubt_at : List DbInstance → List (List ℕ) → Option DbVerdict
doubt_at instances fields = do
  time ← number_at 0 9223372036854775807 fields
  path ← field_at time.1
  end ← end_at path.1
  if is_thing instances path.0 then Some (Undetermined time.0 path.0) else None

-- the verdict that begins with this word, and no more fields
unfoldable pub verdict_by : List DbInstance → List ℕ → List (List ℕ) → Option DbVerdict
verdict_by instances word fields =
    if bytes_eq word (codes "hit") then (end_at fields >>= λ end. Some Hit)
    else if bytes_eq word (codes "missed") then (end_at fields >>= λ end. Some Missed)
    else if bytes_eq word (codes "?") then doubt_at instances fields
    else None

unfoldable pub verdict_at : List DbInstance → List (List ℕ) → Option DbVerdict
verdict_at instances fields = do
  word ← field_at fields
  verdict_by instances word.0 word.1

-- the point of a line, where there are this number of sources and these instances
unfoldable pub point_of : ℕ → List DbInstance → List ℕ → Option DbPoint
point_of sources instances line = do
  letter ← field_at (fields_of line)
  path ← field_at letter.1
  instance ← instance_of instances path.0
  subject ← subject_at sources letter.0 path.1
  verdict ← verdict_at instances subject.1
  Some (record { address = record { instance = instance; subject = subject.0 }; verdict = verdict })
