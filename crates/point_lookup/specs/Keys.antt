-- What of an address its place among the points goes by, and how it is read from the fields of a text. Whether the
-- fields spell an address is not asked.
use Rattle.std.specs.Prelude.{◌≡◌, ℕ, bytes_eq, if◌then◌else◌, List, [], ◌∷◌, codes, Option, Some, None}
use Rattle.coverage_db.specs.declared.address.Address.{Address}
use Rattle.coverage_db.specs.declared.address.SourceLine.{SourceLine}
use Rattle.coverage_db.specs.declared.address.Subject.{Subject}
use Rattle.coverage_db.specs.declared.address.Subject.TheVariants.{Line, Logic, Toggle, State, Arc, Word}
use Rattle.coverage_db.specs.declared.db.DbInstance.{DbInstance}
use Rattle.coverage_db.specs.Fields.{◌>>=◌, field_at, number_at}
use Rattle.coverage_db.specs.Reading.{index_at, instance_of}
use Rattle.point_words.specs.declared.line_word.LineWord.TheVariants as line
use Rattle.point_words.specs.declared.operator.Operator.TheVariants as operator
use Rattle.point_words.specs.Words.{node_case_of}
use Rattle.point_lookup.specs.declared.key.Key.{Key}
use Rattle.point_lookup.specs.declared.key.KeySubject.{KeySubject}
use Rattle.point_lookup.specs.declared.key.KeySubject.TheVariants as key

-- a line of no source, where the order does not look at it
abbrev pub nowhere : SourceLine
nowhere = record { source = 0; line = 0 }

-- a key as what a point counts
abbrev pub seen_subject : KeySubject → Subject
seen_subject (key.Line number) = Line number nowhere line.If
seen_subject (key.Logic number case) = Logic number nowhere operator.Value case
seen_subject (key.Toggle name index rise) = Toggle name.now index rise
seen_subject (key.State name state) = State name.now state.now
seen_subject (key.Arc name from to) = Arc name.now from.now to.now
seen_subject (key.Word name index write) = Word name.now index write

-- a key as an address
abbrev pub seen : Key → Address
seen k = record { instance = k.instance; subject = seen_subject k.subject }

-- the number of a statement
unfoldable pub line_key : List (List ℕ) → Option Subject
line_key fields = do
  number ← number_at 0 4294967295 fields
  Some (Line number.0 nowhere line.If)

-- the number of a node, and after its place and its operator the truths
unfoldable pub logic_key : List (List ℕ) → Option Subject
logic_key fields = do
  number ← number_at 0 4294967295 fields
  place ← field_at number.1
  sign ← field_at place.1
  truths ← field_at sign.1
  case ← node_case_of truths.0
  Some (Logic number.0 nowhere operator.Value case)

-- the name of a signal, the index, and `01` or anything else
unfoldable pub toggle_key : List (List ℕ) → Option Subject
toggle_key fields = do
  name ← field_at fields
  index ← index_at name.1
  rise ← field_at index.1
  Some (Toggle name.0 index.0 (bytes_eq rise.0 (codes "01")))

-- a state, or an arc where another field follows
abbrev pub machine_of : List ℕ → List ℕ → Option (List ℕ × List (List ℕ)) → Subject
machine_of name state None = State name state
machine_of name state (Some next) = Arc name state next.0

-- the name of a signal, and one state or two
unfoldable pub machine_key : List (List ℕ) → Option Subject
machine_key fields = do
  name ← field_at fields
  state ← field_at name.1
  Some (machine_of name.0 state.0 (field_at state.1))

-- the name of a memory, the index, and `w` or anything else
unfoldable pub word_key : List (List ℕ) → Option Subject
word_key fields = do
  name ← field_at fields
  index ← number_at 0 4294967295 name.1
  write ← field_at index.1
  Some (Word name.0 index.0 (bytes_eq write.0 (codes "w")))

-- by the letter
unfoldable pub subject_key : List ℕ → List (List ℕ) → Option Subject
subject_key letter fields =
    if bytes_eq letter (codes "l") then line_key fields
    else if bytes_eq letter (codes "c") then logic_key fields
    else if bytes_eq letter (codes "t") then toggle_key fields
    else if bytes_eq letter (codes "f") then machine_key fields
    else if bytes_eq letter (codes "m") then word_key fields
    else None

-- the letter, the instance, and the rest
unfoldable pub address_key : List DbInstance → List (List ℕ) → Option Address
address_key instances fields = do
  letter ← field_at fields
  path ← field_at letter.1
  instance ← instance_of instances path.0
  subject ← subject_key letter.0 path.1
  Some (record { instance = instance; subject = subject })
