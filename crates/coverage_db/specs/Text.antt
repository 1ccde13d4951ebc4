-- The text of a table, and that of version 1.
-- Bytes are written as numbers: 10 line feed, 32 space, 58 colon.
use Rattle.std.specs.Prelude.{◌≡◌, ◌⊎◌, ℕ, ◌+◌, List, [], ◌∷◌, ◌++◌, length, map, codes, decimal, Bool, true, false, ◌&&◌, ◌||◌, ◌==◌, Option, Some, None, unwrap_or, slice_get}
use Rattle.std.specs.List.{flat_map, slice_split}
use Rattle.std.specs.Option.{is_some, option_map}
use Rattle.coverage_db.specs.declared.address.Address.{Address}
use Rattle.coverage_db.specs.declared.address.SourceLine.{SourceLine}
use Rattle.coverage_db.specs.declared.address.Subject.{Subject}
use Rattle.coverage_db.specs.declared.address.Subject.TheVariants.{Line, Logic, Toggle, State, Arc, Word}
use Rattle.coverage_db.specs.declared.db.Db.{Db}
use Rattle.coverage_db.specs.declared.db.DbInstance.{DbInstance}
use Rattle.coverage_db.specs.declared.db.DbPoint.{DbPoint}
use Rattle.coverage_db.specs.declared.verdict.DbVerdict.{DbVerdict}
use Rattle.coverage_db.specs.declared.verdict.DbVerdict.TheVariants.{Hit, Missed, Undetermined}
use Rattle.coverage_db.specs.declared.version.Version.{Version}
use Rattle.coverage_db.specs.declared.version.Version.TheVariants.{One, Two}
use Rattle.coverage_db.specs.declared.window.Window.{Window}
use Rattle.coverage_db.specs.Fields.{behind}
use Rattle.point_words.specs.Words.{line_word_text, node_case_text, operator_text}

-- a line ends in one line feed
abbrev pub ended : List ℕ → List ℕ
ended line = line ++ 10 ∷ []

-- fields are separated by one space
abbrev pub then_field : List ℕ → List ℕ → List ℕ
then_field fields field = fields ++ 32 ∷ field

-- a source and its line
abbrev pub place_text : SourceLine → List ℕ
place_text at = decimal at.source ++ 58 ∷ decimal at.line

-- the index as declared, `-` for a signal without a range
abbrev pub index_text : Option ℕ → List ℕ
index_text None = codes "-"
index_text (Some index) = decimal index

-- from 0 to 1, or from 1 to 0
abbrev pub rise_text : Bool → List ℕ
rise_text true = codes "01"
rise_text false = codes "10"

-- read, or written
abbrev pub write_text : Bool → List ℕ
write_text false = codes "r"
write_text true = codes "w"

-- l, c, t, f or m
abbrev pub letter : Subject → ℕ
letter (Line number at word) = 108
letter (Logic number at operator case) = 99
letter (Toggle name index rise) = 116
letter (State name state) = 102
letter (Arc name from to) = 102
letter (Word name index write) = 109

-- the fields of an address after its instance
abbrev pub subject_fields : Subject → List ℕ
subject_fields (Line number at word) = decimal number ++ 32 ∷ place_text at ++ 32 ∷ line_word_text word
subject_fields (Logic number at operator case) = decimal number ++ 32 ∷ place_text at ++ 32 ∷ operator_text operator ++ 32 ∷ node_case_text case
subject_fields (Toggle name index rise) = name ++ 32 ∷ index_text index ++ 32 ∷ rise_text rise
subject_fields (State name state) = name ++ 32 ∷ state
subject_fields (Arc name from to) = name ++ 32 ∷ from ++ 32 ∷ to
subject_fields (Word name index write) = name ++ 32 ∷ decimal index ++ 32 ∷ write_text write

-- the path of the instance at a place
abbrev pub path_at : List DbInstance → ℕ → List ℕ
path_at instances place = unwrap_or (option_map (λ instance. instance.path) (slice_get instances place)) []

-- a letter, the instance and the other fields
abbrev pub address_text : List DbInstance → Address → List ℕ
address_text instances address = letter address.subject ∷ 32 ∷ path_at instances address.instance ++ 32 ∷ subject_fields address.subject

-- hit, missed, or a doubt with its time and its path
abbrev pub verdict_text : DbVerdict → List ℕ
verdict_text Hit = codes "hit"
verdict_text Missed = codes "missed"
verdict_text (Undetermined time path) = codes "? " ++ decimal time ++ 32 ∷ path

-- an address and its verdict
abbrev pub point_line : List DbInstance → DbPoint → List ℕ
point_line instances point = address_text instances point.address ++ codes " = " ++ verdict_text point.verdict

abbrev pub version_line : Version → List ℕ
version_line One = codes "covered-db 1"
version_line Two = codes "covered-db 2"

abbrev pub top_line : List ℕ → List ℕ
top_line top = codes "top " ++ top

abbrev pub source_line : ℕ → List ℕ → List ℕ
source_line number name = codes "source " ++ decimal number ++ 32 ∷ name

-- the sources are numbered in order
abbrev pub source_lines : ℕ → List (List ℕ) → List (List ℕ)
source_lines number [] = []
source_lines number (name ∷ names) = source_line number name ∷ source_lines (number + 1) names

abbrev pub instance_line : DbInstance → List ℕ
instance_line instance = codes "instance " ++ instance.path ++ 32 ∷ instance.module

-- the digits of the number of points
abbrev pub count_line : List ℕ → List ℕ
count_line count = codes "points " ++ count

-- the digits of the number of windows
abbrev pub window_count_line : List ℕ → List ℕ
window_count_line count = codes "windows " ++ count

abbrev pub window_line : Window → List ℕ
window_line window = codes "window " ++ decimal window.first ++ 32 ∷ decimal window.last

-- the lines before the count of the points
abbrev pub head_lines : Version → Db → List (List ℕ)
head_lines version db = version_line version ∷ top_line db.top ∷ source_lines 1 db.sources ++ map instance_line db.instances

-- the lines up to the last point, with these digits for the number of points
abbrev pub lines_to_points : Version → List ℕ → Db → List (List ℕ)
lines_to_points version count db = head_lines version db ++ count_line count ∷ map (point_line db.instances) db.points

-- the lines up to the last window, with these digits for the numbers of points and of windows; version 1 has no windows
abbrev pub lines_to_windows : Version → List ℕ → List ℕ → Db → List (List ℕ)
lines_to_windows One points windows db = lines_to_points One points db
lines_to_windows Two points windows db = lines_to_points Two points db ++ window_count_line windows ∷ map window_line db.windows

-- all lines, with these digits for the numbers of points and of windows
abbrev pub lines_with_counts : Version → List ℕ → List ℕ → Db → List (List ℕ)
lines_with_counts version points windows db = lines_to_windows version points windows db ++ codes "end" ∷ []

-- one of `l`, `c`, `t`, `f` and `m`, and a space
abbrev pub begins_point : List ℕ → Bool
begins_point [] = false
begins_point (letter ∷ []) = false
begins_point (letter ∷ space ∷ others) = (letter == 108 || letter == 99 || letter == 116 || letter == 102 || letter == 109) && space == 32

-- `window` and a space
abbrev pub begins_window : List ℕ → Bool
begins_window line = is_some (behind (codes "window ") line)

-- each line with its line feed
abbrev pub text_of_lines : List (List ℕ) → List ℕ
text_of_lines lines = flat_map ended lines

-- the text of a table in this version
abbrev pub text_in : Version → Db → List ℕ
text_in version db = text_of_lines (lines_with_counts version (decimal (length db.points)) (decimal (length db.windows)) db)

-- the text of a table
abbrev pub text_of : Db → List ℕ
text_of db = text_in Two db

-- the text is the table's, or that of version 1 of a table without windows
abbrev pub IsTextOf : Db → List ℕ → Type 0
IsTextOf db text = (text ≡ text_of db) ⊎ ((db.windows ≡ []) × (text ≡ text_in One db))

-- what is between the line feeds of a text: its lines, and at last what is after the last line feed
abbrev pub lines_of : List ℕ → List (List ℕ)
lines_of text = slice_split (λ byte. byte == 10) text
