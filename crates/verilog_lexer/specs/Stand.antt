-- The state of reading: a text, and others that wait for it.
use Rattle.std.specs.Prelude.{ℕ, ◌≡◌, ◌+◌, ◌-◌, ◌<◌, List, [], ◌∷◌, ◌++◌, Ok, length, map, take, drop}
use Rattle.verilog_lexer.specs.Answer.{Answer, ◌>>=◌}
use Rattle.verilog_lexer.specs.Sources.{SourceText}
use Rattle.verilog_lexer.specs.Spot.{after_all}
use Rattle.verilog_lexer.specs.declared.spot.Spot.{Spot}
use Rattle.verilog_lexer.specs.Reading.{Reading, PassageText, Entry, opened, scan_passage, inner_at}
use Rattle.verilog_lexer.specs.ReadingView.{reading_view, passage_view}
use Rattle.verilog_lexer.specs.declared.reader.Reader.{Reader}

-- the texts that wait, the outermost first, the text that is read, and what has been read
pub record Stand : Type 0 where
  pub waiting : List PassageText
  pub passage : PassageText
  pub reading : Reading

abbrev pub stand_of : Reader → Stand
stand_of reader = record { waiting = map passage_view reader.waiting.items; passage = passage_view reader.passage; reading = reading_view reader.reading }

-- the reading of what is left of a text, inside which this number of others may be entered
abbrev pub resumed : ℕ → List SourceText → PassageText → Reading → Answer Reading
resumed depth sources passage reading = scan_passage (inner_at depth sources) passage reading

-- the reading of the texts that wait, from the inside out
unfoldable pub outward : ℕ → List SourceText → List PassageText → Answer Reading → Answer Reading
outward depth sources [] given = given
outward depth sources (passage ∷ others) given = outward (depth - 1) sources others given >>= resumed depth sources passage

-- what all that is left says
unfoldable pub outcome : List SourceText → Stand → Answer Reading
outcome sources stand = outward 64 sources stand.waiting (resumed (64 - length stand.waiting) sources stand.passage stand.reading)

-- the turns that texts take at most: one for each byte, and one at the end of each
unfoldable pub text_turns : List PassageText → ℕ
text_turns [] = 0
text_turns (passage ∷ others) = length passage.text + 1 + text_turns others

-- the same of files
unfoldable pub file_turns : List SourceText → ℕ
file_turns [] = 0
file_turns (source ∷ others) = length source.bytes + 1 + file_turns others

-- the turns that are left at most: those of the texts, and those of what may still be put in
unfoldable pub work : Stand → ℕ
work stand = text_turns stand.waiting + (length stand.passage.text + 1) + stand.reading.room

-- a passage after this number of bytes
abbrev pub advanced : ℕ → PassageText → PassageText
advanced bytes passage = record passage { text = drop bytes passage.text; spot = after_all passage.spot (take bytes passage.text) }

-- the text that is read waits for what is opened inside it
pub record Enters (sources : List SourceText) (spot : Spot) (entry : Entry) (old new : Stand) : Type 0 where
  pub room : length old.waiting < 64
  pub waiting : new.waiting ≡ old.waiting ++ old.passage ∷ []
  pub opened : opened sources spot entry old.reading ≡ Ok (record { passage = new.passage; reading = new.reading })

-- the same is said by what is left, and less work is left
pub record Proceeds (sources : List SourceText) (old new : Stand) : Type 0 where
  pub same : outcome sources old ≡ outcome sources new
  pub less : work new < work old
