-- The state of the reader of a header after a text.
use Rattle.std.specs.Prelude.{◌≡◌, ◌<◌, ◌≤◌, ℕ, true, false, List, [], ◌∷◌, ◌++◌, length, take}
use Rattle.vcd_reader.specs.Reading.{header, body, body_after}
use Rattle.vcd_reader.specs.Dump.{HasNoBody}
use Rattle.vcd_reader.specs.Text.{Stands, HasFault, EndsWithFault, EndsAs}
use Rattle.vcd_reader.specs.Views.{reading_of, declared_of}
use Rattle.vcd_reader.specs.Progress.{is_at_end, is_going}
use Rattle.vcd_reader.specs.declared.fault.DumpFault.{DumpFault}
use Rattle.vcd_reader.specs.declared.fault.DumpFault.TheVariants as dump_fault
use Rattle.vcd_reader.specs.declared.item.Fed.{Fed}
use Rattle.vcd_reader.specs.declared.item.Fed.TheVariants as fed_row
use Rattle.vcd_reader.specs.declared.header_reader.HeaderReader.{HeaderReader}
use Rattle.vcd_reader.specs.declared.progress.Progress.{Progress}
use Rattle.vcd_reader.specs.declared.progress.Progress.TheVariants.{Going, Done, AtEnd}

-- what the text means to a reader of a header that goes on, that is done, or that was done at the end of the input
abbrev pub HeaderMeans : Progress → HeaderReader → List ℕ → Type 0
HeaderMeans Going reader text = Stands text (header (reading_of reader.sections)) reader.word.items
HeaderMeans Done reader text = Stands text (body (body_after (declared_of reader.sections.declared))) []
HeaderMeans AtEnd reader text = EndsAs text (body_after (declared_of reader.sections.declared))

-- the text was read, and what is kept is what it means
pub record HeaderStands (reader : HeaderReader) (text : List ℕ) : Type 0 where
  pub at : reader.at ≡ length text
  pub means : HeaderMeans reader.progress reader text

-- the header of the text has the fault, if it is not want of memory
abbrev pub IsFoundFault : List ℕ → DumpFault → Type 0
IsFoundFault text dump_fault.NoMemory = Unit {0}
IsFoundFault text (dump_fault.At kind byte) = HasFault text (dump_fault.At kind byte) × HasNoBody text

-- the same where the text ends
abbrev pub IsFaultAtEnd : List ℕ → DumpFault → Type 0
IsFaultAtEnd text dump_fault.NoMemory = Unit {0}
IsFaultAtEnd text (dump_fault.At kind byte) = EndsWithFault text (dump_fault.At kind byte) × HasNoBody text

-- the same for a text and the next piece, of which an empty one is the end
abbrev pub IsFaultOf : List ℕ → List ℕ → DumpFault → Type 0
IsFaultOf text [] fault = IsFaultAtEnd text fault
IsFaultOf text (byte ∷ piece) fault = IsFoundFault (text ++ byte ∷ piece) fault

-- the next piece, which is not empty, was used up and the header goes on
pub record HasMore (reader : HeaderReader) (text piece : List ℕ) : Type 0 where
  pub some : 0 < length piece
  pub goes_on : is_going reader.progress ≡ true
  pub stands : HeaderStands reader (text ++ piece)

-- this number of bytes of the next piece was used, and the header is done, at the end of the input only where the piece is empty
pub record IsDone (used : ℕ) (reader : HeaderReader) (text piece : List ℕ) : Type 0 where
  pub within : used ≤ length piece
  pub done : is_going reader.progress ≡ false
  pub ends : is_at_end reader.progress ≡ true → piece ≡ []
  pub stands : HeaderStands reader (text ++ take used piece)

-- what the next piece came to
abbrev pub HasFed : Fed → HeaderReader → List ℕ → List ℕ → Type 0
HasFed fed_row.More reader text piece = HasMore reader text piece
HasFed (fed_row.Done used) reader text piece = IsDone used reader text piece
