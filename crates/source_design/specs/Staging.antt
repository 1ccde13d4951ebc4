-- What the stages over sources answer, whose files were read.
use Rattle.std.specs.Prelude.{◌≡◌, ℕ, List, Option, None, Some}
use Rattle.cov_host.specs.declared.place.Place.{Place}
use Rattle.elab_const.specs.declared.fault.ConstFault.TheVariants as const_fault
use Rattle.flat_design.specs.declared.fault.ElabFault.{ElabFault}
use Rattle.flat_design.specs.declared.fault.ElabFault.TheVariants as elab_fault
use Rattle.verilog_lexer.specs.Sources.{SourceText}
use Rattle.verilog_lexer.specs.declared.fault.LexFault.{LexFault}
use Rattle.verilog_lexer.specs.declared.fault.LexFault.TheVariants as lex_fault
use Rattle.verilog_lexer.specs.declared.fault.LexKind.{LexKind}
use Rattle.verilog_lexer.specs.declared.fault.LexKind.TheVariants.{IncludeMissing}
use Rattle.verilog_parser.specs.declared.fault.ParseFault.{ParseFault}
use Rattle.verilog_parser.specs.declared.fault.ParseFault.TheVariants as parse_fault
use Rattle.source_files.specs.Files.{Lacks}
use Rattle.source_files.specs.declared.fault.JoinFault.{JoinFault}
use Rattle.source_files.specs.declared.fault.JoinFault.TheVariants as join_fault
use Rattle.source_design.specs.Accepted.{StandFor}
use Rattle.source_design.specs.Refusals.{AreRefused, spot_of}
use Rattle.source_design.specs.Words.{SourceValues}
use Rattle.source_design.specs.declared.fault.SourceFault.{SourceFault}
use Rattle.source_design.specs.declared.fault.SourceFault.TheVariants as fault
use Rattle.source_design.specs.declared.fault.SourceKind.{SourceKind}
use Rattle.source_design.specs.declared.fault.SourceKind.TheVariants as kind
use Rattle.source_design.specs.declared.stage.Found.{Found}
use Rattle.source_design.specs.declared.stage.Found.TheVariants as found

-- the sources have the design, or the file of the name is missing
abbrev pub IsFound : SourceValues → List SourceText → Found → Type 0
IsFound words sources (found.Design design) = StandFor sources words.defines words.top design
IsFound words sources (found.Lacking name) = Lacks sources words.defines name

-- why the sources give no design
abbrev pub IsStageFault : SourceValues → List SourceText → SourceFault → Type 0
IsStageFault words sources fault.NoMemory = Unit {0}
IsStageFault words sources (fault.Refused refusal) = AreRefused sources words.defines words.top refusal
IsStageFault words sources other = ⊥

-- the refusal of a fault at a place, if it is not want of memory
abbrev pub IsRefusal : List SourceText → SourceKind → Option Place → Option (List ℕ) → SourceFault → Type 0
IsRefusal sources kind place detail fault.NoMemory = Unit {0}
IsRefusal sources kind place detail (fault.Refused refusal) = refusal ≡ record { kind = kind; detail = detail; spot = spot_of sources place }
IsRefusal sources kind place detail other = ⊥

-- the file that a fault of the lexer says to be lacking
abbrev pub IsLackingFrom : LexFault → Found → Type 0
IsLackingFrom (lex_fault.At IncludeMissing (Some place) (Some name)) (found.Lacking other) = name ≡ other
IsLackingFrom fault found = ⊥

-- a fault with this kind, place and detail says no file to be lacking
abbrev pub LacksNoFile : LexKind → Option Place → Option (List ℕ) → Type 0
LacksNoFile IncludeMissing (Some place) (Some name) = ⊥
LacksNoFile k place detail = Unit {0}

-- the refusal of a fault of the lexer that says no file to be lacking
abbrev pub IsLexFault : List SourceText → LexFault → SourceFault → Type 0
IsLexFault sources lex_fault.NoMemory f = f ≡ fault.NoMemory
IsLexFault sources (lex_fault.At k place detail) f = LacksNoFile k place detail × IsRefusal sources (kind.Lex k) place detail f

-- the refusal of a fault of the parser
abbrev pub IsParseFault : List SourceText → ParseFault → SourceFault → Type 0
IsParseFault sources parse_fault.NoMemory f = f ≡ fault.NoMemory
IsParseFault sources (parse_fault.At k place detail) f = IsRefusal sources (kind.Parse k) place detail f

-- the refusal of a fault of elaboration
abbrev pub IsElabFault : List SourceText → ElabFault → SourceFault → Type 0
IsElabFault sources elab_fault.NoMemory f = f ≡ fault.NoMemory
IsElabFault sources (elab_fault.Const const_fault.NoMemory) f = f ≡ fault.NoMemory
IsElabFault sources (elab_fault.Const (const_fault.At k place)) f = IsRefusal sources (kind.Const k) (Some place) None f
IsElabFault sources (elab_fault.At k place name) f = IsRefusal sources (kind.Elab k) place (Some name) f

-- the refusal of a file that does not fit
abbrev pub IsFull : LexKind → Option (List ℕ) → SourceFault → Type 0
IsFull k detail f = f ≡ fault.Refused (record { kind = kind.Lex k; detail = detail; spot = None })

-- the fault of a file of the words that does not join
abbrev pub IsFileFault : List ℕ → JoinFault → SourceFault → Type 0
IsFileFault file join_fault.NoMemory f = f ≡ fault.NoMemory
IsFileFault file (join_fault.Refused call) (fault.File other named) = (call ≡ other) × (named.now ≡ file)
IsFileFault file (join_fault.Refused call) f = ⊥
IsFileFault file (join_fault.Full k detail) f = IsFull k detail f
