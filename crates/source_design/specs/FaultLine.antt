-- The line that is warned where sources give no design.
use Rattle.std.specs.Prelude.{ℕ, List, [], ◌++◌, codes, decimal, Option, Some, None}
use Rattle.elab_const.specs.FaultText.{const_text}
use Rattle.flat_design.specs.FaultText.{elab_text}
use Rattle.verilog_lexer.specs.FaultText.{lex_text}
use Rattle.verilog_parser.specs.FaultText.{parse_text}
use Rattle.whole_files.specs.Call.{call_name, file_line}
use Rattle.source_design.specs.declared.fault.SourceFault.{SourceFault}
use Rattle.source_design.specs.declared.fault.SourceFault.TheVariants as fault
use Rattle.source_design.specs.declared.fault.SourceKind.{SourceKind}
use Rattle.source_design.specs.declared.fault.SourceKind.TheVariants as kind
use Rattle.source_design.specs.declared.fault.SourceRefusal.{SourceRefusal}
use Rattle.source_design.specs.declared.fault.SourceSpot.{SourceSpot}

-- the stage, the number and the name of a fault
abbrev pub kind_text : SourceKind → List ℕ
kind_text (kind.Lex k) = lex_text k
kind_text (kind.Parse k) = parse_text k
kind_text (kind.Const k) = const_text k
kind_text (kind.Elab k) = elab_text k

-- a space and the detail, where there is one
abbrev pub detail_text : Option (List ℕ) → List ℕ
detail_text None = []
detail_text (Some detail) = codes " " ++ detail

-- the place as file, line and column, where there is one
abbrev pub spot_text : Option SourceSpot → List ℕ
spot_text None = []
spot_text (Some spot) = codes " at " ++ spot.file ++ codes ":" ++ decimal spot.line ++ codes ":" ++ decimal spot.column

-- the line of refused sources
abbrev pub refusal_line : SourceRefusal → List ℕ
refusal_line refusal = codes "covered: source: " ++ kind_text refusal.kind ++ detail_text refusal.detail ++ spot_text refusal.spot ++ codes "\n"

-- the line that is warned
abbrev pub source_line : SourceFault → List ℕ
source_line fault.NoMemory = codes "covered: memory\n"
source_line (fault.File call file) = file_line (call_name call) file.now
source_line (fault.Included call path) = file_line (call_name call) path
source_line (fault.Refused refusal) = refusal_line refusal
