-- The line that is warned where a command over databases ends without its output.
use Rattle.std.specs.Prelude.{ℕ, List, [], ◌++◌, codes, decimal, Option, Some, None}
use Rattle.coverage_db.specs.FaultText.{kind_text}
use Rattle.db_tools.specs.FaultText.{refusal_text}
use Rattle.whole_files.specs.Call.{call_name, file_line}
use Rattle.database_commands.specs.declared.fault.CommandFault.{CommandFault}
use Rattle.database_commands.specs.declared.fault.CommandFault.TheVariants.{Files, Print, Memory, NoDatabase, DesignsDiffer, Point}

-- a space and the number of the line, where there is one
abbrev pub line_text : Option ℕ → List ℕ
line_text None = []
line_text (Some line) = codes " " ++ decimal line

-- the line that is warned; where designs differ, two more with the lines of both
abbrev pub database_line : CommandFault → List ℕ
database_line (Files call file) = file_line (call_name call) file.now
database_line Print = file_line (codes "print") (codes "-")
database_line Memory = codes "covered: memory\n"
database_line (NoDatabase file kind line) = codes "covered: database: " ++ file.now ++ codes ": " ++ kind_text kind ++ line_text line ++ codes "\n"
database_line (DesignsDiffer file line first other) =
    codes "covered: database: " ++ file.now ++ codes ": 4 DesignsDiffer " ++ decimal line ++ codes "\n< " ++ first ++ codes "\n> " ++ other ++ codes "\n"
database_line (Point file refusal address) = codes "covered: database: " ++ file.now ++ codes ": " ++ refusal_text refusal ++ codes " " ++ address.now ++ codes "\n"
