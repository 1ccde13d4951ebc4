-- How much a report shows.
use Rattle.std.specs.Prelude.{ℕ, bytes_eq, if◌then◌else◌, List, Option, Some, None, codes, unwrap_or}
use Rattle.command_line.specs.declared.report_level.ReportLevel.{ReportLevel}
use Rattle.command_line.specs.declared.report_level.ReportLevel.TheVariants.{Summary, Detailed, Verbose}

-- the level that a word names
abbrev pub level_named : List ℕ → Option ReportLevel
level_named word = if bytes_eq word (codes "s") then Some Summary else if bytes_eq word (codes "d") then Some Detailed else if bytes_eq word (codes "v") then Some Verbose else None

-- the level of a report: a summary where none is given
abbrev pub level_of : Option (List ℕ) → ReportLevel
level_of None = Summary
level_of (Some word) = unwrap_or (level_named word) Summary
