-- What is left of a file of a selfrun.
use Rattle.std.specs.Prelude.{ℕ, Bool, true, false, List, [], drop}
use Rattle.selfrun_files.specs.Dump.{rest_of}
use Rattle.selfrun_files.specs.Source.{source_text}
use Rattle.selfrun_files.specs.declared.dump.GeneratedDump.{GeneratedDump}
use Rattle.selfrun_files.specs.declared.input.Input.{Input}
use Rattle.selfrun_files.specs.declared.input.Input.TheVariants.{Nothing, Source, Dump}

-- the bytes that are left of the file that is being read, where this many bytes of the text of the design were read
abbrev pub left_of : Input → ℕ → GeneratedDump → List ℕ
left_of Nothing at dump = []
left_of Source at dump = drop at source_text
left_of Dump at dump = rest_of dump

-- a file is being read
abbrev pub is_reading : Input → Bool
is_reading Nothing = false
is_reading input = true
