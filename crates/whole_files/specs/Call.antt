-- The calls on a host that read and write files.
use Rattle.std.specs.Prelude.{ℕ, List, ◌++◌, codes}
use Rattle.whole_files.specs.declared.call.Call.{Call}
use Rattle.whole_files.specs.declared.call.Call.TheVariants.{OpenRead, Read, OpenWrite, Write, CloseWrite}

-- the call as it is written
abbrev pub call_name : Call → List ℕ
call_name OpenRead = codes "open_read"
call_name Read = codes "read"
call_name OpenWrite = codes "open_write"
call_name Write = codes "write"
call_name CloseWrite = codes "close_write"

-- the line that is warned of a call on a file that gave nothing: the call as it is written, and the file
abbrev pub file_line : List ℕ → List ℕ → List ℕ
file_line call file = codes "covered: files: " ++ call ++ codes " " ++ file ++ codes "\n"
