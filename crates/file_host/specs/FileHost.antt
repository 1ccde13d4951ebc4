-- What is known of the outside of the host of the system.
use Rattle.std.specs.Prelude.{is_some}
use Rattle.cov_host.specs.Outside.{Outside, untold_outside}
use Rattle.file_host.specs.declared.file_host.FileHost.{FileHost}

-- no content; whether a file is being read and one written, and the counts (R is a runtime, and the others are its types)
abbrev pub file_outside : {R S T U V W : Type 0} → FileHost R S T U V W → Outside
file_outside host = record untold_outside {
  reading = is_some host.input;
  writing = is_some host.output;
  faults = host.faults;
  absences = host.absences;
  mute = host.mute;
}
