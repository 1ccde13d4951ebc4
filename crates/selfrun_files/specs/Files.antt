-- What is known of the outside of the files of a selfrun.
use Rattle.std.specs.Prelude.{◌≡◌, ℕ, bytes_eq, if◌then◌else◌, List, [], None, Some, codes}
use Rattle.cov_host.specs.Outside.{Files, Outside}
use Rattle.selfrun_files.specs.Input.{is_reading, left_of}
use Rattle.selfrun_files.specs.Source.{source_text}
use Rattle.selfrun_files.specs.Text.{dump_text}
use Rattle.selfrun_files.specs.declared.files.SelfrunFiles.{SelfrunFiles}

-- the name of the file with the text of the design
abbrev pub source_name : List ℕ
source_name = codes "selfrun.v"

-- the name of the file with the dump
abbrev pub dump_name : List ℕ
dump_name = codes "selfrun.vcd"

-- the two files
abbrev pub files_of : ℕ → ℕ → Files
files_of number steps name =
    if bytes_eq name source_name then Some source_text
    else if bytes_eq name dump_name then Some (dump_text number steps)
    else None

-- all is known; nothing was written, printed or warned, and no call has failed
abbrev pub files_outside : SelfrunFiles → Outside
files_outside host = record {
  files = Some (files_of host.number host.steps);
  rest = Some (left_of host.input host.at host.dump);
  reading = is_reading host.input;
  writing = host.is_writing;
  target = None;
  printed = Some [];
  warned = Some [];
  faults = 0;
  absences = host.absences;
  mute = host.mute;
}

-- the files are the text of the design and the dump from this number with this many steps, and no call has failed
pub record HasTexts (number steps : ℕ) (outside : Outside) : Type 0 where
  pub files : outside.files ≡ Some (files_of number steps)
  pub faults : outside.faults ≡ 0
