-- What the text of a table asks of a design and its sources, of its state machines, and of the verdicts of its points.
use Rattle.std.specs.Prelude.{◌≡◌, ◌<◌, ◌≤◌, ◌^◌, ℕ, true, List, length, All, IsTrue, ⊤}
use Rattle.coverage_db.specs.Table.{IsIdentifier, IsNumber, IsSourceLine, is_file_name, is_path, is_state}
use Rattle.point_table.specs.design_machines.declared.machine.Machine.{Machine}
use Rattle.design_model.specs.Design.{Design, In, is_number, process_at}
use Rattle.design_model.specs.declared.design.Instance.{Instance}
use Rattle.design_model.specs.declared.design.Memory.{Memory}
use Rattle.design_model.specs.declared.design.Signal.{Signal}
use Rattle.design_model.specs.Numbered.{LineAt, NodeAt, lines_of, nodes_of}
use Rattle.point_marks.specs.declared.verdict.Verdict.{Verdict}
use Rattle.point_marks.specs.declared.verdict.Verdict.TheVariants.{Hit, Missed, Undetermined}
use Rattle.point_table.specs.Addresses.{source_line}

-- the names of the design are identifiers, its numbers are from 1, and its statements and nodes begin on lines of these sources
pub record IsWritten (sources : List (List ℕ)) (d : Design) : Type 0 where
  pub top : IsIdentifier d.top
  pub files : All (λ name. IsTrue (is_file_name name)) sources
  pub some_file : 1 ≤ length sources
  pub few_files : length sources < 2 ^ 31
  pub some_instance : 1 ≤ length d.instances
  pub instances : (i : Instance) → In i d.instances → IsTrue (is_path i.path) × IsIdentifier i.«module»
  pub signals : (s : Signal) → In s d.signals → IsIdentifier s.name × (s.high < 2 ^ 32) × (s.low < 2 ^ 32)
  pub memories : (m : Memory) → In m d.memories → IsIdentifier m.name × (m.first < 2 ^ 32) × (m.last < 2 ^ 32)
  pub lines : (p : ℕ) (x : LineAt) → In x (lines_of (process_at d p)) → IsNumber x.line × IsSourceLine (length sources) (source_line x.place)
  pub nodes : (p : ℕ) (x : NodeAt) → In x (nodes_of (process_at d p)) → IsNumber x.node × IsSourceLine (length sources) (source_line x.place)

-- the name of the machine's variable is an identifier, and each state has an identifier or digits
abbrev pub IsWrittenMachine : Machine → Type 0
IsWrittenMachine x = IsIdentifier x.variable × All (λ name. IsTrue (is_state name)) x.names

-- a doubt is of a signal or memory of the design, at a time that a text has
abbrev pub IsWrittenVerdict : Design → Verdict → Type 0
IsWrittenVerdict d Hit = ⊤
IsWrittenVerdict d Missed = ⊤
IsWrittenVerdict d (Undetermined y) = (is_number d y.thing ≡ true) × (y.time < 2 ^ 63)
