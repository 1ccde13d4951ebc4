-- Two signals of a module that a command names, from whose case statements a state machine is drawn.
use Rattle.std.specs.Prelude.{ℕ, Bool, ◌&&◌, List}
use Rattle.std.specs.List.{after_first, before_first}
use Rattle.cov_host.specs.Identifier.{is_identifier}
use Rattle.command_line.specs.declared.given_drawing.GivenDrawing.{GivenDrawing}
use Rattle.command_line.specs.Define.{is_equals}
use Rattle.command_line.specs.MachineWords.{is_comma, module_of}

pub record DrawingNames : Type 0 where
  pub of_module : List ℕ
  pub current : List ℕ
  pub next : List ℕ

-- the value's bytes after its first `=`
abbrev pub signals_text : List ℕ → List ℕ
signals_text value = after_first is_equals value

-- those up to the first `,` of them
abbrev pub current_of : List ℕ → List ℕ
current_of value = before_first is_comma (signals_text value)

-- those after this `,`
abbrev pub next_of : List ℕ → List ℕ
next_of value = after_first is_comma (signals_text value)

-- the signals that the value MODULE=IN,OUT names
abbrev pub drawing_of : List ℕ → DrawingNames
drawing_of value = record { of_module = module_of value; current = current_of value; next = next_of value }

-- the value has the form MODULE=IN,OUT
abbrev pub is_drawing : List ℕ → Bool
is_drawing value = is_identifier (module_of value) && (is_identifier (current_of value) && is_identifier (next_of value))

-- the names, without where they lie in memory
abbrev pub drawing_values : GivenDrawing → DrawingNames
drawing_values drawing = record { of_module = drawing.«module».now; current = drawing.current.now; next = drawing.next.now }
