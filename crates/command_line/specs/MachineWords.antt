-- A state machine that a command names: a variable of a module, and the parameters that are its states.
use Rattle.std.specs.Prelude.{ℕ, nat_le, Bool, ◌==◌, ◌&&◌, List, [], length, Option, Some, None}
use Rattle.std.specs.Option.{option_copied}
use Rattle.std.specs.List.{after_first, before_first, list_all, slice_split}
use Rattle.cov_host.specs.Identifier.{is_identifier}
use Rattle.command_line.specs.declared.given_machine.GivenMachine.{GivenMachine}
use Rattle.command_line.specs.declared.state_names.StateNames.{StateNames}
use Rattle.command_line.specs.Define.{is_equals}

pub record MachineNames : Type 0 where
  pub of_module : List ℕ
  pub variable : List ℕ
  pub names : List (List ℕ)

-- the byte is `:`
abbrev pub is_colon : ℕ → Bool
is_colon byte = byte == 58

-- the byte is `,`
abbrev pub is_comma : ℕ → Bool
is_comma byte = byte == 44

-- the value's bytes before its first `=`
abbrev pub module_of : List ℕ → List ℕ
module_of value = before_first is_equals value

-- those after it, up to the first `:` after it
abbrev pub variable_of : List ℕ → List ℕ
variable_of value = before_first is_colon (after_first is_equals value)

-- those after this `:`
abbrev pub names_text : List ℕ → List ℕ
names_text value = after_first is_colon (after_first is_equals value)

-- names with commas between them
abbrev pub names_in : List ℕ → List (List ℕ)
names_in text = slice_split is_comma text

-- the machine that the value MODULE=VAR:NAME,NAME names
abbrev pub machine_of : List ℕ → MachineNames
machine_of value = record { of_module = module_of value; variable = variable_of value; names = names_in (names_text value) }

-- 2 to 64 names
abbrev pub are_counted : List (List ℕ) → Bool
are_counted names = nat_le 2 (length names) && nat_le (length names) 64

-- the names are identifiers, 2 to 64 of them
abbrev pub are_state_names : List ℕ → Bool
are_state_names text = are_counted (names_in text) && list_all is_identifier (names_in text)

-- the value has the form MODULE=VAR:NAME,NAME
abbrev pub is_machine : List ℕ → Bool
is_machine value = is_identifier (module_of value) && (is_identifier (variable_of value) && are_state_names (names_text value))

-- the names of a text that may have come to its end
abbrev pub names_of_rest : Option (List ℕ) → List (List ℕ)
names_of_rest None = []
names_of_rest (Some text) = names_in text

-- the names that are left
abbrev pub names_left : StateNames → List (List ℕ)
names_left names = names_of_rest (option_copied names.rest)

-- a machine, without where its names lie in memory
abbrev pub machine_values : GivenMachine → MachineNames
machine_values machine = record { of_module = machine.«module».now; variable = machine.variable.now; names = names_left machine.names }
