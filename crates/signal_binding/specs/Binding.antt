-- The variable of a dump to which a signal is bound.
use Rattle.std.specs.Prelude.{◌≡◌, ◌==◌, ℕ, Bool, true, false, Option, None, List, [], ◌∷◌, filter, length, map, slice_index_or}
use Rattle.std.specs.List.{list_any, range_with_len}
use Rattle.std.specs.Option.{option_or}
use Rattle.design_model.specs.Design.{no_signal}
use Rattle.design_model.specs.declared.design.Alias.{Alias}
use Rattle.design_model.specs.declared.design.Design.{Design}
use Rattle.design_model.specs.declared.design.Signal.{Signal}
use Rattle.vcd_reader.specs.declared.vars.Var.{Var}
use Rattle.signal_binding.specs.Names.{ScopedName, code_under, scope_of, stands_in}
use Rattle.signal_binding.specs.declared.fault.BindFault.{BindFault}
use Rattle.signal_binding.specs.declared.fault.BindFault.TheVariants as bind_fault

-- the signal with this number
abbrev pub signal_of : Design → ℕ → Signal
signal_of design s = slice_index_or design.signals s no_signal

-- the alias is another name of the signal with this number
abbrev pub names_signal : ℕ → Alias → Bool
names_signal s a = a.signal == s

-- an alias as a name in the dump
abbrev pub alias_name : Design → List ℕ → Alias → ScopedName
alias_name design instance a = record { scope = scope_of design instance a.instance; name = a.name }

-- a signal's own name in the dump
abbrev pub own_name : Design → List ℕ → ℕ → ScopedName
own_name design instance s = record { scope = scope_of design instance (signal_of design s).instance; name = (signal_of design s).name }

-- the names of a signal in the dump: its own, and then its aliases in order of elaboration
abbrev pub names_of : Design → List ℕ → ℕ → List ScopedName
names_of design instance s = own_name design instance s ∷ map (alias_name design instance) (filter (names_signal s) design.aliases)

-- the code under the first of these names that has a variable
abbrev pub first_code : List Var → ℕ → List ScopedName → Option ℕ
first_code vars width [] = None
first_code vars width (x ∷ xs) = option_or (code_under vars width x) (first_code vars width xs)

-- the code of the variable to which the signal is bound, if it is bound
abbrev pub code_of : Design → List Var → List ℕ → ℕ → Option ℕ
code_of design vars instance s = first_code vars (signal_of design s).width (names_of design instance s)

-- the codes of the signals in order
abbrev pub codes_of : Design → List Var → List ℕ → List (Option ℕ)
codes_of design vars instance = map (code_of design vars instance) (range_with_len 0 (length design.signals))

-- the instance is in the dump
abbrev pub HasInstance : List Var → List ℕ → Type 0
HasInstance vars instance = list_any (stands_in instance) vars ≡ true

-- why the design is not bound
abbrev pub IsBindFault : Design → List Var → List ℕ → BindFault → Type 0
IsBindFault design vars instance bind_fault.NoMemory = Unit {0}
IsBindFault design vars instance bind_fault.NoInstance = list_any (stands_in instance) vars ≡ false
