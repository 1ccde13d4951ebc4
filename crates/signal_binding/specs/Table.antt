-- What a table of the variables of a dump says.
use Rattle.std.specs.Prelude.{◌≡◌, ◌<◌, ◌&&◌, ◌++◌, ◌==◌, ℕ, if◌then◌else◌, List, [], ◌∷◌, drop, length, slice_index_or, Option, None}
use Rattle.std.specs.Option.{option_or}
use Rattle.std.specs.Str.{bytes_eq}
use Rattle.indexmap.specs.IndexMap.{get_by}
use Rattle.design_model.specs.Design.{no_instance}
use Rattle.design_model.specs.declared.design.Alias.{Alias}
use Rattle.design_model.specs.declared.design.Design.{Design}
use Rattle.vcd_reader.specs.declared.vars.Var.{Var}
use Rattle.signal_binding.specs.Names.{code_under}
use Rattle.signal_binding.specs.Binding.{names_signal, signal_of}
use Rattle.signal_binding.specs.declared.table.Table.{Table}

-- the code of this name in the scope below the instance, with this size
abbrev pub code_in : Table → List ℕ → List ℕ → ℕ → Option ℕ
code_in table below name size = get_by (λ key. bytes_eq below key.below.now && (bytes_eq name key.name.now && size == key.size)) table.codes

-- the table has the codes of these variables under the names below the instance
abbrev pub AreCodesUnder : Table → List Var → List ℕ → Type 0
AreCodesUnder table vars instance =
    (below name : List ℕ) (size : ℕ) → code_in table below name size ≡ code_under vars size (record { scope = instance ++ below; name = name })

-- the code of a name in an instance of the design
abbrev pub code_in_instance : Table → Design → ℕ → List ℕ → ℕ → Option ℕ
code_in_instance table design i name width = code_in table (drop (length design.top) (slice_index_or design.instances i no_instance).path) name width

-- the code of a signal under its own name
abbrev pub own_code : Table → Design → ℕ → Option ℕ
own_code table design s = code_in_instance table design (signal_of design s).instance (signal_of design s).name (signal_of design s).width

-- the code of a signal under an alias, if it is one of the signal
abbrev pub alias_code : Table → Design → ℕ → Alias → Option ℕ
alias_code table design s a = if names_signal s a then code_in_instance table design a.instance a.name (signal_of design s).width else None

-- the code of a signal under the first of these aliases that has one
abbrev pub first_alias : Table → Design → ℕ → List Alias → Option ℕ
first_alias table design s [] = None
first_alias table design s (a ∷ aliases) = option_or (alias_code table design s a) (first_alias table design s aliases)

-- the code of a signal under its own name or else these aliases
abbrev pub code_among : Table → Design → List Alias → ℕ → Option ℕ
code_among table design aliases s = option_or (own_code table design s) (first_alias table design s aliases)

-- these are the codes of the signals under their own names or else these aliases
pub record AreCodesAmong (table : Table) (design : Design) (aliases : List Alias) (codes : List (Option ℕ)) : Type 0 where
  pub as_many : length codes ≡ length design.signals
  pub each : (s : ℕ) → s < length design.signals → slice_index_or codes s None ≡ code_among table design aliases s
