-- Names in a dump, and the variables under them.
use Rattle.std.specs.Prelude.{◌&&◌, ◌||◌, ◌++◌, ◌==◌, ℕ, nat_lt, Bool, List, length, take, drop, find, slice_index_or, Option}
use Rattle.std.specs.Option.{option_map}
use Rattle.std.specs.Str.{bytes_eq}
use Rattle.design_model.specs.Design.{no_instance}
use Rattle.design_model.specs.declared.design.Design.{Design}
use Rattle.vcd_reader.specs.declared.vars.Var.{Var}
use Rattle.signal_binding.specs.Kinds.{holds_value}

-- a name in the scope of an instance
pub record ScopedName : Type 0 where
  pub scope : List ℕ
  pub name : List ℕ

-- the variable is in this scope under this name, has this number of bits, and is of a kind that holds a value
abbrev pub holds : ScopedName → ℕ → Var → Bool
holds x width var = bytes_eq var.scope x.scope && bytes_eq var.name x.name && var.size == width && holds_value var.kind

-- the code of the first variable under this name that holds values of this number of bits, if there is one
abbrev pub code_under : List Var → ℕ → ScopedName → Option ℕ
code_under vars width x = option_map (λ var. var.code) (find (holds x width) vars)

-- where the dump has the instance with this number: the path of the dump's instance goes before what is below the top
abbrev pub scope_of : Design → List ℕ → ℕ → List ℕ
scope_of design instance i = instance ++ drop (length design.top) (slice_index_or design.instances i no_instance).path

-- the path begins with the outer one and goes on with a dot
abbrev pub is_below : List ℕ → List ℕ → Bool
is_below outer path = nat_lt (length outer) (length path) && bytes_eq (take (length outer) path) outer && slice_index_or path (length outer) 0 == 46

-- the variable is in the scope of the instance or below it
abbrev pub stands_in : List ℕ → Var → Bool
stands_in instance var = bytes_eq var.scope instance || is_below instance var.scope
