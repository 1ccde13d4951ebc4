-- Macros by their names (IEEE 1364-2001 clause 19.3).
use Rattle.std.specs.Prelude.{ℕ, List, [], ◌∷◌, Option, None, Some, if◌then◌else◌}
use Rattle.std.specs.Str.{bytes_eq}
use Rattle.verilog_lexer.specs.declared.defines.Define.{Define}

-- a macro with its text
pub record DefineText : Type 0 where
  pub name : List ℕ
  pub text : List ℕ

abbrev pub define_view : Define → DefineText
define_view define = record { name = define.name; text = define.text }

-- the text of each macro that is defined
abbrev pub Macros : Type 0
Macros = List ℕ → Option (List ℕ)

abbrev pub no_macros : Macros
no_macros name = None

-- the macros after a definition, which replaces an earlier one of the same name
abbrev pub with_macro : Macros → (name text : List ℕ) → Macros
with_macro macros name text asked = if bytes_eq name asked then Some text else macros asked

-- the macros after `undef`
abbrev pub without_macro : Macros → (name : List ℕ) → Macros
without_macro macros name asked = if bytes_eq name asked then None else macros asked

-- the macros after these definitions, one after the other
abbrev pub with_macros : Macros → List DefineText → Macros
with_macros macros [] = macros
with_macros macros (define ∷ defines) = with_macros (with_macro macros define.name define.text) defines
