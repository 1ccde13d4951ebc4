-- A name that a command defines, and its text.
use Rattle.std.specs.Prelude.{ℕ, Bool, ◌==◌, if◌then◌else◌, List, codes, is_some}
use Rattle.std.specs.List.{after_first, before_first, position}
use Rattle.command_line.specs.declared.given_define.GivenDefine.{GivenDefine}

pub record Define : Type 0 where
  pub name : List ℕ
  pub text : List ℕ

-- the byte is `=`
abbrev pub is_equals : ℕ → Bool
is_equals byte = byte == 61

-- the value's bytes before its first `=`, or all of them
abbrev pub name_of : List ℕ → List ℕ
name_of value = before_first is_equals value

-- the value's bytes after its first `=`, or `1` where there is no `=`
abbrev pub text_of : List ℕ → List ℕ
text_of value = if is_some (position is_equals value) then after_first is_equals value else codes "1"

-- what the value NAME or NAME=TEXT defines
abbrev pub define_of : List ℕ → Define
define_of value = record { name = name_of value; text = text_of value }

-- a name and its text, without where they lie in memory
abbrev pub define_values : GivenDefine → Define
define_values define = record { name = define.name.now; text = define.text.now }
