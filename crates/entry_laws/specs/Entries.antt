-- How great the times of a dump are, and how wide the values of its changes.
use Rattle.std.specs.Prelude.{◌≡◌, ◌<◌, ◌^◌, ℕ, false, List, length, Option, None, Some, All}
use Rattle.four_state.specs.Vector.{Vector}
use Rattle.vcd_reader.specs.declared.entry.Entry.{Entry}
use Rattle.vcd_reader.specs.declared.entry.Entry.TheVariants.{Time, Value, Off, On}
use Rattle.vcd_reader.specs.declared.vars.Var.{Var}

-- the value has as many bits as each variable of the code, and no sign
pub record FitsCode (vars : List Var) (code : ℕ) (value : Vector) : Type 0 where
  pub bits : All (λ x. x.code ≡ code → length value.bits ≡ x.size) vars
  pub unsigned : value.signed ≡ false

-- the time, if there is one, is one that a database can have
abbrev pub IsSmall : Option ℕ → Type 0
IsSmall None = Unit {0}
IsSmall (Some time) = time < 2 ^ 63

-- a time that a database can have, or a change whose value fits its code
abbrev pub IsEntry : List Var → Entry → Type 0
IsEntry vars (Time time) = time < 2 ^ 63
IsEntry vars (Value code value) = FitsCode vars code value
IsEntry vars Off = Unit {0}
IsEntry vars (On time) = IsSmall time

-- so it is with each of these
abbrev pub AreEntries : List Var → List Entry → Type 0
AreEntries vars entries = All (IsEntry vars) entries
