-- The codes that signals have.
use Rattle.std.specs.Prelude.{◌≡◌, ◌↔◌, ℕ, Bool, true, List, Option, Some}
use Rattle.vcd_reader.specs.Wanted.{is_wanted}
use Rattle.shown_dumps.specs.Shown.{code_at}

-- some signal has the code
abbrev pub IsCoded : List (Option ℕ) → ℕ → Type 0
IsCoded codes code = (s : ℕ) × (code_at codes s ≡ Some code)

-- the flags are true at the codes that signals have, and nowhere else
abbrev pub AreWanted : List (Option ℕ) → List Bool → Type 0
AreWanted codes wanted = (code : ℕ) → (is_wanted wanted code ≡ true) ↔ IsCoded codes code
