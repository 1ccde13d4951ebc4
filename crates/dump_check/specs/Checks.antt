-- The signals of a step that are compared with the dump, and where they differ.
use Rattle.std.specs.Prelude.{◌≡◌, ◌<◌, ◌==◌, ◌++◌, if◌then◌else◌, ℕ, true, false, List, [], ◌∷◌, Option, Some, None, length, slice_index_or}
use Rattle.std.specs.List.{All, list_any}
use Rattle.four_state.specs.Vector.{Vector}
use Rattle.known_state.specs.Partly.{Partly, allows_bits}
use Rattle.code_values.specs.Values.{value_of}
use Rattle.dump_check.specs.declared.order.Difference.{Difference}

-- a number that all signals are below, and the signals in order
pub record Checks : Type 0 where
  pub size : ℕ
  pub order : List ℕ

-- each number where it is last
abbrev pub last_of_each : List ℕ → List ℕ
last_of_each [] = []
last_of_each (x ∷ xs) = if list_any (λ y. x == y) xs then last_of_each xs else x ∷ last_of_each xs

-- in place of a value of a signal that does not exist
abbrev pub no_value : Partly
no_value = record { bits = []; signed = false; blame = 0 }

-- the code of a signal, if it has one
abbrev pub code_at : List (Option ℕ) → ℕ → Option ℕ
code_at codes s = slice_index_or codes s None

-- what was made of a signal
abbrev pub made_of : List Partly → ℕ → Partly
made_of made s = slice_index_or made s no_value

-- the signal has what was made of it, as wide as what the dump says
pub record FitsAt (codes : List (Option ℕ)) (values : List (Option Vector)) (made : List Partly) (s : ℕ) : Type 0 where
  pub listed : s < length made
  pub wide : (code : ℕ) (v : Vector) → code_at codes s ≡ Some code → value_of values code ≡ Some v → length (made_of made s).bits ≡ length v.bits

-- what was made of the signal allows what the dump says of it, if it says something
abbrev pub AgreesAt : List (Option ℕ) → List (Option Vector) → List Partly → ℕ → Type 0
AgreesAt codes values made s = (code : ℕ) (v : Vector) → code_at codes s ≡ Some code → value_of values code ≡ Some v → allows_bits (made_of made s).bits v.bits ≡ true

-- what was made of a signal differs from what the dump says of it
pub record IsDifference (codes : List (Option ℕ)) (values : List (Option Vector)) (made : List Partly) (d : Difference) : Type 0 where
  pub code : ℕ
  pub coded : code_at codes d.signal ≡ Some code
  pub dumped : value_of values code ≡ Some d.dumped
  pub computed : made_of made d.signal ≡ d.computed
  pub differ : allows_bits d.computed.bits d.dumped.bits ≡ false

-- the first of the order that differs
pub record IsFirstDifference (codes : List (Option ℕ)) (values : List (Option Vector)) (made : List Partly) (order : List ℕ) (d : Difference) : Type 0 where
  pub differs : IsDifference codes values made d
  pub before : List ℕ
  pub after : List ℕ
  pub is : order ≡ before ++ d.signal ∷ after
  pub earlier : All (AgreesAt codes values made) before
