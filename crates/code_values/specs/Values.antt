-- The values of the codes of a dump, and the signals whose value changes.
use Rattle.std.specs.Prelude.{◌≡◌, ◌⊎◌, ◌<◌, ◌↔◌, ℕ, Bool, true, false, List, Option, Some, None, is_none, length, replicate, slice_index_or}
use Rattle.std.specs.List.{Contains}
use Rattle.four_state.specs.Vector.{Vector}
use Rattle.index_sets.specs.Members.{Members}
use Rattle.index_sets.specs.Rows.{row_at}

-- by code, the values at the last closed step, and as the dump gave them last
pub record Values : Type 0 where
  pub closed : List (Option Vector)
  pub last : List (Option Vector)

-- so many codes without a value
abbrev pub no_values : ℕ → Values
no_values codes = record { closed = replicate codes None; last = replicate codes None }

-- the value of a code, if it has one
abbrev pub value_of : List (Option Vector) → ℕ → Option Vector
value_of values code = slice_index_or values code None

-- the code has another value than at the last closed step
abbrev pub IsChanged : Values → ℕ → Type 0
IsChanged t code = value_of t.closed code ≡ value_of t.last code → ⊥

-- each code is a member, or has the value that it had at the last closed step
pub record AreChanged (closed last : List (Option Vector)) (given : Members) : Type 0 where
  pub as_many : length closed ≡ length last
  pub size : given.size ≡ length last
  pub others : (code : ℕ) → Contains given.items code ⊎ (value_of closed code ≡ value_of last code)

-- the members of a row are put in
abbrev pub AddsRow : List ℕ → List ℕ → List ℕ → Type 0
AddsRow row before after = (s : ℕ) → Contains after s ↔ (Contains before s ⊎ Contains row s)

-- the signals of the codes that have changed are put in
abbrev pub AddsChanged : Values → List (List ℕ) → List ℕ → List ℕ → Type 0
AddsChanged t signals before after = (s : ℕ) → Contains after s ↔ (Contains before s ⊎ ((code : ℕ) × IsChanged t code × Contains (row_at signals code) s))

-- this is a code without a value
abbrev pub lacks_code : List (Option Vector) → Option ℕ → Bool
lacks_code values None = false
lacks_code values (Some code) = is_none (value_of values code)

-- the signal with this number has a code without a value
abbrev pub lacks_value : List (Option Vector) → List (Option ℕ) → ℕ → Bool
lacks_value values codes s = lacks_code values (slice_index_or codes s None)

-- the signal with this number is the first one that has a code without a value
pub record IsFirstMissing (values : List (Option Vector)) (codes : List (Option ℕ)) (s : ℕ) : Type 0 where
  pub listed : s < length codes
  pub missing : lacks_value values codes s ≡ true
  pub earlier : (k : ℕ) → k < s → lacks_value values codes k ≡ false
