-- What a store has of the signals of a design: lists by the number of a signal.
use Rattle.std.specs.Prelude.{◌≡◌, ◌+◌, ◌≤◌, ℕ, Bool, true, false, if◌then◌else◌, List, [], ◌∷◌, is_some, length, map, replicate, slice_index_or, slice_set, Option, Some, None}
use Rattle.std.specs.Option.{unwrap_or}
use Rattle.body_replay.specs.known_state.Partly.{Partly}
use Rattle.design_model.specs.declared.design.Range.{Range}
use Rattle.design_model.specs.declared.design.Signal.{Signal}

-- the declared range of a signal, its width and whether it is signed
pub record Shape : Type 0 where
  pub range : Range
  pub width : ℕ
  pub signed : Bool

-- what a store has of the signals
pub record Signals : Type 0 where
  pub shapes : List Shape
  pub kept : List Partly
  pub hidden : List (Option Partly)  -- what bodies read in the place of what is kept, where the signal is shown or veiled

-- what represents a shape that a store does not have
abbrev pub no_shape : Shape
no_shape = record { range = record { high = 0; low = 0 }; width = 0; signed = false }

-- what represents the value of a signal that a store does not have
abbrev pub no_value : Partly
no_value = record { bits = []; signed = false; blame = 0 }

-- the shape of the signal with this number
abbrev pub shape_at : Signals → ℕ → Shape
shape_at v s = slice_index_or v.shapes s no_shape

-- what is kept of the signal with this number
abbrev pub kept_at : Signals → ℕ → Partly
kept_at v s = slice_index_or v.kept s no_value

-- what bodies read in its place, where it is shown or veiled
abbrev pub hidden_at : Signals → ℕ → Option Partly
hidden_at v s = slice_index_or v.hidden s None

-- what bodies read of the signal with this number
abbrev pub read_at : Signals → ℕ → Partly
read_at v s = unwrap_or (hidden_at v s) (kept_at v s)

-- the signals after a body assigned a value to one: it is what bodies then read
abbrev pub assigned : Signals → ℕ → Partly → Signals
assigned v s q = if is_some (hidden_at v s) then record v { hidden = slice_set v.hidden s (Some q) } else record v { kept = slice_set v.kept s q }

-- the same signals, of which the same ones are shown or veiled, with the same values kept under those
pub record SameUnder (v w : Signals) : Type 0 where
  pub shapes : w.shapes ≡ v.shapes
  pub count : length w.kept ≡ length v.kept
  pub hides : (x : ℕ) → is_some (hidden_at w x) ≡ is_some (hidden_at v x)
  pub under : (x : ℕ) → is_some (hidden_at v x) ≡ true → kept_at w x ≡ kept_at v x

-- the vector has this width and sign
abbrev pub HasShape : Shape → Partly → Type 0
HasShape x q = (length q.bits ≡ x.width) × (q.signed ≡ x.signed)

-- a vector of this shape of which no bit is sure, blamed on the signal with this number
abbrev pub unknown_of : Shape → ℕ → Partly
unknown_of x s = record { bits = replicate x.width None; signed = x.signed; blame = s }

-- such a vector for each shape, blamed on the signals with the numbers from this one up
abbrev pub unknown_from : ℕ → List Shape → List Partly
unknown_from s [] = []
unknown_from s (x ∷ xs) = unknown_of x s ∷ unknown_from (s + 1) xs

-- the shape of a signal of a design
abbrev pub shape_of : Signal → Shape
shape_of x = record { range = record { high = x.high; low = x.low }; width = x.width; signed = x.signed }

-- nothing is known, each signal is to blame for itself, and nothing is shown or veiled
abbrev pub unknown_signals : List Shape → Signals
unknown_signals xs = record { shapes = xs; kept = unknown_from 0 xs; hidden = map (λ x. None) xs }

-- a signal has 1 to 128 bits
abbrev pub HasWidth : Signal → Type 0
HasWidth x = (1 ≤ x.width) × (x.width ≤ 128)
