-- Vectors of which some bits are known: each bit is sure, with its value, or can have any of the four.
use Rattle.std.specs.Prelude.{ℕ, Bool, true, false, ◌&&◌, not, if◌then◌else◌, List, [], ◌∷◌, map, Option, Some, None, is_some}
use Rattle.std.specs.Option.{unwrap_or}
use Rattle.std.specs.List.{list_all}
use Rattle.four_state.specs.declared.bit.Bit.{Bit}
use Rattle.four_state.specs.declared.bit.Bit.TheVariants.{Zero}
use Rattle.four_state.specs.Vector.{Vector, same_bit}

-- the bits, the lowest first, a sign flag, and the thing to blame for the bits that are not sure
pub record Partly : Type 0 where
  pub bits : List (Option Bit)
  pub signed : Bool
  pub blame : ℕ

-- a sure bit allows itself alone
abbrev pub allows_bit : Option Bit → Bit → Bool
allows_bit None b = true
allows_bit (Some a) b = same_bit a b

-- as many bits, each of them allowed
abbrev pub allows_bits : List (Option Bit) → List Bit → Bool
allows_bits [] [] = true
allows_bits (p ∷ ps) (b ∷ bs) = allows_bit p b && allows_bits ps bs
allows_bits _ _ = false

abbrev pub same_sign : Bool → Bool → Bool
same_sign s t = if s then t else not t

-- whether the vector is one of those that the sure bits allow
abbrev pub allows : Partly → Vector → Bool
allows k v = same_sign k.signed v.signed && allows_bits k.bits v.bits

-- whether all bits are sure
abbrev pub are_sure : List (Option Bit) → Bool
are_sure ps = list_all is_some ps

abbrev pub is_whole : Partly → Bool
is_whole k = are_sure k.bits

-- the vector, whole; nothing is to blame
abbrev pub whole_of : Vector → Partly
whole_of v = record { bits = map Some v.bits; signed = v.signed; blame = 0 }

-- nothing is to blame where all bits are sure
abbrev pub blame_of : List (Option Bit) → ℕ → ℕ
blame_of ps thing = if are_sure ps then 0 else thing

-- these bits and this sign, and the thing to blame if not all bits are sure
abbrev pub with_blame : List (Option Bit) → Bool → ℕ → Partly
with_blame ps signed thing = record { bits = ps; signed = signed; blame = blame_of ps thing }

-- the bits, with this one where they are not sure
abbrev pub filled : Bit → List (Option Bit) → List Bit
filled b ps = map (λ p. unwrap_or p b) ps

-- the bits, with those of another vector where they are not sure, and 0 past its end
abbrev pub filled_from : List (Option Bit) → List Bit → List Bit
filled_from [] cs = []
filled_from (p ∷ ps) [] = unwrap_or p Zero ∷ filled_from ps []
filled_from (p ∷ ps) (c ∷ cs) = unwrap_or p c ∷ filled_from ps cs
