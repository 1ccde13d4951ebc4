-- What two partly known vectors have in common, and the tests on what they allow.
use Rattle.std.specs.Prelude.{ℕ, if◌then◌else◌, List, [], ◌∷◌, Option, Some, None}
use Rattle.four_state.specs.declared.bit.Bit.{Bit}
use Rattle.four_state.specs.Vector.{same_bit}
use Rattle.known_state.specs.Partly.{Partly, is_whole}

-- sure where both are sure and agree
abbrev pub join_bit : Option Bit → Option Bit → Option Bit
join_bit (Some a) (Some b) = if same_bit a b then Some a else None
join_bit _ _ = None

-- the same of each pair of bits
abbrev pub joined : List (Option Bit) → List (Option Bit) → List (Option Bit)
joined [] qs = []
joined (p ∷ ps) [] = []
joined (p ∷ ps) (q ∷ qs) = join_bit p q ∷ joined ps qs

-- the blame of the first of two that is not whole
abbrev pub first_blame : Partly → Partly → ℕ
first_blame a b = if is_whole a then b.blame else a.blame
