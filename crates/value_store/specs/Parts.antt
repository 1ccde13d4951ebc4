-- What a write of a part leaves of a signal.
use Rattle.std.specs.Prelude.{ℕ, Bool, true, false, if◌then◌else◌, List, [], ◌∷◌, length, replicate, slice_index_or, ℤ, pos, ◌+ℤ◌, neg_ℤ, Option, Some, None}
use Rattle.four_state.specs.declared.bit.Bit.{Bit}
use Rattle.four_state.specs.declared.bit.Bit.TheVariants.{Zero, X}
use Rattle.four_state.specs.Parts.{index, within}
use Rattle.body_replay.specs.known_state.Partly.{Partly, filled, is_whole, with_blame}
use Rattle.body_replay.specs.known_state.Join.{join_bit, joined}
use Rattle.design_model.specs.declared.design.Range.{Range}
use Rattle.design_model.specs.Value.{offset_option}

-- the bit of the part at this place, or else the old one
abbrev pub bit_or_old : Option Bit → List (Option Bit) → Option ℕ → Option Bit
bit_or_old q ps None = q
bit_or_old q ps (Some k) = slice_index_or ps k q

-- the bits with a part written over them, whose bit at this place falls on the first one; what falls outside is dropped
abbrev pub bits_over : List (Option Bit) → List (Option Bit) → ℤ → List (Option Bit)
bits_over [] ps from = []
bits_over (q ∷ qs) ps from = bit_or_old q ps (within (length ps) from) ∷ bits_over qs ps (from +ℤ pos 1)

-- the same with the offset of the lowest bit of the part; without one nothing is written
abbrev pub placed_bits : List (Option Bit) → List (Option Bit) → Option ℤ → List (Option Bit)
placed_bits qs ps None = qs
placed_bits qs ps (Some low) = bits_over qs ps (neg_ℤ low)

-- what a bit and all of these have in common
abbrev pub common_bit : Option Bit → List (Option Bit) → Option Bit
common_bit q [] = q
common_bit q (p ∷ ps) = common_bit (join_bit q p) ps

-- what these bits have in common; x where there are no bits
abbrev pub common_bits : List (Option Bit) → Option Bit
common_bits [] = Some X
common_bits (p ∷ ps) = common_bit p ps

-- the offset in this range of the bit that a whole index names, if it is a number
abbrev pub whole_offset : Range → Partly → Option ℤ
whole_offset r i = offset_option r (index i.signed (filled Zero i.bits))

-- a part written from the bit with this index up into a vector of this range. By an index that is not whole any bit of the
-- part can come to each bit, and the index is to blame; else the part is, if it is not whole, and else what was before
abbrev pub part_written : Range → Partly → Partly → Partly → Partly
part_written r i p q =
    if is_whole i then with_blame (placed_bits q.bits p.bits (whole_offset r i)) q.signed (if is_whole p then q.blame else p.blame)
    else with_blame (joined q.bits (replicate (length q.bits) (common_bits p.bits))) q.signed i.blame

-- an update leaves its value, or, where it is not certain, what it has in common with what was before; the signal with
-- this number is to blame
abbrev pub updated : Bool → ℕ → Partly → Partly → Partly
updated true s new old = with_blame new.bits new.signed s
updated false s new old = with_blame (joined old.bits new.bits) old.signed s
