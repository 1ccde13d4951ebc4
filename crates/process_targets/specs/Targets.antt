-- The bits of signals that a process may write, as masks.
use Rattle.std.specs.Prelude.{◌≡◌, ◌≤◌, ◌==◌, ◌&&◌, ◌||◌, ℕ, Bool, true, not, List, map, nat_le, nat_lt, ℤ, pos, Option, Some, None, ⊤}
use Rattle.std.specs.List.{list_any}
use Rattle.design_model.specs.event_machine.Cell.{Cell}
use Rattle.four_state.specs.Masks.{is_set}
use Rattle.four_state.specs.Parts.{index}
use Rattle.design_model.specs.Assignment.{signal_range}
use Rattle.design_model.specs.Design.{AreDistinct, Design, signal_at}
use Rattle.design_model.specs.declared.design.Range.{Range}
use Rattle.design_model.specs.declared.design.Signal.{Signal}
use Rattle.design_model.specs.Lawful.{span}
use Rattle.design_model.specs.Mentions.{blank, is_constant, may_write}
use Rattle.design_model.specs.Shape.{is_alone}
use Rattle.design_model.specs.Tree.{bits_of}
use Rattle.design_model.specs.Value.{head, offset_option, value}
use Rattle.design_model.specs.WellFormed.{are_among}
use Rattle.design_targets.specs.Leaves.{Leaf}
use Rattle.process_targets.specs.declared.bits.Bits.{Bits}

-- the bits have the cell
abbrev pub has_bit : Bits → Cell → Bool
has_bit b c = (b.signal == c.thing) && is_set b.mask c.place

-- some of a row have it
abbrev pub row_has : List Bits → Cell → Bool
row_has row c = list_any (λ b. has_bit b c) row

-- a row has the signal, with bits or without
abbrev pub names : List Bits → ℕ → Bool
names row s = list_any (λ b. b.signal == s) row

-- no signal is in the row twice
abbrev pub IsOnce : List Bits → Type 0
IsOnce row = AreDistinct (map (λ b. b.signal) row)

-- a part of a target may write the cell of a signal
abbrev pub leaf_has : Design → Leaf → Cell → Bool
leaf_has d (x, None) c = (c.thing == x) && nat_lt c.place (signal_at d x).width
leaf_has d (x, Some (low, w)) c = may_write d (bits_of x low w) c

-- of a part of a signal the index has its shape, and a constant one is that of bits of the signal
abbrev pub IsRightLeaf : Design → Leaf → Type 0
IsRightLeaf d (x, None) = ⊤
IsRightLeaf d (x, Some (low, w)) =
    (is_alone d low ≡ true) × (1 ≤ w)
    × ((not (is_constant low) || are_among (signal_at d x).width w (offset_option (signal_range d x) (index (head low).signed (value d blank low)))) ≡ true)

-- the declared range of a signal
abbrev pub range_in : Signal → Range
range_in s = record { high = s.high; low = s.low }

-- the signal has 1 to 128 bits, as many as its range
abbrev pub is_sized : Signal → Bool
is_sized s = nat_le 1 s.width && (nat_le s.width 128 && (s.width == span s.high s.low))

-- a place as an offset
abbrev pub whole_option : Option ℕ → Option ℤ
whole_option None = None
whole_option (Some k) = Some (pos k)
