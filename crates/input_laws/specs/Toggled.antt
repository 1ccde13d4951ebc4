-- The toggles of a dump over the steps of its window.
use Rattle.std.specs.Prelude.{◌≡◌, ◌+◌, ◌<◌, ℕ, Bool, true, false, List, length, slice_index}
use Rattle.event_machine.specs.Cell.{Cell}
use Rattle.four_state.specs.declared.bit.Bit.{Bit}
use Rattle.four_state.specs.declared.bit.Bit.TheVariants.{One, Zero}
use Rattle.design_model.specs.Shows.{BoundDump, InSome}

-- the bit that a rise begins with, or a fall
abbrev pub old_bit : Bool → Bit
old_bit true = Zero
old_bit false = One

-- the bit that a rise ends with, or a fall
abbrev pub new_bit : Bool → Bit
new_bit true = One
new_bit false = Zero

-- the value of the bit at the listed time with this number, from 0, of these
abbrev pub dumped_bit : BoundDump → List ℕ → Cell → ℕ → Bit
dumped_bit dump times c k = dump.values (slice_index times k) c

-- the bit toggles over a step of the stretch with these listed times: from one to the next, which is not the last
pub record TogglesIn (dump : BoundDump) (times : List ℕ) (c : Cell) (rise : Bool) : Type 0 where
  pub number : ℕ
  pub inside : number + 2 < length times
  pub before : dumped_bit dump times c number ≡ old_bit rise
  pub after : dumped_bit dump times c (number + 1) ≡ new_bit rise

-- it toggles over a step of the window: over one of some stretch
abbrev pub TogglesOver : BoundDump → Cell → Bool → Type 0
TogglesOver dump c rise = InSome (λ times. TogglesIn dump times c rise) dump.stretches
