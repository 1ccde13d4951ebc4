-- Where nothing moves, what is clear stays.
use Rattle.std.specs.Prelude.{◌≡◌, ◌↔◌, ℕ, suc, true, List}
use Rattle.event_machine.specs.Cell.{Cell, Values}
use Rattle.event_machine.specs.Habit.{Habit}
use Rattle.four_state.specs.declared.bit.Bit.{Bit}
use Rattle.design_model.specs.Design.{Design, Thing}
use Rattle.design_model.specs.Machine.{machine}
use Rattle.design_model.specs.Reads.{Agrees}
use Rattle.design_model.specs.Shows.{BoundDump, IsListed, IsWindow}
use Rattle.design_model.specs.Clear.{clear}

-- each input is bound
abbrev pub BindsInputs : Design → BoundDump → Type 0
BindsInputs d dump = (c : Cell) → (machine d).is_input c ≡ true → dump.bound c.thing ≡ true

-- between listed times the values of the dump stay
abbrev pub KeepsValues : BoundDump → Type 0
KeepsValues dump = (t : ℕ) → (IsListed dump (suc t) → ⊥) → dump.values (suc t) ≡ dump.values t

-- Still law: where each input is bound, what is clear at a window time that the dump does not list is what was clear the moment before.
-- Some state must agree with what was clear then, as where a run shows the dump
abbrev pub StillLaw : Design → Habit → Type 0
StillLaw d h =
    (dump : BoundDump) → BindsInputs d dump → KeepsValues dump → (t : ℕ) → IsWindow dump (suc t) → (IsListed dump (suc t) → ⊥)
    → (v : Values Bit) → Agrees d (clear d h dump t) v
    → (x : Thing) (bits : List Bit) → clear d h dump (suc t) x bits ↔ clear d h dump t x bits
