-- What the faults of a replay say.
use Rattle.std.specs.Prelude.{◌≡◌, ℕ, false, List, Option, Some, None}
use Rattle.design_model.specs.Design.{Design, signal_bits}
use Rattle.design_model.specs.Shows.{BoundDump, IsContradicted}
use Rattle.dump_check.specs.declared.order.Difference.{Difference}
use Rattle.event_machine.specs.Habit.{Habit}
use Rattle.four_state.specs.Vector.{Vector}
use Rattle.four_state.specs.declared.bit.Bit.{Bit}
use Rattle.known_state.specs.Partly.{allows_bits}
use Rattle.replay_core.specs.declared.fault.Phase.{Phase}
use Rattle.replay_core.specs.declared.fault.Phase.TheVariants.{Refused, Started}
use Rattle.replay_core.specs.declared.fault.ReplayFault.{ReplayFault}
use Rattle.replay_core.specs.declared.fault.ReplayFault.TheVariants.{Contradiction, NoBaseline}

-- no run shows the dump up to the time, and what the dump says of the signal then differs in a sure bit from what was made of it
pub record IsRefuted (d : Design) (h : Habit) (dump : BoundDump) (t s : ℕ) (dumped : Vector) (computed : List (Option Bit)) : Type 0 where
  pub contradicted : IsContradicted d h dump t
  pub says : dumped.bits ≡ signal_bits d (dump.values t) s
  pub differ : allows_bits computed dumped.bits ≡ false

-- the fault of a step that ends at this time is a contradiction of this dump
abbrev pub IsContradiction : Design → Habit → BoundDump → ℕ → ReplayFault → Type 0
IsContradiction d h dump t (NoBaseline s) = ⊥
IsContradiction d h dump t (Contradiction s end dumped computed) = (end ≡ t) × IsRefuted d h dump t s dumped computed.bits

-- the contradiction that was found in the step that ends at this time
abbrev pub fault_at : Difference → ℕ → ReplayFault
fault_at found t = Contradiction found.signal t found.dumped found.computed

-- how far the replay has come after a step in which this was found
abbrev pub phase_after : Option Difference → ℕ → Phase
phase_after None t = Started
phase_after (Some found) t = Refused (fault_at found t)
