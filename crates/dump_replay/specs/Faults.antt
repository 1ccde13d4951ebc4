-- Why a dump is refused by the replay.
use Rattle.std.specs.Prelude.{◌≡◌, ◌<◌, ◌≤◌, ◌++◌, ◌∷◌, [], ℕ, List, length, Option, None, Some}
use Rattle.design_model.specs.View.{design_view}
use Rattle.design_model.specs.declared.design.Design.{Design}
use Rattle.event_machine.specs.Habit.{Habit}
use Rattle.four_state.specs.Vector.{Vector}
use Rattle.four_state.specs.declared.bit.Bit.{Bit}
use Rattle.vcd_reader.specs.Dump.{stretches_of}
use Rattle.vcd_reader.specs.Times.{last_time}
use Rattle.vcd_reader.specs.declared.entry.Entry.{Entry}
use Rattle.vcd_reader.specs.declared.entry.Entry.TheVariants.{Time}
use Rattle.vcd_reader.specs.declared.vars.Var.{Var}
use Rattle.replay_core.specs.Faults.{IsRefuted}
use Rattle.replay_core.specs.declared.fault.ReplayFault.{ReplayFault}
use Rattle.replay_core.specs.declared.fault.ReplayFault.TheVariants.{Contradiction, NoBaseline}
use Rattle.signal_binding.specs.Binding.{HasInstance, codes_of}
use Rattle.shown_dumps.specs.Bound.{HasNoBaseline}
use Rattle.shown_dumps.specs.Said.{open_stretch}
use Rattle.shown_dumps.specs.Shown.{dump_of}

-- the entries end with a time, and this is the one before it in the same stretch, or one between the two
pub record EndsStep (entries : List Entry) (time : ℕ) : Type 0 where
  pub front : List Entry
  pub next : ℕ
  pub are : entries ≡ front ++ Time next ∷ []
  pub last : ℕ
  pub is_last : last_time None (open_stretch front) ≡ Some last
  pub from : last ≤ time
  pub before : time < next

-- the entries end with a time, and no run of the design shows their dump up to this time, which is the one before it or between the two; what the dump says of the signal then differs in a sure bit from what was made of it
pub record IsContradicted (habit : Habit) (design : Design) (vars : List Var) (instance : List ℕ) (entries : List Entry) (s time : ℕ) (dumped : Vector) (computed : List (Option Bit)) : Type 0 where
  pub there : HasInstance vars instance
  pub ends : EndsStep entries time
  pub listed : s < length design.signals
  pub refuted : IsRefuted (design_view design) habit (dump_of (codes_of design vars instance) (stretches_of entries)) time s dumped computed

-- the entries have the fault
abbrev pub IsReplayFault : Habit → Design → List Var → List ℕ → List Entry → ReplayFault → Type 0
IsReplayFault habit design vars instance entries (NoBaseline s) = HasNoBaseline design vars instance entries s
IsReplayFault habit design vars instance entries (Contradiction s time dumped computed) = IsContradicted habit design vars instance entries s time dumped computed.bits
