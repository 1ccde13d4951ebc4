-- From the faults of the scoring to those of the program.
use Rattle.std.proofs.Common.{ℕ, ◌<◌, List, length, refl, sym, subst}
use Rattle.command_line.specs.CommandWords.{ScoreValues}
use Rattle.cov_host.specs.Outside.{Outside}
use Rattle.design_model.specs.View.{design_view}
use Rattle.design_model.specs.declared.design.Design.{Design}
use Rattle.event_machine.specs.Habit.{Habit}
use Rattle.dump_score.specs.dump_replay.Faults.{IsReplayFault}
use Rattle.dump_score.specs.Faults.{IsScoreFault}
use Rattle.dump_score.specs.declared.fault.ScoreFault.TheVariants as score_fault
use Rattle.dump_score.specs.replay_core.Fits.{signal_of}
use Rattle.dump_score.specs.replay_core.declared.fault.ReplayFault.{ReplayFault}
use Rattle.dump_score.specs.replay_core.declared.fault.ReplayFault.TheVariants as replay_fault
use Rattle.signal_binding.specs.declared.fault.BindFault.{BindFault}
use Rattle.signal_binding.specs.declared.fault.BindFault.TheVariants as bind_fault
use Rattle.vcd_reader.specs.declared.entry.Entry.{Entry}
use Rattle.vcd_reader.specs.declared.vars.Var.{Var}
use Rattle.covered_cli.specs.Fault.{IsScoringFault}
use Rattle.covered_cli.specs.ScoreMachines.{habit_in}
use Rattle.covered_cli.specs.Refusing.{IsBindRefusal, IsReplayRefusal}
use Rattle.covered_cli.specs.declared.dump_refusal.DumpRefusal.TheVariants as refusal
use Rattle.covered_cli.specs.declared.fault.Fault.{Fault}
use Rattle.covered_cli.specs.declared.fault.Fault.TheVariants as fault

named_signal : (habit : Habit) (design : Design) (vars : List Var) (instance : List ℕ) (entries : List Entry) (f : ReplayFault) → IsReplayFault habit design vars instance entries f → signal_of f < length design.signals
named_signal habit design vars instance entries (replay_fault.NoBaseline s) is = is.listed
named_signal habit design vars instance entries (replay_fault.Contradiction s time dumped computed) is = is.listed

-- a fault of the scoring names a signal of the design
pub replay_named : (name : List ℕ) (before after : Outside) (habit : Habit) (design : Design) (instance : List ℕ) (f : ReplayFault) → IsScoreFault name before after habit design instance (score_fault.Replay f) → signal_of f < length design.signals
replay_named name before after habit design instance f is = let some = is.2 in named_signal habit design some.0.vars instance some.0.items f some.2

module _ (score : ScoreValues) (design : Design) (before after : Outside) where
  -- a fault of the binding
  pub bind_refused : (f : BindFault) (result : Fault) → IsBindRefusal score.instance f result → IsScoreFault score.dump before after (habit_in score) design score.instance (score_fault.Bind f) → IsScoringFault score design before after result
  bind_refused bind_fault.NoInstance (fault.Dump (refusal.NoInstance path)) same is = (is.0, is.1, (same, is.2))
  bind_refused bind_fault.NoInstance (fault.Dump (refusal.At kind byte)) same is = absurd same
  bind_refused bind_fault.NoInstance (fault.Dump (refusal.NoBaseline path)) same is = absurd same
  bind_refused bind_fault.NoMemory (fault.Dump r) same is = absurd same
  bind_refused bind_fault.NoMemory fault.Memory same is = tt
  bind_refused bind_fault.NoInstance fault.Memory same is = tt
  bind_refused bind_fault.NoMemory (fault.Usage usage) same is = absurd same
  bind_refused bind_fault.NoMemory (fault.Source g) same is = absurd same
  bind_refused bind_fault.NoMemory (fault.NoMachine name) same is = absurd same
  bind_refused bind_fault.NoMemory (fault.Points p) same is = absurd same
  bind_refused bind_fault.NoMemory (fault.Contradiction x) same is = absurd same
  bind_refused bind_fault.NoMemory (fault.Files call file) same is = absurd same
  bind_refused bind_fault.NoMemory (fault.Databases g) same is = absurd same
  bind_refused bind_fault.NoMemory (fault.Selfrun g) same is = absurd same
  bind_refused bind_fault.NoInstance (fault.Usage usage) same is = absurd same
  bind_refused bind_fault.NoInstance (fault.Source g) same is = absurd same
  bind_refused bind_fault.NoInstance (fault.NoMachine name) same is = absurd same
  bind_refused bind_fault.NoInstance (fault.Points p) same is = absurd same
  bind_refused bind_fault.NoInstance (fault.Contradiction x) same is = absurd same
  bind_refused bind_fault.NoInstance (fault.Files call file) same is = absurd same
  bind_refused bind_fault.NoInstance (fault.Databases g) same is = absurd same
  bind_refused bind_fault.NoInstance (fault.Selfrun g) same is = absurd same

  -- a fault of the replay
  pub replay_refused : (f : ReplayFault) (result : Fault) → IsReplayRefusal (design_view design) f result → IsScoreFault score.dump before after (habit_in score) design score.instance (score_fault.Replay f) → IsScoringFault score design before after result
  replay_refused (replay_fault.NoBaseline s) (fault.Dump (refusal.NoBaseline path)) same is = (is.0, is.1, (s, same, is.2))
  replay_refused (replay_fault.NoBaseline s) (fault.Dump (refusal.At kind byte)) same is = absurd same
  replay_refused (replay_fault.NoBaseline s) (fault.Dump (refusal.NoInstance path)) same is = absurd same
  replay_refused (replay_fault.NoBaseline s) (fault.Contradiction x) same is = absurd same
  replay_refused (replay_fault.NoBaseline s) fault.Memory same is = absurd same
  replay_refused (replay_fault.Contradiction s time dumped computed) (fault.Contradiction x) same is =
      subst (λ x. IsScoringFault score design before after (fault.Contradiction x)) (sym same) (is.0, is.1, (s, refl, is.2))
  replay_refused (replay_fault.Contradiction s time dumped computed) (fault.Dump r) same is = absurd same
  replay_refused (replay_fault.Contradiction s time dumped computed) fault.Memory same is = absurd same
  replay_refused (replay_fault.NoBaseline s) (fault.Usage usage) same is = absurd same
  replay_refused (replay_fault.NoBaseline s) (fault.Source g) same is = absurd same
  replay_refused (replay_fault.NoBaseline s) (fault.NoMachine name) same is = absurd same
  replay_refused (replay_fault.NoBaseline s) (fault.Points p) same is = absurd same
  replay_refused (replay_fault.NoBaseline s) (fault.Files call file) same is = absurd same
  replay_refused (replay_fault.NoBaseline s) (fault.Databases g) same is = absurd same
  replay_refused (replay_fault.NoBaseline s) (fault.Selfrun g) same is = absurd same
  replay_refused (replay_fault.Contradiction s time dumped computed) (fault.Usage usage) same is = absurd same
  replay_refused (replay_fault.Contradiction s time dumped computed) (fault.Source g) same is = absurd same
  replay_refused (replay_fault.Contradiction s time dumped computed) (fault.NoMachine name) same is = absurd same
  replay_refused (replay_fault.Contradiction s time dumped computed) (fault.Points p) same is = absurd same
  replay_refused (replay_fault.Contradiction s time dumped computed) (fault.Files call file) same is = absurd same
  replay_refused (replay_fault.Contradiction s time dumped computed) (fault.Databases g) same is = absurd same
  replay_refused (replay_fault.Contradiction s time dumped computed) (fault.Selfrun g) same is = absurd same
