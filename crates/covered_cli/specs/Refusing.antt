-- Which fault of the program a fault of a binding or of the replay is.
use Rattle.std.specs.Prelude.{◌≡◌, ℕ, List}
use Rattle.design_model.specs.Design.{Design, path_of}
use Rattle.dump_score.specs.replay_core.declared.fault.ReplayFault.{ReplayFault}
use Rattle.dump_score.specs.replay_core.declared.fault.ReplayFault.TheVariants as replay_fault
use Rattle.signal_binding.specs.declared.fault.BindFault.{BindFault}
use Rattle.signal_binding.specs.declared.fault.BindFault.TheVariants as bind_fault
use Rattle.covered_cli.specs.declared.dump_refusal.DumpRefusal.TheVariants as refusal
use Rattle.covered_cli.specs.declared.fault.Fault.{Fault}
use Rattle.covered_cli.specs.declared.fault.Fault.TheVariants as fault

-- the fault is that of the binding, with the path of the instance, if it is not want of memory
abbrev pub IsBindRefusal : List ℕ → BindFault → Fault → Type 0
IsBindRefusal instance bind_fault.NoInstance (fault.Dump (refusal.NoInstance path)) = path.now ≡ instance
IsBindRefusal instance f fault.Memory = Unit {0}
IsBindRefusal instance f other = ⊥

-- the fault is that of the replay, with the path of its signal
abbrev pub IsReplayRefusal : Design → ReplayFault → Fault → Type 0
IsReplayRefusal d (replay_fault.NoBaseline s) (fault.Dump (refusal.NoBaseline path)) = path ≡ path_of d s
IsReplayRefusal d (replay_fault.Contradiction s time dumped computed) (fault.Contradiction x) = x ≡ record { path = path_of d s; time = time; dumped = dumped; computed = computed }
IsReplayRefusal d f other = ⊥
