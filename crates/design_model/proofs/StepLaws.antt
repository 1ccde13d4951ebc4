-- The laws of the event machine that the proofs use.
use Rattle.event_machine.proofs.Leaves.{write_law}  -- #keep
use Rattle.event_machine.proofs.Nets.{net_law}  -- #keep
use Rattle.event_machine.proofs.Rounds.{unchanged_law, no_wake_law, edge_law}  -- #keep
use Rattle.event_machine.proofs.Settled.{settled_law, idle_law, computed_law}  -- #keep
use Rattle.event_machine.specs.Machine.{IsLawful, Machine}
use Rattle.event_machine.specs.Habit.{Habit}
use Rattle.event_machine.specs.Laws.{ComputedLaw, EdgeLaw, IdleLaw, NetLaw, NoWakeLaw, SettledLaw, UnchangedLaw, WriteLaw}

pub record StepLaws {V : Type 0} (m : Machine V) (h : Habit) : Type 0 where
  pub net : NetLaw m
  pub unchanged : UnchangedLaw m
  pub no_wake : NoWakeLaw m
  pub write : WriteLaw m
  pub idle : IdleLaw m
  pub computed : ComputedLaw m
  pub edge : EdgeLaw m h
  pub settled : SettledLaw m

pub step_laws : {V : Type 0} (m : Machine V) → IsLawful m → (h : Habit) → StepLaws m h
step_laws m lawful h =
    record {
      net = net_law m lawful;
      unchanged = unchanged_law m lawful;
      no_wake = no_wake_law m lawful;
      write = write_law m lawful;
      idle = idle_law m lawful;
      computed = computed_law m lawful;
      edge = edge_law m lawful h;
      settled = settled_law m lawful;
    }
