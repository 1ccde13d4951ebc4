-- A design that is not bound to a header is refused for that alone.
use Rattle.std.proofs.Common.{◌≢◌, ◌∙◌, ℕ, List, refl, sym, subst, inl, inr}
use Rattle.std.proofs.lemmas.Bool.{false≢true}
use Rattle.design_model.specs.declared.design.Design.{Design}
use Rattle.event_machine.specs.Habit.{Habit}
use Rattle.dump_replay.specs.Faults.{IsReplayFault}
use Rattle.dump_replay.specs.replay_core.declared.fault.ReplayFault.{ReplayFault}
use Rattle.dump_replay.specs.replay_core.declared.fault.ReplayFault.TheVariants.{Contradiction, NoBaseline}
use Rattle.signal_binding.specs.Binding.{HasInstance, IsBindFault}
use Rattle.signal_binding.specs.declared.fault.BindFault.{BindFault}
use Rattle.signal_binding.specs.declared.fault.BindFault.TheVariants as bind_fault
use Rattle.vcd_reader.proofs.OneHeader.{one_header}
use Rattle.vcd_reader.specs.Dump.{SaysBody}
use Rattle.vcd_reader.specs.Reading.{Body}
use Rattle.vcd_reader.specs.declared.entry.Entry.{Entry}
use Rattle.vcd_reader.specs.declared.fault.DumpFault.TheVariants as dump_fault
use Rattle.vcd_reader.specs.declared.fault.DumpKind.{DumpKind}
use Rattle.vcd_reader.specs.declared.vars.Var.{Var}
use Rattle.dump_score.specs.Faults.{IsTextFault}
use Rattle.dump_score.specs.declared.fault.ScoreFault.TheVariants as score_fault

-- a design that is not bound is not bound
unbound : (design : Design) (vars : List Var) (instance : List ℕ) (f : BindFault) → f ≢ bind_fault.NoMemory → IsBindFault design vars instance f → HasInstance vars instance → ⊥
unbound design vars instance bind_fault.NoMemory named is bound = named refl
unbound design vars instance bind_fault.NoInstance named is bound = false≢true (sym is ∙ bound)

-- where the replay has a fault the design is bound
pub replay_binds : (habit : Habit) (design : Design) (vars : List Var) (instance : List ℕ) (entries : List Entry) (f : ReplayFault) → IsReplayFault habit design vars instance entries f → HasInstance vars instance
replay_binds habit design vars instance entries (NoBaseline s) is = is.there
replay_binds habit design vars instance entries (Contradiction s time dumped computed) is = is.there

module _ (habit : Habit) (design : Design) (instance text : List ℕ) (f : BindFault) (named : f ≢ bind_fault.NoMemory) (is : IsTextFault habit design instance text (score_fault.Bind f)) where
  not_bound : (b : Body) → SaysBody text b → HasInstance b.vars instance → ⊥
  not_bound b says bound =
      unbound design b.vars instance f named (subst (λ vars. IsBindFault design vars instance f) (sym (one_header text is.0 b is.1 says)) is.2) bound

  pub no_fault : (kind : DumpKind) (byte : ℕ) → IsTextFault habit design instance text (score_fault.Dump (dump_fault.At kind byte)) → ⊥
  no_fault kind byte (first, inl none) = none is.0 is.1
  no_fault kind byte (first, inr (binds, none)) = not_bound binds.0 binds.1 binds.2

  pub no_replay : (r : ReplayFault) → IsTextFault habit design instance text (score_fault.Replay r) → ⊥
  no_replay r says = not_bound says.0 says.1 (replay_binds habit design says.0.vars instance says.0.items r says.2)

-- a text is not refused for a first value that is missing and for a fault at once
pub first_values : (habit : Habit) (design : Design) (instance text : List ℕ) (s : ℕ) (kind : DumpKind) (byte : ℕ) → IsTextFault habit design instance text (score_fault.Replay (NoBaseline s)) → IsTextFault habit design instance text (score_fault.Dump (dump_fault.At kind byte)) → ⊥
first_values habit design instance text s kind byte says (first, inl none) = none says.0 says.1
first_values habit design instance text s kind byte says (first, inr (binds, none)) = none says.0 s says.1 says.2
