-- A name that is a target without a fault.
use Rattle.std.proofs.Common.{◌≡◌, ℕ, true, false, Option, Some, None, refl, add-zero}
use Rattle.cov_host.specs.declared.place.Place.{Place}
use Rattle.design_model.specs.Tree.{all_of, assign}
use Rattle.verilog_tree.specs.Tree.{Expr, identifier}
use Rattle.verilog_tree.specs.declared.item.Named.{Named}
use Rattle.flat_design.specs.Fault.{none}
use Rattle.flat_design.specs.Processes.{continuous, is_signal_entry}
use Rattle.flat_design.specs.Scope.{Scope, is_faulty_entry, look_up, range_width}
use Rattle.flat_design.specs.Targets.{leaf_faults}
use Rattle.flat_design.specs.Terms.{right_side}
use Rattle.flat_design.specs.declared.entry.Entry.{Entry}
use Rattle.flat_design.specs.declared.entry.Entry.TheVariants.{Constant, Turn, Signal, Memory, LoopVariable, Instance, NoConstant, Faulty}
use Rattle.flat_design.specs.declared.entry.Mode.{Mode}
use Rattle.flat_design.specs.declared.entry.Mode.TheVariants.{Continuous, Combinational, Clocked}
use Rattle.flat_design.specs.declared.entry.SignalEntry.{SignalEntry}
use Rattle.elab_build.specs.Sound.{IsClear, IsSoundTarget}

module _ (g : Scope) (x : Named) where
  -- the name as a target
  abbrev here : Expr
  here = identifier x.place x.name

  stands : (mode : Mode) (o : Option Entry) → look_up g x.name ≡ o → none (leaf_faults g mode o here) ≡ true → is_faulty_entry o ≡ false → is_signal_entry o ≡ true
  stands mode None is f c = absurd cc
  stands mode (Some (Constant v)) is f c = absurd cc
  stands mode (Some (Turn v)) is f c = absurd cc
  stands mode (Some (Signal s)) is f c = refl
  stands Continuous (Some (Memory m)) is f c = absurd cc
  stands Combinational (Some (Memory m)) is f c = absurd cc
  stands Clocked (Some (Memory m)) is f c =
      let used = rw is at f in
      absurd cc
  stands mode (Some LoopVariable) is f c = absurd cc
  stands mode (Some Instance) is f c = absurd cc
  stands mode (Some NoConstant) is f c = absurd cc
  stands mode (Some Faulty) is f c = absurd cc

  -- it means a signal
  pub sound_net : IsClear g → IsSoundTarget g here → is_signal_entry (look_up g x.name) ≡ true
  sound_net clear (mode, f) = stands mode (look_up g x.name) refl f (clear x.name)

  -- and its process assigns that
  pub net_process_is : (base i k n : ℕ) (p : Place) (v : Expr) (s : SignalEntry) → look_up g x.name ≡ Some (Signal s) →
      (continuous base g i k p here v n).process ≡ assign i (all_of s.number) (right_side base g (range_width s.range) v n) true
  net_process_is base i k n p v s is = rw (is, add-zero) refl
