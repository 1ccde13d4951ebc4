-- Nets that are assigned the values that they are declared with.
use Rattle.std.proofs.Common.{◌≡◌, ℕ, Bool, true, false, not, ◌||◌, ◌&&◌, if◌then◌else◌, [], ◌∷◌, ◌++◌, Option, Some, None, refl, sym, ap, ◌∙◌}
use Rattle.verilog_tree.specs.Tree.{Expr, identifier}
use Rattle.verilog_tree.specs.declared.item.Named.{Named}
use Rattle.flat_design.specs.Bodies.{met_writing, met_writings}
use Rattle.flat_design.specs.Expressions.{faults}
use Rattle.flat_design.specs.Fault.{none}
use Rattle.flat_design.specs.Processes.{self_faults, whole_writing}
use Rattle.flat_design.specs.Scope.{Scope, look_up, names_faulty}
use Rattle.flat_design.specs.Targets.{target_faults}
use Rattle.flat_design.specs.declared.entry.Entry.{Entry}
use Rattle.flat_design.specs.declared.entry.Entry.TheVariants.{Constant, Turn, Signal, Memory, LoopVariable, Instance, NoConstant, Faulty}
use Rattle.flat_design.specs.declared.entry.Mode.TheVariants.{Continuous}
use Rattle.flat_design.specs.declared.entry.SignalEntry.{SignalEntry}
use Rattle.elab_checks.proofs.ExpressionLemmas.{none_append}
use Rattle.elab_processes.specs.Nets.{driven_net, value_reads}

-- what a net that is driven is
pub record IsDriven (o : Option Entry) (s : SignalEntry) : Type 0 where
  pub entry : o ≡ Some (Signal s)
  pub open' : (s.input || not s.net) ≡ false

is_some : (b : Bool) (t s : SignalEntry) → (if b then None else Some t) ≡ Some s → (t ≡ s) × (b ≡ false)
is_some true t s e = absurd cc
is_some false t s e = (cc, refl)

is_driven : (o : Option Entry) (s : SignalEntry) → driven_net o ≡ Some s → IsDriven o s
is_driven None s e = absurd cc
is_driven (Some (Signal t)) s e =
    let is = is_some (t.input || not t.net) t s e in
    record { entry = ap (λ u. Some (Signal u)) is.0; open' = ap (λ u. u.input || not u.net) (sym is.0) ∙ is.1 }
is_driven (Some _) s e = absurd cc

is_none : (b : Bool) (t : SignalEntry) → (if b then None else Some t) ≡ None → b ≡ true
is_none true t e = refl
is_none false t e = absurd cc

module _ (g : Scope) (x : Named) where
  -- the name as a target
  abbrev here : Expr
  here = identifier x.place x.name

  -- all bits of a net that is driven are written
  pub net_writes : (k : ℕ) (s : SignalEntry) → driven_net (look_up g x.name) ≡ Some s → met_writings g Continuous true true k here ≡ met_writing (whole_writing k x s) ∷ []
  net_writes k s driven =
      let is = is_driven (look_up g x.name) s driven in
      rw (is.entry, is.open', is.entry) refl

  -- and its reads are those of its value
  pub net_reads : (v : Expr) (s : SignalEntry) → driven_net (look_up g x.name) ≡ Some s → self_faults g here v ≡ value_reads g (whole_writing 0 x s) v
  net_reads v s driven =
      let is = is_driven (look_up g x.name) s driven in
      rw (is.entry, is.open', is.entry) refl

  -- what is no net to drive has a fault as a target, or its declaration has
  no_target : (o : Option Entry) → look_up g x.name ≡ o → driven_net o ≡ None → (none (target_faults g Continuous here) && not (names_faulty g here)) ≡ false
  no_target None is e = rw is refl
  no_target (Some (Constant v)) is e = rw is refl
  no_target (Some (Turn v)) is e = rw is refl
  no_target (Some (Signal s)) is e = rw (is, is_none (s.input || not s.net) s e) refl
  no_target (Some (Memory m)) is e = rw is refl
  no_target (Some LoopVariable) is e = rw is refl
  no_target (Some Instance) is e = rw is refl
  no_target (Some NoConstant) is e = rw is refl
  no_target (Some Faulty) is e = rw is refl

  -- so nothing is written
  pub nothing_written : (k : ℕ) → driven_net (look_up g x.name) ≡ None → met_writings g Continuous true true k here ≡ []
  nothing_written k e = rw (no_target (look_up g x.name) refl e) refl

  both_unless : (a b c d : Bool) → (a && not c) ≡ false → ((a && b) && not (c || d)) ≡ false
  both_unless true b true d e = flat b
    where
      flat : (b : Bool) → (b && false) ≡ false
      flat true = refl
      flat false = refl
  both_unless true b false d e = absurd cc
  both_unless false b c d e = refl

  -- and nothing read
  pub nothing_read : (v : Expr) → driven_net (look_up g x.name) ≡ None → self_faults g here v ≡ []
  nothing_read v e =
      let sound : none (target_faults g Continuous here ++ faults g v) ≡ (none (target_faults g Continuous here) && none (faults g v)) = none_append (target_faults g Continuous here) (faults g v) in
      let never = both_unless (none (target_faults g Continuous here)) (none (faults g v)) (names_faulty g here) (names_faulty g v) (no_target (look_up g x.name) refl e) in
      rw (sound, never) refl
