-- What is wrong with the expression that a port is joined to.
use Rattle.std.proofs.Common.{◌≡◌, ℕ, Bool, true, false, not, ◌&&◌, List, [], ◌∷◌, Option, Some, if◌then◌else◌, refl, ap, sym, ◌∙◌}
use Rattle.cov_host.specs.declared.place.Place.{Place}
use Rattle.verilog_tree.specs.Tree.{Expr, identifier}
use Rattle.verilog_tree.specs.declared.item.Named.{Named}
use Rattle.flat_design.specs.Connections.{Joined, as_alias, by_assignment, not_joined, joined_name, joined_faults, joining, unless_joined}
use Rattle.flat_design.specs.Declarations.{Declaration}
use Rattle.flat_design.specs.Fault.{Fault, none}
use Rattle.flat_design.specs.Instances.{is_input}
use Rattle.flat_design.specs.Loops.{is_identifier}
use Rattle.flat_design.specs.Expressions.{faults, use_faults}
use Rattle.flat_design.specs.Identifiers.{base_name, named}
use Rattle.flat_design.specs.Scope.{Scope, look_up, names_faulty}
use Rattle.flat_design.specs.declared.entry.Entry.{Entry}
use Rattle.flat_design.specs.declared.entry.Entry.TheVariants.{Constant, Signal}
use Rattle.flat_design.specs.declared.entry.SignalEntry.{SignalEntry}
use Rattle.elab_scope.specs.Tally.{Tally, after_faults}

unless_none : (k : Joined) → unless_joined k [] ≡ []
unless_none (as_alias n) = refl
unless_none by_assignment = refl
unless_none not_joined = refl

module _ (g : Scope) (label : Named) (d : Declaration) (p : Place) (x : List ℕ) where
  -- the faults of a joined name are reported, also where it is joined to something, since it then has no fault
  abbrev IsTold : Type 0
  IsTold = unless_joined (joined_name d (g x)) (joined_faults g label d (identifier p x)) ≡ joined_faults g label d (identifier p x)

  told_signal : (s : SignalEntry) → g x ≡ Some (Signal s) → (b net input : Bool) → is_input d ≡ b → s.net ≡ net → s.input ≡ input → IsTold
  told_signal s is true net input d-is net-is input-is = rw (is, d-is) (unless_none _)
  told_signal s is false true false d-is net-is input-is =
      let clean : faults g (identifier p x) ≡ [] = ap (λ o. use_faults o (named x p)) is in
      rw (is, d-is, net-is, input-is, clean) (unless_none _)
  told_signal s is false true true d-is net-is input-is = rw (is, d-is, net-is, input-is) refl
  told_signal s is false false input d-is net-is input-is = rw (is, d-is, net-is) refl

  told_name : (o : Option Entry) (b : Bool) → g x ≡ o → is_input d ≡ b → IsTold
  told_name (Some (Signal s)) b is d-is = told_signal s is b s.net s.input d-is refl refl
  told_name (Some (Constant v)) true is d-is = rw (is, d-is) refl
  told_name (Some (Constant v)) false is d-is = rw (is, d-is) refl
  told_name o b is d-is = rw is refl

assigned : (fs : List Fault) (b : Bool) → unless_joined (if none fs && b then by_assignment else not_joined) fs ≡ fs
assigned [] b = unless_none (if b then by_assignment else not_joined)
assigned (f ∷ fs) b = refl

-- what joins something has no fault
pub told_anyway : (g : Scope) (label : Named) (d : Declaration) (e : Expr) → unless_joined (joining g d label e) (joined_faults g label d e) ≡ joined_faults g label d e
told_anyway g label d (identifier p x) = told_name g label d p x (g x) (is_input d) refl refl
told_anyway g label d e = assigned (joined_faults g label d e) (not (names_faulty g e))

-- a plain name is joined by what it means
pub joining_name : (g : Scope) (label : Named) (d : Declaration) (e : Expr) → is_identifier e ≡ true → joining g d label e ≡ joined_name d (look_up g (base_name e).name)
joining_name g label d (identifier p x) plain = refl
joining_name g label d e plain = absurd cc

-- what is no plain name is joined by its faults
pub joining_other : (g : Scope) (label : Named) (d : Declaration) (e : Expr) → is_identifier e ≡ false → joining g d label e ≡ (if none (joined_faults g label d e) && not (names_faulty g e) then by_assignment else not_joined)
joining_other g label d (identifier p x) other = absurd cc
joining_other g label d e other = refl

-- the faults of an output and then, where it has no fault, those of a target
pub then_target : (outs targets : List Fault) (t u v : Tally) → none outs ≡ true → u ≡ after_faults t outs → v ≡ after_faults u targets → v ≡ after_faults t (if none outs then targets else outs)
then_target [] targets t u v sound first second = second ∙ ap (λ w. after_faults w targets) first
then_target (o ∷ outs) targets t u v sound first second = absurd cc

-- no fault and no name that has one, so it is joined
pub assigned_is : (g : Scope) (label : Named) (d : Declaration) (e : Expr) (sound faulty : Bool) → is_identifier e ≡ false → sound ≡ none (joined_faults g label d e) → faulty ≡ names_faulty g e →
    (if sound && not faulty then by_assignment else not_joined) ≡ joining g d label e
assigned_is g label d e sound faulty other first second = rw (first, second) (sym (joining_other g label d e other))
