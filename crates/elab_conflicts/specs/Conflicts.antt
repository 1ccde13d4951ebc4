-- Writings of one signal or memory that are in conflict, and what is kept of earlier ones.
use Rattle.std.specs.Prelude.{◌≡◌, ℕ, nat_eq, unwrap_or, ◌+◌, ◌==◌, ◌≤◌, Bool, true, false, not, ◌&&◌, List, [], ◌∷◌, Option, Some, None}
use Rattle.std.specs.Bool.{beq}
use Rattle.std.specs.Cmp.Lexicographic.{slice_cmp}
use Rattle.std.specs.HashMap as hash
use Rattle.std.specs.Int.{bit_at}
use Rattle.std.specs.List.{list_any}
use Rattle.std.specs.Ordering.{nat_cmp, ordering_then}
use Rattle.std.specs.declared.cmp.Ordering.{Ordering}
use Rattle.verilog_tree.specs.declared.item.Named.{Named}
use Rattle.flat_design.specs.declared.fault.ElabKind.{ElabKind}
use Rattle.flat_design.specs.Fault.{Fault, fault_at}
use Rattle.flat_design.specs.Processes.{first_name, are_mixed, are_two_drivers}
use Rattle.flat_design.specs.declared.entry.Thing.{Thing}
use Rattle.flat_design.specs.declared.entry.Thing.TheVariants.{Signal, Memory}
use Rattle.flat_design.specs.Scope.{is_same_thing}
use Rattle.flat_design.specs.Targets.{Writing}
use Rattle.elab_scope.specs.View.{name_view, writing_view}
use Rattle.elab_scope.specs.declared.names.NameAt.{NameAt}
use Rattle.elab_scope.specs.declared.tally.Written.{Written}
use Rattle.elab_conflicts.specs.declared.conflicts.Conflict.{Conflict}
use Rattle.elab_conflicts.specs.declared.conflicts.Conflict.TheVariants.{Mixed, TwoDrivers}
use Rattle.elab_conflicts.specs.declared.conflicts.Processes.{Processes}
use Rattle.elab_conflicts.specs.declared.conflicts.Processes.TheVariants.{No, One, Several}
use Rattle.elab_conflicts.specs.declared.conflicts.Earlier.{Earlier}
use Rattle.elab_conflicts.specs.declared.conflicts.EarlierTable.{EarlierTable}

-- two writings are in conflict in this way
abbrev pub at_odds : Conflict → Writing → Writing → Bool
at_odds Mixed = are_mixed
at_odds TwoDrivers = are_two_drivers

-- the name that is first in the text, if there is one
abbrev pub first_of : List Named → Option Named
first_of [] = None
first_of (x ∷ xs) = Some (first_name x xs)

-- the fault at the name, if there is one
abbrev pub faults_at : ElabKind → Option NameAt → List Fault
faults_at k None = []
faults_at k (Some x) = fault_at k (name_view x) ∷ []

-- the order of two names in the text, and at one place by their letters
abbrev pub name_order : Named → Named → Ordering
name_order x y = ordering_then (nat_cmp x.place.source y.place.source) (ordering_then (nat_cmp x.place.line y.place.line) (ordering_then (nat_cmp x.place.column y.place.column) (slice_cmp nat_cmp x.name y.name)))

-- whether it is a memory, and its number
abbrev pub key : Thing → Bool × ℕ
key (Signal s) = (false, s)
key (Memory m) = (true, m)

-- two keys are one
abbrev pub same_key : Bool × ℕ → Bool × ℕ → Bool
same_key x y = beq x.0 y.0 && nat_eq x.1 y.1

-- what is kept of no writings
abbrev pub nothing : Earlier
nothing = record { blocking = false; nonblocking = false; driven = 0; processes = No; procedural = No }

-- what the table keeps for a signal or memory
abbrev pub kept_in : EarlierTable → Thing → Earlier
kept_in table t = unwrap_or (hash.get same_key table.kept (key t)) nothing

-- there is another process than p
abbrev pub has_other : Processes → ℕ → Bool
has_other No p = false
has_other (One q) p = not (p == q)
has_other Several p = true

-- what is kept of those of the writings that write this signal or memory
pub record Summarizes (e : Earlier) (t : Thing) (ws : List Written) : Type 0 where
  pub blocking : e.blocking ≡ list_any (λ w. is_same_thing t w.thing && w.blocking) ws
  pub nonblocking : e.nonblocking ≡ list_any (λ w. is_same_thing t w.thing && not w.blocking) ws
  pub driven : (k : ℕ) → (bit_at e.driven k == 1) ≡ list_any (λ w. is_same_thing t w.thing && (w.continuous && list_any (λ x. k == x) (writing_view w).offsets)) ws
  pub processes : (p : ℕ) → has_other e.processes p ≡ list_any (λ w. is_same_thing t w.thing && not (p == w.process)) ws
  pub procedural : (p : ℕ) → has_other e.procedural p ≡ list_any (λ w. is_same_thing t w.thing && (not w.continuous && not (p == w.process))) ws
