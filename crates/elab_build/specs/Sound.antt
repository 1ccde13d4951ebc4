-- What can be built: what has no fault.
use Rattle.std.specs.Prelude.{◌≡◌, ℕ, Bool, true, false, List, Option, Some}
use Rattle.verilog_tree.specs.Tree.{Expr, Exprs, no_exprs, an_expr}
use Rattle.flat_design.specs.Expressions.{faults}
use Rattle.flat_design.specs.Fault.{none}
use Rattle.flat_design.specs.Scope.{Scope, look_up, is_faulty_entry, names_faulty}
use Rattle.flat_design.specs.Targets.{target_faults, all_target_faults}
use Rattle.flat_design.specs.declared.entry.Entry.{Entry}
use Rattle.flat_design.specs.declared.entry.Entry.TheVariants.{Constant, Turn, Signal}
use Rattle.flat_design.specs.declared.entry.Mode.{Mode}

-- the expression has no fault, and names nothing whose declaration has one
abbrev pub IsSound : Scope → Expr → Type 0
IsSound g e = (none (faults g e) ≡ true) × (names_faulty g e ≡ false)

-- the same of each
abbrev pub AreSound : Scope → Exprs → Type 0
AreSound g no_exprs = Unit {0}
AreSound g (an_expr e es) = IsSound g e × AreSound g es

-- no name has a meaning whose declaration has a fault
abbrev pub IsClear : Scope → Type 0
IsClear g = (x : List ℕ) → is_faulty_entry (look_up g x) ≡ false

-- the target has no fault, in an assignment of some kind
abbrev pub IsSoundTarget : Scope → Expr → Type 0
IsSoundTarget g e = (mode : Mode) × (none (target_faults g mode e) ≡ true)

-- the same of each
abbrev pub AreSoundTargets : Scope → Exprs → Type 0
AreSoundTargets g es = (mode : Mode) × (none (all_target_faults g mode es) ≡ true)

-- the name can be read as a value: a constant or a signal
abbrev pub is_value : Option Entry → Bool
is_value (Some (Constant v)) = true
is_value (Some (Turn v)) = true
is_value (Some (Signal s)) = true
is_value _ = false
