-- The bits that targets may write.
use Rattle.std.specs.Prelude.{◌≡◌, ◌+◌, ◌≤◌, ℕ, Bool, true, false, List}
use Rattle.std.specs.List.{range_with_len}
use Rattle.verilog_tree.specs.Tree.{Expr, concatenation, Exprs, no_exprs, an_expr}
use Rattle.flat_design.specs.Expressions.{faults}
use Rattle.flat_design.specs.Fault.{none}
use Rattle.flat_design.specs.Identifiers.{base_name}
use Rattle.flat_design.specs.Processes.{is_signal_entry}
use Rattle.flat_design.specs.Scope.{Scope, look_up, names_faulty}
use Rattle.flat_design.specs.Targets.{target_faults}
use Rattle.flat_design.specs.declared.entry.Mode.{Mode}
use Rattle.elab_checks.specs.declared.offsets.Bits.{Bits}

-- how far they are above the lowest bit
abbrev pub bits_view : Bits → List ℕ
bits_view b = range_with_len b.low b.count

-- they lie within 128
abbrev pub IsWithinWord : Bits → Type 0
IsWithinWord b = b.low + b.count ≤ 128

-- a signal or a select of one has no fault
abbrev pub HasSoundSignal : Scope → Expr → Type 0
HasSoundSignal g e = is_signal_entry (look_up g (base_name e).name) ≡ true → none (faults g e) ≡ true

-- no parts side by side
abbrev pub is_single : Expr → Bool
is_single (concatenation p es) = false
is_single e = true

-- a target without a fault, in an assignment of some kind, that names nothing whose declaration has one
abbrev pub IsTarget : Scope → Expr → Type 0
IsTarget g e = ((mode : Mode) × (none (target_faults g mode e) ≡ true)) × (names_faulty g e ≡ false)

-- the same of each
abbrev pub EachTarget : Scope → Exprs → Type 0
EachTarget g no_exprs = Unit {0}
EachTarget g (an_expr e es) = IsTarget g e × EachTarget g es
