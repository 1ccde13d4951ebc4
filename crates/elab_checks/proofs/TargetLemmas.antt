-- The widths of parts that are side by side.
use Rattle.std.proofs.Common.{◌≡◌, ℕ, ◌+◌, ◌<◌, Bool, true, false, Some, None, ◌++◌, List, length, get_or, drop, Err, refl, ap, ◌∙◌, sym}
use Rattle.std.specs.Prelude.{◌&&◌, if◌then◌else◌}
use Rattle.std.specs.Result.{is_ok}
use Rattle.cov_host.specs.declared.place.Place.{Place}
use Rattle.verilog_tree.specs.Tree as t
use Rattle.verilog_tree.specs.Tree.{exprs_of}
use Rattle.verilog_tree.specs.View.{expr_view, exprs_view}
use Rattle.verilog_tree.specs.declared.expr.Expr.{Expr}
use Rattle.elab_const.specs.Calls.{told}
use Rattle.elab_const.specs.Faults.{shape_answer}
use Rattle.elab_const.specs.declared.fault.ConstFault.{ConstFault}
use Rattle.flat_design.specs.Expressions.{faults, joined_faults}
use Rattle.flat_design.specs.Fault.{none}
use Rattle.flat_design.specs.Scope.{Scope, names}
use Rattle.flat_design.specs.Targets.{all_target_faults, fixed_faults, have_shapes, signal_target_faults, target_faults}
use Rattle.flat_design.specs.declared.entry.Mode.{Mode}
use Rattle.flat_design.specs.declared.entry.Mode.TheVariants.{Continuous}
use Rattle.flat_design.specs.declared.entry.SignalEntry.{SignalEntry}
use Rattle.elab_checks.specs.Widths.{known_width, joined_size_faults}
use Rattle.elab_checks.proofs.ExpressionLemmas.{next_is}

-- where a part has no shape, the widths are not known
pub unknown_width : (g : Scope) (parts : List Expr) (i : ℕ) (part : Expr) (f : ConstFault) → i < length parts → part ≡ get_or parts i part → Err f ≡ told (shape_answer (names g) (expr_view part)) → have_shapes g (exprs_of (exprs_view (drop i parts))) ≡ false
unknown_width g parts i part f within is answer =
    ap (have_shapes g) (next_is parts i part within is) ∙ ap (λ b. b && have_shapes g (exprs_of (exprs_view (drop (i + 1) parts)))) (sym (ap is_ok answer))

-- a net that is no input, in a continuous assignment
pub net_faults : (g : Scope) (s : SignalEntry) (e : t.Expr) → s.input ≡ false → s.net ≡ true → signal_target_faults g Continuous s e ≡ faults g e ++ fixed_faults g e
net_faults g s e input net = rw (input, net) refl

joined_known : (sound : Bool) (w : ℕ) (p : Place) → joined_faults sound w p ≡ joined_size_faults (if sound then Some w else None) p
joined_known true w p = refl
joined_known false w p = refl

-- a concatenation whose parts have no fault
pub joined_target_faults : (g : Scope) (mode : Mode) (p : Place) (es : t.Exprs) → none (all_target_faults g mode es) ≡ true → target_faults g mode (t.concatenation p es) ≡ all_target_faults g mode es ++ joined_size_faults (known_width g es) p
joined_target_faults g mode p es sound = rw sound (ap (λ fs. all_target_faults g mode es ++ fs) (joined_known (have_shapes g es) _ p))
