use Rattle.std.proofs.Common.{◌≡◌, ◌++◌, ◌∙◌, sym, ap, true}
use Rattle.flat_design.specs.Expressions.{faults, bound_faults, part_range_faults}
use Rattle.flat_design.specs.Fault.{none}
use Rattle.flat_design.specs.Scope.{binding_of, names_constants, natural_number}
use Rattle.verilog_tree.specs.View.{expr_view}
use Rattle.elab_checks.specs.Selected.{selected_view}
use Rattle.elab_scope.specs.Tally.{after_faults}
use Rattle.elab_checks.proofs.ExpressionLemmas.{bounds_sound, then_is}
use Rattle.flat_design.proofs.NoConstFaults.{true_both}
use Rattle.elab_checks.proofs.indexes.check_bounds.Goals as goal

pub bound-requires : goal.bound-requires
bound-requires c =
    let g = binding_of c.args.scope.now in
    let h = expr_view c.args.high.now in
    let l = expr_view c.args.low.now in
    let first : names_constants g h ≡ true = cc in
    let last : names_constants g l ≡ true = cc in
    let sound : none (bound_faults g c.args.bracket h (faults g h) ++ bound_faults g c.args.bracket l (faults g l)) ≡ true = cc in
    let s = bounds_sound g c.args.bracket h l first last sound in
    record { constant = first; sound = s.0; within = s.1 }

pub bound-requires-2 : goal.bound-requires-2
bound-requires-2 c =
    let g = binding_of c.args.scope.now in
    let h = expr_view c.args.high.now in
    let l = expr_view c.args.low.now in
    let first : names_constants g h ≡ true = cc in
    let last : names_constants g l ≡ true = cc in
    let sound : none (bound_faults g c.args.bracket h (faults g h) ++ bound_faults g c.args.bracket l (faults g l)) ≡ true = cc in
    let s = bounds_sound g c.args.bracket h l first last sound in
    record { constant = last; sound = s.2; within = s.3 }

pub returns : goal.returns
returns c =
    let g = binding_of c.args.scope.now in
    let h = expr_view c.args.high.now in
    let l = expr_view c.args.low.now in
    let first : names_constants g h ≡ true = cc in
    let last : names_constants g l ≡ true = cc in
    let sound : none (bound_faults g c.args.bracket h (faults g h) ++ bound_faults g c.args.bracket l (faults g l)) ≡ true = cc in
    let is = then_is _ (part_range_faults (selected_view c.args.bits) c.args.bracket (natural_number g h) (natural_number g l)) _ (true_both _ _ (true_both _ _ first last) sound) in
    record {
      met = rw (c.bound.ensures, c.bound-2.ensures) at c.check_part.ensures.met ∙ sym (ap (after_faults c.args.tally.now) is);
      sound = rw (c.bound.ensures, c.bound-2.ensures) at c.check_part.ensures.sound ∙ sym (ap none is);
    }
