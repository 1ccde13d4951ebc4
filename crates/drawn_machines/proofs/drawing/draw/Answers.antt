use Rattle.std.proofs.Common.{[], ◌+◌, ◌≡◌, ◌∙◌, ◌++◌, ◌↔◌, Err, List, append_assoc, refl, sym, ap, subst, arith}
use Rattle.std.proofs.lemmas.Bool.{false≢true, iff_false}
use Rattle.std.proofs.lemmas.List.{append-nil}
use Rattle.std.proofs.lemmas.Result.{err_from_is_err_and}
use Rattle.design_model.specs.Design.{In}
use Rattle.design_model.specs.View.{design_view}
use Rattle.fsm_extract.specs.declared.names.MachinePart.{MachinePart}
use Rattle.fsm_extract.specs.declared.names.MachinePart.TheVariants as parts
use Rattle.state_machines.specs.declared.drawn.Drawn.{Drawn}
use Rattle.drawn_machines.specs.Drawing.{IsNoMachine}
use Rattle.drawn_machines.proofs.Drawings.{IsDrawnBelow, all_drawings, handed_on, more_below, more_machines, no_machine_at, no_module, none_below, placed_all, some_before, some_here}
use Rattle.drawn_machines.proofs.drawing.draw.Goals as goal
use Rattle.drawn_machines.proofs.drawing.draw.Goals.{then-branch, else-branch}

pub loop-number-init : goal.loop-number-init
loop-number-init c =
    let d = design_view c.args.design.now in
    record {
      named = refl;
      drawn = ([], sym (append-nil c.args.states.now.drawn), none_below d c.args.of_module.now c.args.current.now c.args.next.now);
      each = λ i l is. absurd (omega (arith, l));
      some = (λ e. absurd (false≢true e), λ h. absurd (omega (arith, h.1)));
    }

pub loop-number-preserved : goal.loop-number-preserved
loop-number-preserved c =
    let d = design_view c.args.design.now in
    let m = c.args.of_module.now in
    let current = c.args.current.now in
    let next = c.args.next.now in
    let n = c.loop-number.number in
    let so_far = c.loop-number.invariant in
    let own = c.in_ok-draw_at.ensures in
    let es = so_far.drawn.0 in
    let new = own.drawn.0 in
    let there : (e : Drawn) → In e (es ++ new) ↔ IsDrawnBelow d m current next (n + 1) e = more_below d m current next n es new so_far.drawn.2 own.drawn.2 in
    record {
      named = own.named ∙ so_far.named;
      drawn = (es ++ new, own.drawn.1 ∙ ap (λ (ds : List Drawn). ds ++ new) so_far.drawn.1 ∙ append_assoc c.args.states.now.drawn es new, there);
      each = more_machines d m current next n so_far.each (λ is. own.placed (own.own.1 is));
      some = elim c.if-branch.branch [
        | then-branch w ↦ some_here d m n _ w.has_instance-is (own.own.0 w.if-branch.true)
        | else-branch w ↦ some_before d m n c.loop-number.has_instance _ w.has_instance-is (iff_false own.own w.if-branch.false) so_far.some
      ];
    }

pub returns-in_err-draw_at-clause-fault : goal.returns-in_err-draw_at-clause-fault
returns-in_err-draw_at-clause-fault c = λ part e.
    let d = design_view c.args.design.now in
    let given = err_from_is_err_and c.from_residual.result c.from_residual.ensures.1 in
    let same = handed_on c.from_residual.result c.in_err-draw_at.field-0.0 given.0 _ given.1 given.2 e in
    let own = c.in_err-draw_at.ensures.fault part (ap Err same) in
    no_machine_at d c.args.of_module.now c.args.current.now c.args.next.now c.loop-number.number part own.0 own.1 c.loop-number.invariant.each

pub returns-then-has_instance-clause-drawn : goal.returns-then-has_instance-clause-drawn
returns-then-has_instance-clause-drawn c =
    let so_far = c.loop-number.invariant in
    (so_far.drawn.0, so_far.drawn.1, all_drawings (design_view c.args.design.now) c.args.of_module.now c.args.current.now c.args.next.now c.loop-number.number so_far.drawn.0 (omega arith) so_far.drawn.2)

pub returns-then-has_instance-clause-placed : goal.returns-then-has_instance-clause-placed
returns-then-has_instance-clause-placed c =
    let so_far = c.loop-number.invariant in
    placed_all (design_view c.args.design.now) c.args.of_module.now c.args.current.now c.args.next.now c.loop-number.number (omega arith) so_far.each (so_far.some.0 c.if-has_instance.true)

pub returns-else-has_instance-clause-fault : goal.returns-else-has_instance-clause-fault
returns-else-has_instance-clause-fault c = λ part e.
    let d = design_view c.args.design.now in
    let same : parts.Module ≡ part = cc in
    let none : IsNoMachine d c.args.of_module.now c.args.current.now c.args.next.now parts.Module = no_module d c.args.of_module.now c.loop-number.number c.loop-number.has_instance (omega arith) c.loop-number.invariant.some c.if-has_instance.false in
    subst (λ (p : MachinePart). IsNoMachine d c.args.of_module.now c.args.current.now c.args.next.now p) same none
