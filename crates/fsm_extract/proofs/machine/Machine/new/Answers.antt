use Rattle.std.proofs.Common.{◌≤◌, ◌∙◌, ap, subst, sym}
use Rattle.design_model.specs.Design.{signal_at}
use Rattle.design_model.specs.View.{design_view}
use Rattle.fsm_extract.proofs.Bounds.{signal_bounds}
use Rattle.fsm_extract.proofs.machine.Machine.new.Goals as goal

pub invariant_of-result : goal.invariant_of-result
invariant_of-result c =
    let d = design_view c.args.design.now in
    let bounds = signal_bounds d c.requires.lawful c.args.current c.requires.current_listed in
    let width = c.width_of.ensures in
    record {
      at_least = subst (λ n. 1 ≤ n) (sym width) bounds.0;
      at_most = subst (λ n. n ≤ 128) (sym width) bounds.1;
      current_width = width ∙ ap (λ x. (signal_at (design_view x) c.args.current).width) (sym c.new.ensures);
      next_width = width ∙ c.requires.one_width ∙ ap (λ x. (signal_at (design_view x) c.args.next).width) (sym c.new.ensures);
    }
