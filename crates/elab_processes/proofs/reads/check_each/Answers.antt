use Rattle.std.proofs.Common.{◌≡◌, ◌+◌, ◌∷◌, List, drop, flat_map, map, sym, ap, subst, ◌∙◌}
use Rattle.std.proofs.lemmas.List.{drop_more}
use Rattle.verilog_tree.specs.Tree as t
use Rattle.verilog_tree.specs.View.{expr_view}
use Rattle.flat_design.specs.Fault.{Fault}
use Rattle.flat_design.specs.Processes.{self_read}
use Rattle.flat_design.specs.Scope.{binding_of}
use Rattle.elab_scope.specs.Tally.{after_faults}
use Rattle.elab_scope.specs.View.{writing_view}
use Rattle.elab_scope.proofs.TallyLemmas.{after_faults-append}
use Rattle.elab_processes.specs.Reads.{AreSound, parts_view}
use Rattle.elab_processes.proofs.reads.check_each.Goals as goal

pub loop-part-preserved : goal.loop-part-preserved
loop-part-preserved c =
    let one : t.Expr → List Fault = self_read (binding_of c.args.scope.now) (map writing_view c.args.driven.now) in
    let part = c.part-item.result in
    let rest = drop (c.loop-part.part-index + 1) c.args.parts.now in
    let next : drop c.loop-part.part-index c.args.parts.now ≡ part ∷ rest = drop_more c.args.parts.now c.loop-part.part-index part c.loop-part-test.true ∙ ap (λ x. x ∷ rest) (sym c.part-item.is) in
    let met = c.loop-part.invariant.met in
    record {
      met = ap (λ t. after_faults t (flat_map one (parts_view rest))) c.check_read.ensures
          ∙ (sym (after_faults-append c.loop-part.tally (one (expr_view part.now)) (flat_map one (parts_view rest)))
          ∙ subst (λ xs. after_faults c.loop-part.tally (flat_map one (parts_view xs)) ≡ after_faults c.args.tally.now (flat_map one (parts_view c.args.parts.now))) next met);
      sound = (subst (λ xs. AreSound (binding_of c.args.scope.now) (parts_view xs)) next c.loop-part.invariant.sound).1;
    }
