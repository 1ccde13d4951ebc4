use Rattle.std.proofs.Common.{◌≡◌, ◌<◌, ◌∙◌, ◌↔◌, [], length, false, sym, subst, arith}
use Rattle.std.specs.List.{Contains}
use Rattle.design_model.specs.Design.{In}
use Rattle.process_order.specs.Parts.{IsLeft, waits_at}
use Rattle.process_order.proofs.Picking.{IsOf, of_none, of_step, rest_has}
use Rattle.process_order.proofs.parts.rest_of.Goals as goal

pub loop-process-init : goal.loop-process-init
loop-process-init c = subst (λ xs. IsOf (IsLeft c.args.processes.now c.args.order.now.items) xs 0) (sym c.new-found.ensures.items) (of_none (IsLeft c.args.processes.now c.args.order.now.items))

pub loop-process-preserved : goal.loop-process-preserved
loop-process-preserved c =
    of_step (IsLeft c.args.processes.now c.args.order.now.items) c.loop-process.found.items c.push_if.new.numbers.items c.loop-process.process c.is_left-is_rest.result c.loop-process.invariant c.in_ok-push_if.ensures c.is_left-is_rest.ensures.yes c.is_left-is_rest.ensures.no

pub returns : goal.returns
returns c =
    let end : c.loop-process.process ≡ length c.args.processes.now = omega (arith, c.loop-process-test.false, c.loop-process.auto.process-end) in
    record {
      has = λ p. subst (λ n. In p c.loop-process.found.items ↔ ((p < n) × (waits_at c.args.processes.now p ≡ false) × (Contains c.args.order.now.items p → ⊥))) end (rest_has c.args.processes.now c.args.order.now.items c.loop-process.found.items c.loop-process.process p c.loop-process.invariant);
      once = c.loop-process.invariant.once;
    }
