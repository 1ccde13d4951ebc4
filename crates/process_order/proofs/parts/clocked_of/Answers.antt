use Rattle.std.proofs.Common.{◌≡◌, ◌<◌, ◌∙◌, ◌↔◌, [], length, true, sym, subst, arith}
use Rattle.std.proofs.lemmas.Bool.{both_ways}
use Rattle.design_model.specs.Design.{In}
use Rattle.process_order.specs.Parts.{waits_at}
use Rattle.process_order.proofs.Picking.{IsPicked, of_none, of_step}
use Rattle.process_order.proofs.parts.clocked_of.Goals as goal

pub loop-process-init : goal.loop-process-init
loop-process-init c = subst (λ xs. IsPicked (waits_at c.args.processes.now) xs 0) (sym c.new-found.ensures.items) (of_none (λ p. waits_at c.args.processes.now p ≡ true))

pub loop-process-preserved : goal.loop-process-preserved
loop-process-preserved c =
    let t = waits_at c.args.processes.now in
    let i = c.loop-process.process in
    of_step (λ p. waits_at c.args.processes.now p ≡ true) c.loop-process.found.items c.push_if.new.numbers.items i c.waits-is_clocked.result c.loop-process.invariant c.in_ok-push_if.ensures (λ e. sym c.waits-is_clocked.ensures ∙ e) (λ f e. both_ways (waits_at c.args.processes.now c.loop-process.process) (sym c.waits-is_clocked.ensures ∙ f) e)

pub returns : goal.returns
returns c =
    let end : c.loop-process.process ≡ length c.args.processes.now = omega (arith, c.loop-process-test.false, c.loop-process.auto.process-end) in
    record {
      has = λ p. subst (λ n. In p c.loop-process.found.items ↔ ((p < n) × (waits_at c.args.processes.now p ≡ true))) end (c.loop-process.invariant.has p);
      once = c.loop-process.invariant.once;
    }
