use Rattle.std.proofs.Common.{◌≡◌, ◌∙◌, take, refl, sym, subst}
use Rattle.std.proofs.lemmas.List.{take_all}
use Rattle.wake_list.specs.Members.{has}
use Rattle.run_order.specs.Ranked.{AreRanksOf, chosen}
use Rattle.run_order.proofs.Choosing.{all_put, none_put, one_put}
use Rattle.run_order.proofs.order.RunOrder.fill.Goals as goal

pub loop-process-init : goal.loop-process-init
loop-process-init c = (refl, λ order ranks. c.requires.empty ∙ none_put order c.args.woken.now)

pub loop-process-preserved : goal.loop-process-preserved
loop-process-preserved c = (
  c.put.ensures.count ∙ c.loop-process.invariant.0,
  λ order ranks. one_put order c.args.woken.now c.loop-process.process-index c.put.new.list.pairs c.loop-process-test.true (c.put.ensures.pairs order (λ p. has p (take c.loop-process.process-index c.args.woken.now)) (subst (λ n. AreRanksOf order n c.args.self.now) (sym c.loop-process.invariant.0) ranks) (c.loop-process.invariant.1 order ranks)),
)

pub returns-clause-pairs : goal.returns-clause-pairs
returns-clause-pairs c =
    λ order ranks. all_put order c.args.woken.now c.loop-process.list.pairs (subst (λ ws. c.loop-process.list.pairs ≡ chosen (λ p. has p ws) 0 order) (take_all c.loop-process.process-index c.args.woken.now c.loop-process-test.false) (c.loop-process.invariant.1 order ranks))
