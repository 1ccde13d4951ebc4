use Rattle.std.proofs.Common.{◌≤◌, ap, length, subst}
use Rattle.wake_list.specs.Waiting.{AreOnce, Waiting}
use Rattle.wake_list.proofs.QueueLemmas.{all_few, all_once}
use Rattle.wake_list.proofs.wake_list.WakeList.fitting.Goals as goal

pub returns-clause-once : goal.returns-clause-once
returns-clause-once c =
    let s = c.self.inside in
    subst (λ (w : Waiting). AreOnce w.pairs) c.self.view_is (all_once s.links.items s.ranks.items s.used s.queues.items c.self.invariant)

pub returns-clause-few : goal.returns-clause-few
returns-clause-few c =
    let s = c.self.inside in
    subst (λ (w : Waiting). length w.pairs ≤ w.count) c.self.view_is (all_few s.links.items s.ranks.items s.used s.queues.items c.self.invariant)
