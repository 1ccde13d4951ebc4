use Rattle.std.proofs.Common.{◌∙◌, sym, ap}
use Rattle.wake_list.proofs.QueueLemmas.{empty_if}
use Rattle.wake_list.proofs.wake_list.WakeList.is_empty.Goals as goal

pub returns : goal.returns
returns c =
    let s = c.self.inside in
    let same = ap (λ w. w.pairs) c.self.view_is in
    let both = empty_if s.links.items s.ranks.items s.used s.queues.items c.self.invariant c.least.result c.is_none.result (sym c.is_none.ensures) c.least.ensures in
    (λ e. sym same ∙ both.0 e, λ e. both.1 (same ∙ e))
