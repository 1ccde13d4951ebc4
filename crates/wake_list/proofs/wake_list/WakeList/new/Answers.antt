use Rattle.std.proofs.Common.{◌∙◌, map, length, ap}
use Rattle.std.proofs.lemmas.List.{length-replicate}
use Rattle.wake_list.specs.Queues.{processes_of}
use Rattle.wake_list.specs.Waiting.{pairs_from}
use Rattle.wake_list.proofs.QueueLemmas.{empty_queues, no_pairs}
use Rattle.wake_list.proofs.wake_list.WakeList.new.Goals as goal

pub invariant_of-result : goal.invariant_of-result
invariant_of-result c =
    empty_queues c.args.count c.in_ok-links.links.items c.in_ok-ranks.ranks.items c.in_ok-used.used c.in_ok-queues.queues.items c.ranges.count.fits (ap length (c.in_ok-links.ensures.items_if_clones_equal (λ y e. e)) ∙ length-replicate c.args.count 0) c.in_ok-ranks.ensures c.in_ok-used.ensures (c.in_ok-queues.ensures.items_if_clones_equal (λ y e. e))

pub returns-clause-pairs : goal.returns-clause-pairs
returns-clause-pairs c =
    ap (λ qs. pairs_from 0 (map (processes_of c.in_ok-links.links.items) qs)) (c.in_ok-queues.ensures.items_if_clones_equal (λ y e. e)) ∙ no_pairs c.args.count 0 c.in_ok-links.links.items
