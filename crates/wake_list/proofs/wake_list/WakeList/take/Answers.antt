use Rattle.std.proofs.Common.{◌≡◌, ◌∙◌, ◌<◌, ◌-◌, ltb, None, ◌∷◌, length, map, get_or, set, sym, ap, subst, arith}
use Rattle.std.proofs.lemmas.List.{get_or_read}
use Rattle.std.specs.Option.{MatchOption}
use Rattle.wake_list.specs.Queues.{AreQueues, no_queue, processes_of}
use Rattle.wake_list.specs.Tournament.{IsLeast, NoneIsMember}
use Rattle.wake_list.specs.Waiting.{pairs_from}
use Rattle.wake_list.specs.declared.queue.Queue.{Queue}
use Rattle.wake_list.proofs.QueueLemmas.{first_below, none_waits, rank_below, taken_pairs, taken_queues}
use Rattle.wake_list.proofs.wake_list.WakeList.take.Goals as goal

pub returns-in_default-clause-pairs : goal.returns-in_default-clause-pairs
returns-in_default-clause-pairs c =
    let s = c.self.inside in
    let none : NoneIsMember s.used = subst (λ o. MatchOption o (NoneIsMember s.used) (λ r. IsLeast r s.used)) c.in_default.is c.least.ensures in
    let empty = sym (ap (λ w. w.pairs) c.self.view_is) ∙ none_waits s.links.items s.ranks.items s.used s.queues.items c.self.invariant none in
    (empty, empty)

pub overflow_cast-process : goal.overflow_cast-process
overflow_cast-process c =
    let s = c.self.inside in
    let least : IsLeast c.in-Some.rank s.used = c.in-Some.ensures in
    let below : c.in-Some.rank < length s.queues.items = rank_below s.links.items s.ranks.items s.used s.queues.items c.self.invariant c.in-Some.rank least in
    let seen : c.index-queue.result.now ≡ get_or s.queues.items c.in-Some.rank no_queue = get_or_read s.queues.items c.in-Some.rank c.index-queue.result.now below c.index-queue.ensures no_queue in
    let inside : c.index-queue.result.now.first < length s.links.items = subst (λ q. q.first < length s.links.items) (sym seen) (first_below s.links.items s.ranks.items s.used s.queues.items c.self.invariant c.in-Some.rank least) in
    omega (arith, c.self.invariant.small)

pub index-requires : goal.index-requires
index-requires c =
    let s = c.self.inside in
    let least : IsLeast c.in-Some.rank s.used = c.in-Some.ensures in
    let below : c.in-Some.rank < length s.queues.items = rank_below s.links.items s.ranks.items s.used s.queues.items c.self.invariant c.in-Some.rank least in
    let seen : c.index-queue.result.now ≡ get_or s.queues.items c.in-Some.rank no_queue = get_or_read s.queues.items c.in-Some.rank c.index-queue.result.now below c.index-queue.ensures no_queue in
    let inside : c.index-queue.result.now.first < length s.links.items = subst (λ q. q.first < length s.links.items) (sym seen) (first_below s.links.items s.ranks.items s.used s.queues.items c.self.invariant c.in-Some.rank least) in
    omega (arith, s.links.ok.0)

pub index_mut-requires-2 : goal.index_mut-requires-2
index_mut-requires-2 c =
    let s = c.self.inside in
    let least : IsLeast c.in-Some.rank s.used = c.in-Some.ensures in
    let below : c.in-Some.rank < length s.queues.items = rank_below s.links.items s.ranks.items s.used s.queues.items c.self.invariant c.in-Some.rank least in
    let seen : c.index-queue.result.now ≡ get_or s.queues.items c.in-Some.rank no_queue = get_or_read s.queues.items c.in-Some.rank c.index-queue.result.now below c.index-queue.ensures no_queue in
    let inside : c.index-queue.result.now.first < length s.links.items = subst (λ q. q.first < length s.links.items) (sym seen) (first_below s.links.items s.ranks.items s.used s.queues.items c.self.invariant c.in-Some.rank least) in
    omega (arith, s.ranks.ok.0, c.self.invariant.ranks_size)

pub invariant_of-self : goal.invariant_of-self
invariant_of-self c =
    let s = c.self.inside in
    let least : IsLeast c.in-Some.rank s.used = c.in-Some.ensures in
    let below : c.in-Some.rank < length s.queues.items = rank_below s.links.items s.ranks.items s.used s.queues.items c.self.invariant c.in-Some.rank least in
    let seen : c.index-queue.result.now ≡ get_or s.queues.items c.in-Some.rank no_queue = get_or_read s.queues.items c.in-Some.rank c.index-queue.result.now below c.index-queue.ensures no_queue in
    let inside : c.index-queue.result.now.first < length s.links.items = subst (λ q. q.first < length s.links.items) (sym seen) (first_below s.links.items s.ranks.items s.used s.queues.items c.self.invariant c.in-Some.rank least) in
    let next : c.index.result.now ≡ get_or s.links.items (get_or s.queues.items c.in-Some.rank no_queue).first 0 = get_or_read s.links.items c.index-queue.result.now.first c.index.result.now inside c.index.ensures 0 ∙ ap (λ q. get_or s.links.items q.first 0) seen in
    let rest : Queue = record { first = c.index.result.now; last = c.index-queue.result.now.last; count = c.index-queue.result.now.count - 1 } in
    let first_is : (get_or s.queues.items c.in-Some.rank no_queue).first ≡ c.index-queue.result.now.first = ap (λ (q : Queue). q.first) (sym seen) in
    let used_is : c.set.new.self ≡ set s.used c.in-Some.rank (ltb 1 (get_or s.queues.items c.in-Some.rank no_queue).count) = c.set.ensures ∙ ap (λ (q : Queue). set s.used c.in-Some.rank (ltb 1 q.count)) seen in
    subst (λ p. AreQueues s.links.items (set s.ranks.items p None) c.set.new.self (set s.queues.items c.in-Some.rank rest)) first_is (subst (λ u. AreQueues s.links.items (set s.ranks.items (get_or s.queues.items c.in-Some.rank no_queue).first None) u (set s.queues.items c.in-Some.rank rest)) (sym used_is) (taken_queues s.links.items s.ranks.items s.used s.queues.items c.self.invariant c.in-Some.rank least (record { first = c.index.result.now; last = c.index-queue.result.now.last; count = c.index-queue.result.now.count - 1 }) next (ap (λ q. q.last) seen) (ap (λ q. q.count - 1) seen)))

pub returns-clause-below : goal.returns-clause-below
returns-clause-below c =
    let s = c.self.inside in
    let least : IsLeast c.in-Some.rank s.used = c.in-Some.ensures in
    let below : c.in-Some.rank < length s.queues.items = rank_below s.links.items s.ranks.items s.used s.queues.items c.self.invariant c.in-Some.rank least in
    let seen : c.index-queue.result.now ≡ get_or s.queues.items c.in-Some.rank no_queue = get_or_read s.queues.items c.in-Some.rank c.index-queue.result.now below c.index-queue.ensures no_queue in
    let inside : c.index-queue.result.now.first < length s.links.items = subst (λ q. q.first < length s.links.items) (sym seen) (first_below s.links.items s.ranks.items s.used s.queues.items c.self.invariant c.in-Some.rank least) in
    omega (arith, ap (λ w. w.count) c.self.view_is)

pub returns-clause-pairs : goal.returns-clause-pairs
returns-clause-pairs c =
    let s = c.self.inside in
    let same = ap (λ w. w.pairs) c.self.view_is in
    let least : IsLeast c.in-Some.rank s.used = c.in-Some.ensures in
    let below : c.in-Some.rank < length s.queues.items = rank_below s.links.items s.ranks.items s.used s.queues.items c.self.invariant c.in-Some.rank least in
    let seen : c.index-queue.result.now ≡ get_or s.queues.items c.in-Some.rank no_queue = get_or_read s.queues.items c.in-Some.rank c.index-queue.result.now below c.index-queue.ensures no_queue in
    let inside : c.index-queue.result.now.first < length s.links.items = subst (λ q. q.first < length s.links.items) (sym seen) (first_below s.links.items s.ranks.items s.used s.queues.items c.self.invariant c.in-Some.rank least) in
    let next : c.index.result.now ≡ get_or s.links.items (get_or s.queues.items c.in-Some.rank no_queue).first 0 = get_or_read s.links.items c.index-queue.result.now.first c.index.result.now inside c.index.ensures 0 ∙ ap (λ q. get_or s.links.items q.first 0) seen in
    let rest : Queue = record { first = c.index.result.now; last = c.index-queue.result.now.last; count = c.index-queue.result.now.count - 1 } in
    let first_is : (get_or s.queues.items c.in-Some.rank no_queue).first ≡ c.index-queue.result.now.first = ap (λ (q : Queue). q.first) (sym seen) in
    (c.in-Some.rank, sym same ∙ taken_pairs s.links.items s.ranks.items s.used s.queues.items c.self.invariant c.in-Some.rank least (record { first = c.index.result.now; last = c.index-queue.result.now.last; count = c.index-queue.result.now.count - 1 }) next (ap (λ q. q.last) seen) (ap (λ q. q.count - 1) seen) ∙ ap (λ p. (p, c.in-Some.rank) ∷ pairs_from 0 (map (processes_of s.links.items) (set s.queues.items c.in-Some.rank rest))) first_is)
