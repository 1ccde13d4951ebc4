use Rattle.std.proofs.Common.{◌≡◌, ◌∙◌, ◌<◌, ◌+◌, not, None, Some, length, map, get_or, set, sym, ap, subst, arith}
use Rattle.std.proofs.lemmas.List.{get_or_read, with_items_is}
use Rattle.std.specs.Vec.{with_items}
use Rattle.wake_list.specs.Queues.{AreQueues, no_queue, processes_of}
use Rattle.wake_list.specs.Waiting.{AreOnce, is_waiting, pairs_from, with_process}
use Rattle.wake_list.proofs.QueueLemmas.{all_once, last_below, listed_waits, no_rank, put_read, put_read_pairs, room, waits_not}
use Rattle.wake_list.proofs.wake_list.WakeList.put.Goals as goal

pub returns-then-is_some-clause-there : goal.returns-then-is_some-clause-there
returns-then-is_some-clause-there c =
    let s = c.self.inside in
    let same = ap (λ w. w.pairs) c.self.view_is in
    let inside : c.args.process < length s.links.items = omega (arith, c.requires.process, ap (λ w. w.count) c.self.view_is) in
    let read : c.index.result.now ≡ get_or s.ranks.items c.args.process None = get_or_read s.ranks.items c.args.process c.index.result.now (omega (arith, inside, c.self.invariant.ranks_size)) c.index.ensures None in
    sym (ap not (ap (is_waiting c.args.process) (sym same) ∙ listed_waits s.links.items s.ranks.items s.used s.queues.items c.self.invariant c.args.process c.index.result.now read (sym c.is_some.ensures ∙ c.if-is_some.true)))

pub returns-then-is_some-clause-once : goal.returns-then-is_some-clause-once
returns-then-is_some-clause-once c =
    let s = c.self.inside in
    let same = ap (λ w. w.pairs) c.self.view_is in
    subst AreOnce same (all_once s.links.items s.ranks.items s.used s.queues.items c.self.invariant)

pub with-requires-clause-last : goal.with-requires-clause-last
with-requires-clause-last c =
    let s = c.self.inside in
    let below : c.args.rank < length s.queues.items = omega (arith, c.requires.rank, ap (λ w. w.count) c.self.view_is, c.self.invariant.queues_size) in
    let seen : c.index-queue.result.now ≡ get_or s.queues.items c.args.rank no_queue = get_or_read s.queues.items c.args.rank c.index-queue.result.now below c.index-queue.ensures no_queue in
    let given : c.as_mut_slice.result.now ≡ s.links.items = c.as_mut_slice.ensures.value in
    λ some. subst (λ q. q.last < length c.as_mut_slice.result.now) (sym seen) (subst (λ xs. (get_or s.queues.items c.args.rank no_queue).last < length xs) (sym given) (last_below s.links.items s.ranks.items s.used s.queues.items c.self.invariant c.args.rank below (subst (λ q. 0 < q.count) seen some)))

pub with-requires-clause-fits : goal.with-requires-clause-fits
with-requires-clause-fits c =
    let s = c.self.inside in
    let inside : c.args.process < length s.links.items = omega (arith, c.requires.process, ap (λ w. w.count) c.self.view_is) in
    let below : c.args.rank < length s.queues.items = omega (arith, c.requires.rank, ap (λ w. w.count) c.self.view_is, c.self.invariant.queues_size) in
    let read : c.index.result.now ≡ get_or s.ranks.items c.args.process None = get_or_read s.ranks.items c.args.process c.index.result.now (omega (arith, inside, c.self.invariant.ranks_size)) c.index.ensures None in
    let new : get_or s.ranks.items c.args.process None ≡ None = sym read ∙ no_rank c.index.result.now (sym c.is_some.ensures ∙ c.if-is_some.false) in
    let seen : c.index-queue.result.now ≡ get_or s.queues.items c.args.rank no_queue = get_or_read s.queues.items c.args.rank c.index-queue.result.now below c.index-queue.ensures no_queue in
    subst (λ q. q.count + 1 < 4294967296) (sym seen) (room s.links.items s.ranks.items s.used s.queues.items c.self.invariant c.args.process c.args.rank inside below new)

pub invariant_of-self : goal.invariant_of-self
invariant_of-self c =
    let s = c.self.inside in
    let inside : c.args.process < length s.links.items = omega (arith, c.requires.process, ap (λ w. w.count) c.self.view_is) in
    let below : c.args.rank < length s.queues.items = omega (arith, c.requires.rank, ap (λ w. w.count) c.self.view_is, c.self.invariant.queues_size) in
    let read : c.index.result.now ≡ get_or s.ranks.items c.args.process None = get_or_read s.ranks.items c.args.process c.index.result.now (omega (arith, inside, c.self.invariant.ranks_size)) c.index.ensures None in
    let new : get_or s.ranks.items c.args.process None ≡ None = sym read ∙ no_rank c.index.result.now (sym c.is_some.ensures ∙ c.if-is_some.false) in
    let seen : c.index-queue.result.now ≡ get_or s.queues.items c.args.rank no_queue = get_or_read s.queues.items c.args.rank c.index-queue.result.now below c.index-queue.ensures no_queue in
    let given : c.as_mut_slice.result.now ≡ s.links.items = c.as_mut_slice.ensures.value in
    let size : length c.with.new.links ≡ s.links.len = c.with.auto.links ∙ ap length given ∙ sym s.links.ok.0 in
    (subst (λ xs. AreQueues xs (set s.ranks.items c.args.process (Some c.args.rank)) c.set.new.self (set s.queues.items c.args.rank c.with.result)) (sym (with_items_is s.links c.with.new.links size)) (subst (λ u. AreQueues c.with.new.links (set s.ranks.items c.args.process (Some c.args.rank)) u (set s.queues.items c.args.rank c.with.result)) (sym c.set.ensures) (put_read s.links.items s.ranks.items s.used s.queues.items c.self.invariant c.args.process c.args.rank inside below new c.index-queue.result.now seen c.as_mut_slice.result.now given c.with.new.links c.with.result c.with.auto.links c.with.ensures.processes c.with.ensures.last c.with.ensures.count c.with.ensures.others)))

pub returns-clause-there : goal.returns-clause-there
returns-clause-there c =
    let s = c.self.inside in
    let same = ap (λ w. w.pairs) c.self.view_is in
    let inside : c.args.process < length s.links.items = omega (arith, c.requires.process, ap (λ w. w.count) c.self.view_is) in
    let read : c.index.result.now ≡ get_or s.ranks.items c.args.process None = get_or_read s.ranks.items c.args.process c.index.result.now (omega (arith, inside, c.self.invariant.ranks_size)) c.index.ensures None in
    let new : get_or s.ranks.items c.args.process None ≡ None = sym read ∙ no_rank c.index.result.now (sym c.is_some.ensures ∙ c.if-is_some.false) in
    sym (ap not (ap (is_waiting c.args.process) (sym same) ∙ waits_not s.links.items s.ranks.items s.used s.queues.items c.self.invariant c.args.process new))

pub returns-clause-pairs : goal.returns-clause-pairs
returns-clause-pairs c =
    let s = c.self.inside in
    let same = ap (λ w. w.pairs) c.self.view_is in
    let inside : c.args.process < length s.links.items = omega (arith, c.requires.process, ap (λ w. w.count) c.self.view_is) in
    let below : c.args.rank < length s.queues.items = omega (arith, c.requires.rank, ap (λ w. w.count) c.self.view_is, c.self.invariant.queues_size) in
    let read : c.index.result.now ≡ get_or s.ranks.items c.args.process None = get_or_read s.ranks.items c.args.process c.index.result.now (omega (arith, inside, c.self.invariant.ranks_size)) c.index.ensures None in
    let new : get_or s.ranks.items c.args.process None ≡ None = sym read ∙ no_rank c.index.result.now (sym c.is_some.ensures ∙ c.if-is_some.false) in
    let seen : c.index-queue.result.now ≡ get_or s.queues.items c.args.rank no_queue = get_or_read s.queues.items c.args.rank c.index-queue.result.now below c.index-queue.ensures no_queue in
    let given : c.as_mut_slice.result.now ≡ s.links.items = c.as_mut_slice.ensures.value in
    let size : length c.with.new.links ≡ s.links.len = c.with.auto.links ∙ ap length given ∙ sym s.links.ok.0 in
    ap (λ xs. pairs_from 0 (map (processes_of xs) (set s.queues.items c.args.rank c.with.result))) (with_items_is s.links c.with.new.links size) ∙ put_read_pairs s.links.items s.ranks.items s.used s.queues.items c.self.invariant c.args.process c.args.rank inside below new c.index-queue.result.now seen c.as_mut_slice.result.now given c.with.new.links c.with.result c.with.auto.links c.with.ensures.processes c.with.ensures.last c.with.ensures.count c.with.ensures.others ∙ ap (with_process c.args.process c.args.rank) same

pub returns-clause-once : goal.returns-clause-once
returns-clause-once c =
    let s = c.self.inside in
    let inside : c.args.process < length s.links.items = omega (arith, c.requires.process, ap (λ w. w.count) c.self.view_is) in
    let below : c.args.rank < length s.queues.items = omega (arith, c.requires.rank, ap (λ w. w.count) c.self.view_is, c.self.invariant.queues_size) in
    let read : c.index.result.now ≡ get_or s.ranks.items c.args.process None = get_or_read s.ranks.items c.args.process c.index.result.now (omega (arith, inside, c.self.invariant.ranks_size)) c.index.ensures None in
    let new : get_or s.ranks.items c.args.process None ≡ None = sym read ∙ no_rank c.index.result.now (sym c.is_some.ensures ∙ c.if-is_some.false) in
    let seen : c.index-queue.result.now ≡ get_or s.queues.items c.args.rank no_queue = get_or_read s.queues.items c.args.rank c.index-queue.result.now below c.index-queue.ensures no_queue in
    let given : c.as_mut_slice.result.now ≡ s.links.items = c.as_mut_slice.ensures.value in
    let size : length c.with.new.links ≡ s.links.len = c.with.auto.links ∙ ap length given ∙ sym s.links.ok.0 in
    all_once (with_items s.links c.with.new.links).items (set s.ranks.items c.args.process (Some c.args.rank)) c.set.new.self (set s.queues.items c.args.rank c.with.result)
    (subst (λ xs. AreQueues xs (set s.ranks.items c.args.process (Some c.args.rank)) c.set.new.self (set s.queues.items c.args.rank c.with.result)) (sym (with_items_is s.links c.with.new.links size)) (subst (λ u. AreQueues c.with.new.links (set s.ranks.items c.args.process (Some c.args.rank)) u (set s.queues.items c.args.rank c.with.result)) (sym c.set.ensures) (put_read s.links.items s.ranks.items s.used s.queues.items c.self.invariant c.args.process c.args.rank inside below new c.index-queue.result.now seen c.as_mut_slice.result.now given c.with.new.links c.with.result c.with.auto.links c.with.ensures.processes c.with.ensures.last c.with.ensures.count c.with.ensures.others)))
