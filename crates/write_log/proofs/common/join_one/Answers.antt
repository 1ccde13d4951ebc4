use Rattle.std.proofs.Common.{◌≡◌, ◌++◌, ◌∷◌, [], if◌then◌else◌, ap, sym, subst, ◌∙◌}
use Rattle.write_log.specs.Entries.{IsCommon, Seen}
use Rattle.write_log.proofs.Joins.{contains_has, joined_new, joined_seen, seen_new, seen_old, was_new}
use Rattle.write_log.proofs.common.join_one.Goals as goal

pub returns-then-insert-clause-joined : goal.returns-then-insert-clause-joined
returns-then-insert-clause-joined c =
    joined_new c.args.test c.args.entry.now c.args.seen.now.items c.args.signals.now c.assign.new.self c.common-value.result (was_new c.args.seen.now.items c.args.entry.now.signal c.insert.result c.if-insert.true c.insert.ensures.there.1)
    (subst (λ q. IsCommon c.args.test c.args.entry.now.value q c.common-value.result) c.read.ensures.value c.common-value.ensures.common)
    c.assign.ensures.reads

pub returns-then-insert-clause-seen : goal.returns-then-insert-clause-seen
returns-then-insert-clause-seen c =
    let items : c.insert.new.self.items ≡ c.args.seen.now.items ++ c.args.entry.now.signal ∷ [] = c.insert.ensures.items ∙ ap (λ t. if t then c.args.seen.now.items ++ c.args.entry.now.signal ∷ [] else c.args.seen.now.items) c.if-insert.true in
    subst (Seen (c.args.entry.now ∷ []) c.args.seen.now.items) (sym items) (seen_new c.args.entry.now c.args.seen.now.items)

pub returns-else-insert-clause-joined : goal.returns-else-insert-clause-joined
returns-else-insert-clause-joined c =
    joined_seen c.args.test c.args.entry.now c.args.seen.now.items c.args.signals.now (contains_has c.args.seen.now.items c.args.entry.now.signal (c.insert.ensures.there.0 c.if-insert.false))

pub returns-else-insert-clause-seen : goal.returns-else-insert-clause-seen
returns-else-insert-clause-seen c =
    let items : c.insert.new.self.items ≡ c.args.seen.now.items = c.insert.ensures.items ∙ ap (λ t. if t then c.args.seen.now.items ++ c.args.entry.now.signal ∷ [] else c.args.seen.now.items) c.if-insert.false in
    subst (Seen (c.args.entry.now ∷ []) c.args.seen.now.items) (sym items) (seen_old c.args.entry.now c.args.seen.now.items (contains_has c.args.seen.now.items c.args.entry.now.signal (c.insert.ensures.there.0 c.if-insert.false)))
