use Rattle.std.proofs.Common.{◌≡◌, ◌++◌, ◌∷◌, [], if◌then◌else◌, ap, refl, ◌∙◌}
use Rattle.write_log.proofs.Joins.{contains_has, was_new}
use Rattle.body_store.proofs.Veiling.{aside_new, aside_old}
use Rattle.body_store.proofs.store.Store.put_aside.Goals as goal

pub returns-then-insert-clause-aside : goal.returns-then-insert-clause-aside
returns-then-insert-clause-aside c =
    let x = c.args.self.now in
    let xs = x.veils.veiled.items in
    let items : c.insert.new.self.items ≡ xs ++ c.args.place ∷ [] = c.insert.ensures.items ∙ ap (λ t. if t then xs ++ c.args.place ∷ [] else xs) c.if-insert.true in
    aside_new x.veils (record { under = x.veils.under; veiled = c.insert.new.self }) c.exchange.new.self.veils x.memories.items c.exchange.new.self.memories.items c.args.place refl items
    (was_new xs c.args.place c.insert.result c.if-insert.true c.insert.ensures.there.1) c.exchange.ensures.exchanged

pub returns-else-insert-clause-aside : goal.returns-else-insert-clause-aside
returns-else-insert-clause-aside c =
    let x = c.args.self.now in
    let xs = x.veils.veiled.items in
    let items : c.insert.new.self.items ≡ xs = c.insert.ensures.items ∙ ap (λ t. if t then xs ++ c.args.place ∷ [] else xs) c.if-insert.false in
    aside_old x.veils (record { under = x.veils.under; veiled = c.insert.new.self }) x.memories.items c.args.place refl items
    (contains_has xs c.args.place (c.insert.ensures.there.0 c.if-insert.false))
