use Rattle.std.proofs.Common.{◌≡◌, ◌∙◌, true, false, None, refl, sym, arith}
use Rattle.std.proofs.lemmas.List.{get_or_read}
use Rattle.early_sets.specs.Changes.{is_told_by}
use Rattle.early_sets.specs.Reached.{IsItemWhere}
use Rattle.early_sets.proofs.Adding.{same_added}
use Rattle.early_sets.proofs.wakes.Wakes.note.Goals as goal

pub invariant_of-self-clause-once : goal.invariant_of-self-clause-once
invariant_of-self-clause-once c =
    let before = c.args.self.now.once in
    record { noted_once = c.insert_where.ensures.adds.once before.noted_once; moves_once = before.moves_once; woken_once = before.woken_once; early_once = before.early_once }

pub returns-clause-noted : goal.returns-clause-noted
returns-clause-noted c =
    let told = c.args.self.now.changes.told.items in
    let n = c.args.signal in
    let read = get_or_read told n c.index-told.result.now (omega (arith, c.requires, c.args.self.now.sizes.told_are)) c.index-told.ensures false in
    same_added (IsItemWhere c.index-told.result.now n None) (λ x. (is_told_by told n ≡ true) × (n ≡ x)) c.args.self.now.noted.items c.insert_where.new.set.items (λ x p. (sym read ∙ p.0, p.1.0)) (λ x q. (read ∙ q.0, (q.1, refl))) c.insert_where.ensures.adds
