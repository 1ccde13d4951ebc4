use Rattle.std.proofs.Common.{◌≡◌, ◌∙◌, false, None, not, refl, sym, ap}
use Rattle.std.proofs.lemmas.Bool.{not-true}
use Rattle.std.proofs.lemmas.List.{get_or_read}
use Rattle.early_sets.specs.Changes.{is_told_by}
use Rattle.early_sets.specs.Reached.{IsItemWhere}
use Rattle.early_sets.proofs.Adding.{same_added}
use Rattle.early_sets.proofs.changes.Changes.tell.Goals as goal

pub returns-clause-changed : goal.returns-clause-changed
returns-clause-changed c =
    let told = c.args.self.now.told.items in
    let n = c.args.signal in
    let read = get_or_read told n c.index.result.now c.requires c.index.ensures false in
    same_added (IsItemWhere (not c.index.result.now) n None) (λ x. (is_told_by told n ≡ false) × (n ≡ x)) c.args.self.now.changed.items c.insert_where.new.set.items (λ x p. (sym read ∙ not-true c.index.result.now p.0, p.1.0)) (λ x q. (ap not (read ∙ q.0), (q.1, refl))) c.insert_where.ensures.adds
