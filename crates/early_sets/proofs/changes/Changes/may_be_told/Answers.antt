use Rattle.std.proofs.Common.{◌≡◌, ◌∙◌, ◌||◌, false, sym, ap}
use Rattle.std.proofs.lemmas.List.{get_or_read}
use Rattle.early_sets.specs.Changes.{is_told_by}
use Rattle.early_sets.specs.Has.{is_in}
use Rattle.early_sets.proofs.Membership.{is_in_is}
use Rattle.early_sets.proofs.changes.Changes.may_be_told.Goals as goal

pub returns-else-index : goal.returns-else-index
returns-else-index c =
    let x = c.args.self.now in
    let read = get_or_read x.told.items c.args.thing c.index.result.now c.requires c.index.ensures false in
    let out : is_told_by x.told.items c.args.thing ≡ false = sym read ∙ c.if-index.false in
    is_in_is x.changed.items c.args.thing c.contains.result c.contains.ensures ∙ sym (ap (λ b. b || is_in x.changed.items c.args.thing) out)
