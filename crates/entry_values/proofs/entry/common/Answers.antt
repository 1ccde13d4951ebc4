use Rattle.std.proofs.Common.{◌∙◌, Some, ap, ap₂, length, sym}
use Rattle.std.proofs.lemmas.List.{length-map}
use Rattle.known_state.specs.Join.{joined}
use Rattle.known_state.specs.Partly.{Partly}
use Rattle.entry_values.proofs.entry.common.Goals as goal

pub join-requires : goal.join-requires
join-requires c =
    ap (λ (p : Partly). length p.bits) c.whole.ensures ∙ length-map c.args.old.bits Some ∙ c.requires
    ∙ sym (ap (λ (p : Partly). length p.bits) c.whole-2.ensures ∙ length-map c.args.new.bits Some)

pub returns : goal.returns
returns c = ap (λ (p : Partly). p.bits) c.join.ensures.value ∙ ap₂ (λ (p q : Partly). joined p.bits q.bits) c.whole.ensures c.whole-2.ensures
