-- What both ways leave of a signal, as what is known of its cells.
use Rattle.std.proofs.Common.{inl, inr, if◌then◌else◌, sym, ap, ◌∙◌}
use Rattle.known_state.specs.Partly.{are_sure}
use Rattle.value_store.proofs.body_replay.Stored.{other_joined, same_joined}
use Rattle.write_log.specs.Common.{CommonLaw}

pub common_held : CommonLaw
common_held d test left right s a b q l r (inl h) =
    let is = same_joined d test left right s a b (record { bits = l.bits; blame_is = l.blamed }) (record { bits = r.bits; blame_is = r.blamed }) h.0 h.1 in
    record { bits = h.2 ∙ is.bits; blamed = λ u. h.3 ∙ is.blame_is (ap are_sure (sym h.2) ∙ u) }
common_held d test left right s a b q l r (inr h) =
    let is = other_joined d test left right s a b a.signed (record { bits = l.bits; blame_is = l.blamed }) (record { bits = r.bits; blame_is = r.blamed }) h.0 in
    record { bits = h.1 ∙ is.bits; blamed = λ u. h.2 ∙ ap (λ ps. if are_sure ps then 0 else test) h.1 ∙ is.blame_is (ap are_sure (sym h.1) ∙ u) }
