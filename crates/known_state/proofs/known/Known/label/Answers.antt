use Rattle.std.proofs.Common.{sym, ◌∙◌}
use Rattle.known_state.proofs.Bits.{length-filled_from}
use Rattle.known_state.proofs.MaybeLaws.{label_no, label_yes, label_undecided}
use Rattle.known_state.proofs.known.Known.label.Goals as goal

pub label-requires : goal.label-requires
label-requires c =
    rw (c.filled_from.ensures, c.filled_from-2.ensures) (length-filled_from c.args.a.now.bits _ ∙ c.requires ∙ sym (length-filled_from c.args.b.now.bits _))

pub returns-then-not-label : goal.returns-then-not-label
returns-then-not-label c =
    let e = sym c.label.ensures ∙ c.if-not-label.true in
    label_no c.args.kind c.args.a.now c.args.b.now (rw (c.filled_from.ensures, c.filled_from-2.ensures, c.value-left.ensures.value, c.value-right.ensures.value) at e)

pub returns-then-always_matches : goal.returns-then-always_matches
returns-then-always_matches c =
    label_yes c.args.kind c.args.a.now c.args.b.now c.requires (sym c.always_matches.ensures ∙ c.if-always_matches.true)

pub returns-else-always_matches : goal.returns-else-always_matches
returns-else-always_matches c =
    let e = sym c.label.ensures ∙ c.if-not-label.false in
    label_undecided c.args.kind c.args.a.now c.args.b.now (rw (c.filled_from.ensures, c.filled_from-2.ensures, c.value-left.ensures.value, c.value-right.ensures.value) at e) (sym c.always_matches.ensures ∙ c.if-always_matches.false) c.first_blame.result c.first_blame.ensures
