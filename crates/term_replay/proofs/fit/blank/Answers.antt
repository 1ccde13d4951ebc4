use Rattle.std.proofs.Common.{◌∙◌, ap, sym}
use Rattle.known_state.specs.Partly.{whole_of}
use Rattle.term_replay.proofs.Standing.{no_bits}
use Rattle.term_replay.proofs.fit.blank.Goals as goal

pub returns : goal.returns
returns c = c.whole.ensures ∙ ap whole_of (c.fill.ensures ∙ ap (λ bs. record { bits = bs; signed = c.args.head.signed }) (sym (no_bits c.args.head.width c.args.head.signed)))
