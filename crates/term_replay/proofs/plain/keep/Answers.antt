use Rattle.std.proofs.Common.{◌∙◌, sym}
use Rattle.term_replay.specs.Plain.{head_in}
use Rattle.term_replay.proofs.Numbers.{whole_number}
use Rattle.term_replay.proofs.plain.keep.Goals as goal

pub returns-then-is_known-clause-value : goal.returns-then-is_known-clause-value
returns-then-is_known-clause-value c =
    whole_number (head_in c.args.term.now) c.args.value.now c.value-vector.result c.known_ones.result (c.value-vector.ensures.whole (sym c.is_whole.ensures ∙ c.if-is_whole.true)) c.requires.width c.requires.sign (sym c.is_known.ensures ∙ c.if-is_known.true) c.known_ones.ensures.value
