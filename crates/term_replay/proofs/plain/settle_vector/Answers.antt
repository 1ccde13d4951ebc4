use Rattle.std.proofs.Common.{◌∙◌, arith, sym}
use Rattle.term_replay.specs.Plain.{head_in}
use Rattle.term_replay.proofs.Numbers.{number_fits}
use Rattle.term_replay.proofs.Standing.{same_flag}
use Rattle.term_replay.proofs.plain.settle_vector.Goals as goal

pub returns-then-is_known-clause-value : goal.returns-then-is_known-clause-value
returns-then-is_known-clause-value c =
    number_fits (head_in c.args.term.now) c.args.value.now c.known_ones.result (omega arith) (sym c.is_signed.ensures ∙ same_flag c.is_signed.result c.args.term.now.signed c.if-is_signed-term.true) (sym c.is_known.ensures ∙ c.if-is_known.true) c.known_ones.ensures.value
