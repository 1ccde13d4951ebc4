use Rattle.std.proofs.Common.{◌∙◌, arith, subst, sym}
use Rattle.term_replay.specs.Plain.{head_in}
use Rattle.term_replay.specs.Stands.{Fitted}
use Rattle.term_replay.proofs.Standing.{same_fits, same_flag}
use Rattle.term_replay.proofs.plain.settle.Goals as goal

pub returns-then-is_signed-term-clause-value : goal.returns-then-is_signed-term-clause-value
returns-then-is_signed-term-clause-value c =
    subst (Fitted (head_in c.args.term.now) c.args.value.now) (sym c.keep.ensures.value) (same_fits (head_in c.args.term.now) c.args.value.now (omega arith) (sym c.is_signed.ensures ∙ same_flag c.is_signed.result c.args.term.now.signed c.if-is_signed-term.true))
