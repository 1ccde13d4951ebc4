use Rattle.std.proofs.Common.{◌∙◌, ap, length}
use Rattle.term_replay.proofs.Contexts.{length-extended}
use Rattle.term_replay.proofs.plain.settle_extended.Goals as goal

pub keep-requires-clause-width : goal.keep-requires-clause-width
keep-requires-clause-width c =
    ap length c.fitted.ensures.bits ∙ length-extended c.of.result.width c.of.result.signed c.args.value.now.bits ∙ ap (λ h. h.width) c.of.ensures
