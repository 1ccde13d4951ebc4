use Rattle.std.proofs.Common.{◌∙◌, ap, length}
use Rattle.term_replay.proofs.Contexts.{length-extended}
use Rattle.term_replay.proofs.Standing.{choice_stands}
use Rattle.term_replay.proofs.operate.choice.Goals as goal

pub returns-clause-value : goal.returns-clause-value
returns-clause-value c = λ v first i x y sm sa sc. choice_stands v first c.args.head i x y c.args.test.now c.args.yes.now c.args.no.now c.choose.result c.fitted.result c.truth.result sm sa sc c.truth.ensures c.requires.sides c.choose.ensures.sound c.choose.ensures.tight c.choose.ensures.blame c.fitted.ensures

pub returns-clause-width : goal.returns-clause-width
returns-clause-width c = ap length c.fitted.ensures.bits ∙ length-extended c.args.head.width c.args.head.signed c.choose.result.bits
