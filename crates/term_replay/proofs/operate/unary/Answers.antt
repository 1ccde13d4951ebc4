use Rattle.std.proofs.Common.{◌∙◌, ap, length}
use Rattle.term_replay.proofs.Contexts.{length-extended}
use Rattle.term_replay.proofs.Standing.{unary_stands}
use Rattle.term_replay.proofs.operate.unary.Goals as goal

pub returns-clause-value : goal.returns-clause-value
returns-clause-value c = λ v first x sa. unary_stands v first c.args.head c.args.op x c.args.operand.now c.unary.result c.fitted.result sa c.unary.ensures.sound c.unary.ensures.tight c.unary.ensures.blame c.fitted.ensures

pub returns-clause-width : goal.returns-clause-width
returns-clause-width c = ap length c.fitted.ensures.bits ∙ length-extended c.args.head.width c.args.head.signed c.unary.result.bits
