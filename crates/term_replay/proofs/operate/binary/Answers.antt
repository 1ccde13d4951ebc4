use Rattle.std.proofs.Common.{◌∙◌, ap, length}
use Rattle.term_replay.proofs.Contexts.{length-extended}
use Rattle.term_replay.proofs.Standing.{binary_stands}
use Rattle.term_replay.proofs.operate.binary.Goals as goal

pub returns-clause-value : goal.returns-clause-value
returns-clause-value c = λ v first x y sa sc. binary_stands v first c.args.head c.args.op x y c.args.left.now c.args.right.now c.binary.result c.fitted.result sa sc c.requires.operands c.binary.ensures.sound c.binary.ensures.tight c.binary.ensures.unsure_shift c.binary.ensures.blame c.fitted.ensures

pub returns-clause-width : goal.returns-clause-width
returns-clause-width c = ap length c.fitted.ensures.bits ∙ length-extended c.args.head.width c.args.head.signed c.binary.result.bits
