use Rattle.std.proofs.Common.{◌∙◌}
use Rattle.vcd_reader.proofs.DigitLemmas.{value_of_digits}
use Rattle.vcd_reader.proofs.digits.Digits.value.Goals as goal

pub returns : goal.returns
returns c = λ word digits. c.extend.ensures ∙ rw c.make-digits.ensures.value (value_of_digits c.args.self.now word c.args.size digits c.requires.some c.requires.fits c.requires.kept)
