use Rattle.std.proofs.Common.{arith}
use Rattle.four_state.proofs.PartLaws.{raised_places, raised_out}
use Rattle.four_state.proofs.mask.raised.Goals as goal

pub returns-then-places-lt128 : goal.returns-then-places-lt128
returns-then-places-lt128 c = λ i h. raised_places c.args.mask i c.args.places h

pub returns-else-places-lt128 : goal.returns-else-places-lt128
returns-else-places-lt128 c = λ i h. raised_out c.args.mask i c.args.places (omega arith)
