use Rattle.std.proofs.Common.{arith, rules}
use Rattle.four_state.proofs.PartLaws.{lowered_places, lowered_out}
use Rattle.four_state.proofs.mask.lowered.Goals as goal

pub returns-then-places-lt128 : goal.returns-then-places-lt128
returns-then-places-lt128 c = λ i. lowered_places c.args.mask i c.args.places

pub returns-else-places-lt128 : goal.returns-else-places-lt128
returns-else-places-lt128 c = λ i. lowered_out c.args.mask i c.args.places (search rules) (omega arith)
