use Rattle.std.proofs.Common.{◌==◌, ap}
use Rattle.std.proofs.lemmas.Nat.Bits.{shr_and_one}
use Rattle.four_state.specs.Masks.{is_set}
use Rattle.known_digits.proofs.digits.has_place.Goals as goal

pub returns : goal.returns
unfolding is_set
returns c = ap (λ n. n == 1) (shr_and_one c.args.mask c.args.place)
