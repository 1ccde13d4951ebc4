use Rattle.std.proofs.Common.{refl, arith}
use Rattle.std.proofs.lemmas.Simd.{zip2_splat}
use Rattle.digit_lanes.specs.Bytes.{writes_one_or_z}
use Rattle.digit_lanes.proofs.LaneLemmas.{joined, masked, splat_is}
use Rattle.digit_lanes.proofs.lanes.ones.Goals as goal

pub returns : goal.returns
returns c =
    let v = c.args.digits in
    let long = c.fits-digits.0 in
    masked _ writes_one_or_z v _ (omega arith) c.fits-digits.1 (joined _ _ _ v (zip2_splat _ v 16 48 long) (joined _ _ _ v (zip2_splat _ v 16 32 long) (splat_is v 16 120 long))) refl
