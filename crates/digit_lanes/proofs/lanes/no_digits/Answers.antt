use Rattle.std.proofs.Common.{refl, arith}
use Rattle.std.proofs.lemmas.Simd.{zip2_splat}
use Rattle.digit_lanes.specs.Bytes.{is_no_digit}
use Rattle.digit_lanes.proofs.LaneLemmas.{joined, masked, splat_is}
use Rattle.digit_lanes.proofs.lanes.no_digits.Goals as goal

pub returns : goal.returns
returns c =
    let v = c.args.bytes in
    let long = c.fits-bytes.0 in
    masked _ is_no_digit v _ (omega arith) c.fits-bytes.1
    (joined _ _ _ v (joined _ _ _ v (zip2_splat _ v 16 1 long) (splat_is v 16 49 long)) (joined _ _ _ v (zip2_splat _ v 16 221 long) (splat_is v 16 88 long))) refl
