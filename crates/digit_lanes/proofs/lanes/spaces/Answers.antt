use Rattle.std.proofs.Common.{refl, arith}
use Rattle.std.proofs.lemmas.Simd.{zip2_splat}
use Rattle.digit_lanes.specs.Bytes.{is_white_space}
use Rattle.digit_lanes.proofs.LaneLemmas.{joined, masked, splat_is}
use Rattle.digit_lanes.proofs.lanes.spaces.Goals as goal

pub returns : goal.returns
returns c =
    let v = c.args.bytes in
    let long = c.fits-bytes.0 in
    masked _ is_white_space v _ (omega arith) c.fits-bytes.1 (joined _ _ _ v (zip2_splat _ v 16 32 long) (joined _ _ _ v (zip2_splat _ v 16 9 long) (splat_is v 16 5 long))) refl
