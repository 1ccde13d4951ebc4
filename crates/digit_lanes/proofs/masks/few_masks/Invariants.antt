use Rattle.std.proofs.Common.{◌≡◌, map, reverse, take}
use Rattle.std.specs.Simd.Lanes.{mask_l}
use Rattle.digit_lanes.specs.Bytes.{writes_one_or_z, writes_strange}
use Rattle.digit_lanes.proofs.masks.few_masks.Given as goal

abbrev pub invariant-loop-digit : goal.invariant-loop-digit
invariant-loop-digit l =
    (l.all_ones ≡ mask_l (map writes_one_or_z (reverse (take l.digit-index l.digits)))) × (l.all_strange ≡ mask_l (map writes_strange (reverse (take l.digit-index l.digits))))
