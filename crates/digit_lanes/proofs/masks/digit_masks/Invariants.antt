use Rattle.std.proofs.Common.{◌≡◌, ◌+◌, ◌-◌, ◌*◌, ◌/◌, ◌≤◌, map, reverse, take}
use Rattle.std.specs.Simd.Lanes.{mask_l}
use Rattle.digit_lanes.specs.Bytes.{writes_one_or_z, writes_strange}
use Rattle.digit_lanes.proofs.masks.digit_masks.Given as goal

abbrev pub invariant-loop-start : goal.invariant-loop-start
invariant-loop-start l = record {
  within : l.start ≤ l.count;
  whole : l.count ≡ l.start + 16 * ((l.count - l.start) / 16);
  ones : l.all_ones ≡ mask_l (map writes_one_or_z (reverse (take l.start l.bytes)));
  strange : l.all_strange ≡ mask_l (map writes_strange (reverse (take l.start l.bytes)));
}

abbrev pub decreases-loop-start : goal.decreases-loop-start
decreases-loop-start l = l.count - l.start
