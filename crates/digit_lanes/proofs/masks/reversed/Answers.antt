use Rattle.std.proofs.lemmas.Simd.{length-chunk}
use lib.Lanes.{chunk}
use Rattle.digit_lanes.proofs.MaskLemmas.{lanes_reversed}
use Rattle.digit_lanes.proofs.masks.reversed.Goals as goal

pub returns : goal.returns
returns c = lanes_reversed (chunk c.args.start 16 c.args.bytes.now) (length-chunk c.args.start 16 c.args.bytes.now c.requires)
