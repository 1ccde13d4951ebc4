use Rattle.vcd_reader.proofs.MaskLemmas.{masks_more}
use Rattle.vcd_reader.proofs.masks.Masks.with_bit.Goals as goal

pub returns-clause-masks : goal.returns-clause-masks
returns-clause-masks c = λ bits masks. rw (c.from.ensures, c.from-2.ensures, c.is_one_or_z.ensures, c.is_strange.ensures) (masks_more bits c.args.bit c.args.self.ones c.args.self.strange masks)
