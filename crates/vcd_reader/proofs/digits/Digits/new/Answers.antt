use Rattle.std.proofs.Common.{refl}
use Rattle.vcd_reader.proofs.MaskLemmas.{masks_none}
use Rattle.vcd_reader.proofs.digits.Digits.new.Goals as goal

pub returns : goal.returns
returns c = record { count = refl; each = refl; masks = λ few. masks_none; goes_on = refl }
