use Rattle.std.proofs.Common.{◌∙◌, ◌-◌, ◌*◌, ◌%◌, ◌^◌, ap, arith}
use Rattle.four_state.specs.Masks.{is_set}
use Rattle.std.proofs.lemmas.Nat.Bits.{ones_shr}
use Rattle.process_targets.proofs.Masks.{moved_cut}
use Rattle.process_targets.proofs.places.places_from.Goals as goal

pub returns : goal.returns
returns c i =
    ap (λ a. is_set (a * 2 ^ c.args.first % 2 ^ 128) i) (ones_shr 128 (128 - c.args.width) (omega arith) ∙ ap (λ n. 2 ^ n - 1) (omega (arith, c.requires.inside)))
    ∙ moved_cut c.args.width c.args.first i c.requires.inside
