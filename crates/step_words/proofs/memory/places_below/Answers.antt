use Rattle.std.proofs.Common.{arith, ◌-◌, ◌∙◌, ap, ◌^◌}
use Rattle.std.proofs.lemmas.Nat.Bits.{ones_shr}
use Rattle.step_words.proofs.memory.places_below.Goals as goal

pub returns : goal.returns
returns c = ones_shr 128 (128 - c.args.width) (omega arith) ∙ ap (λ n. 2 ^ n - 1) (omega arith)
