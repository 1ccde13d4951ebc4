use Rattle.std.proofs.Common.{◌≡◌, ◌-ℤ◌, ap, arith, min, negsuc, Some, sym, w64, to_z, of_z, ◌∙◌}
use Rattle.std.proofs.lemmas.Int.{ints}
use Rattle.value_store.specs.Near.{far, near_option}
use Rattle.value_store.proofs.Indexes.{below_zero}
use Rattle.value_store.proofs.offset.near_index.Goals as goal

pub returns-in-Below : goal.returns-in-Below
returns-in-Below c =
    let is = below_zero c.args.index.now.signed c.args.index.now.bits c.in-Below.ensures in
    let cut : c.min.result ≡ min c.known_zeros.result far = c.min.ensures in
    let number : to_z w64 (of_z w64 (negsuc 0 -ℤ to_z w64 c.min.result)) ≡ negsuc (min c.known_zeros.result far) = omega (arith, ints, cut) in
    ap Some number ∙ ap (λ n. near_option (Some (negsuc n))) c.known_zeros.ensures.value ∙ ap near_option (sym is)
