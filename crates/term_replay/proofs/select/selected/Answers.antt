use Rattle.std.proofs.Common.{◌≡◌, ◌∙◌, ap, arith, sym, to_z, of_z, w64}
use Rattle.std.proofs.lemmas.Int.{ints}
use Rattle.four_state.specs.Parts.{selected_vector}
use Rattle.known_state.specs.Partly.{whole_of}
use Rattle.body_replay.specs.KnownBits.{select_option}
use Rattle.term_replay.proofs.Selecting.{slow_selected, whole_blame, whole_selected}
use Rattle.term_replay.proofs.select.selected.Goals as goal

pub returns-in-None-clause-blame : goal.returns-in-None-clause-blame
returns-in-None-clause-blame c = λ u. whole_blame c.whole.result c.fill.result _ c.whole.ensures u

pub returns-in-Some-clause-bits : goal.returns-in-Some-clause-bits
returns-in-Some-clause-bits c =
    let same : to_z w64 (of_z w64 c.in-Some.low) ≡ c.in-Some.low = omega (arith, ints) in
    whole_selected c.args.of.now c.whole-in-Some.result c.value.result c.in-Some.low c.args.width (c.value.ensures.whole (sym c.is_whole.ensures ∙ c.if-is_whole.true)) (c.whole-in-Some.ensures ∙ ap whole_of (c.select.ensures ∙ ap (λ z. selected_vector z c.args.width c.value.result) same)) ∙ ap (λ o. select_option c.args.of.now.bits o c.args.width) (sym c.in-Some.is)

pub returns-in-Some-2-clause-bits : goal.returns-in-Some-2-clause-bits
returns-in-Some-2-clause-bits c =
    let same : to_z w64 (of_z w64 c.in-Some-2.low) ≡ c.in-Some-2.low = omega (arith, ints) in
    let sound = rw same at c.select-in-Some-2.ensures.sound in
    let tight = rw same at c.select-in-Some-2.ensures.tight in
    slow_selected c.args.of.now c.select-in-Some-2.result c.in-Some-2.low c.args.width sound tight ∙ ap (λ o. select_option c.args.of.now.bits o c.args.width) (sym c.in-Some-2.is)
