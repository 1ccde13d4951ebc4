use Rattle.std.proofs.Common.{◌∙◌, sym, ap, arith}
use Rattle.std.specs.Prelude.{nat_lt}
use Rattle.four_state.proofs.Places.{is_set-zero}
use Rattle.design_model.specs.View.{design_view, term_view}
use Rattle.process_targets.proofs.Offsets.{any_part, begins_at, fits_found, found_signal, from_zero, inside_found, is_sized_found, known_part, no_part, part_of_none, signal_narrow, sized_found}
use Rattle.process_targets.proofs.parts.part_places.Goals as goal

pub returns-in_default : goal.returns-in_default
returns-in_default c i = is_set-zero i ∙ sym (part_of_none (design_view c.args.design.now) c.args.thing (term_view c.args.low.now) c.args.width i c.in_default.ensures.value)

pub first_place-requires-clause-sized : goal.first_place-requires-clause-sized
first_place-requires-clause-sized c = is_sized_found (design_view c.args.design.now) c.args.thing c.in-Some.signal.now c.requires.lawful c.in-Some.ensures.value

pub first_place-requires-clause-inside : goal.first_place-requires-clause-inside
first_place-requires-clause-inside c =
    inside_found (design_view c.args.design.now) c.args.thing (term_view c.args.low.now) c.args.width c.in-Some.signal.now c.in-Some-constant_value.index (found_signal (design_view c.args.design.now) c.args.thing c.in-Some.signal.now c.in-Some.ensures.value) (sym c.in-Some-constant_value.ensures.constant) c.in-Some-constant_value.ensures.value c.requires.right

pub places_from-requires-clause-inside : goal.places_from-requires-clause-inside
places_from-requires-clause-inside c =
    let few = fits_found (design_view c.args.design.now) c.args.thing (term_view c.args.low.now) c.args.width c.in-Some.signal.now c.in-Some-constant_value.index (found_signal (design_view c.args.design.now) c.args.thing c.in-Some.signal.now c.in-Some.ensures.value) (sym c.in-Some-constant_value.ensures.constant) c.in-Some-constant_value.ensures.value c.requires.right c.in-Some-first_place.first c.in-Some-first_place.ensures in
    omega (arith, few, signal_narrow (design_view c.args.design.now) c.args.thing c.requires.lawful)

pub places_from-requires-in-None-clause-some : goal.places_from-requires-in-None-clause-some
places_from-requires-in-None-clause-some c =
    (sized_found (design_view c.args.design.now) c.args.thing c.in-Some.signal.now c.requires.lawful c.in-Some.ensures.value).0

pub places_from-requires-in-None-clause-inside : goal.places_from-requires-in-None-clause-inside
places_from-requires-in-None-clause-inside c =
    omega (arith, (sized_found (design_view c.args.design.now) c.args.thing c.in-Some.signal.now c.requires.lawful c.in-Some.ensures.value).1)

pub returns-in-Some-first_place : goal.returns-in-Some-first_place
returns-in-Some-first_place c i =
    let d = design_view c.args.design.now in
    let low = term_view c.args.low.now in
    let is = found_signal d c.args.thing c.in-Some.signal.now c.in-Some.ensures.value in
    let constant = sym c.in-Some-constant_value.ensures.constant in
    let begins = begins_at d c.args.thing low c.args.width c.in-Some.signal.now c.in-Some-constant_value.index is constant c.in-Some-constant_value.ensures.value in
    let few = fits_found d c.args.thing low c.args.width c.in-Some.signal.now c.in-Some-constant_value.index is constant c.in-Some-constant_value.ensures.value c.requires.right c.in-Some-first_place.first c.in-Some-first_place.ensures in
    c.places_from.ensures i ∙ sym (known_part d c.args.thing low c.args.width i c.in-Some-first_place.first constant (sym begins ∙ sym c.in-Some-first_place.ensures) few)

pub returns-in-None-first_place : goal.returns-in-None-first_place
returns-in-None-first_place c i =
    let d = design_view c.args.design.now in
    let low = term_view c.args.low.now in
    let is = found_signal d c.args.thing c.in-Some.signal.now c.in-Some.ensures.value in
    let constant = sym c.in-Some-constant_value.ensures.constant in
    let begins = begins_at d c.args.thing low c.args.width c.in-Some.signal.now c.in-Some-constant_value.index is constant c.in-Some-constant_value.ensures.value in
    is_set-zero i ∙ sym (no_part d c.args.thing low c.args.width i constant (sym begins ∙ sym c.in-None-first_place.ensures))

pub returns-in-None : goal.returns-in-None
returns-in-None c i =
    let d = design_view c.args.design.now in
    let is = found_signal d c.args.thing c.in-Some.signal.now c.in-Some.ensures.value in
    c.places_from-in-None.ensures i ∙ from_zero i c.in-Some.signal.now.width ∙ ap (λ x. nat_lt i x.width) is ∙ sym (any_part d c.args.thing (term_view c.args.low.now) c.args.width i (sym c.in-None.ensures.constant))
