use Rattle.std.proofs.Common.{◌∙◌, sym, ap, arith}
use Rattle.std.specs.Prelude.{nat_lt}
use Rattle.four_state.proofs.Places.{is_set-zero}
use Rattle.design_model.specs.View.{design_view}
use Rattle.process_targets.proofs.Offsets.{found_signal, from_zero, no_places, sized_found}
use Rattle.process_targets.proofs.parts.all_places.Goals as goal

pub places_from-requires-clause-some : goal.places_from-requires-clause-some
places_from-requires-clause-some c =
    (sized_found (design_view c.args.design.now) c.args.thing c.in-Some.signal.now c.requires c.in-Some.ensures.value).0

pub places_from-requires-clause-inside : goal.places_from-requires-clause-inside
places_from-requires-clause-inside c =
    omega (arith, (sized_found (design_view c.args.design.now) c.args.thing c.in-Some.signal.now c.requires c.in-Some.ensures.value).1)

pub returns-in-Some : goal.returns-in-Some
returns-in-Some c i =
    c.places_from.ensures i ∙ from_zero i c.in-Some.signal.now.width ∙ ap (λ s. nat_lt i s.width) (found_signal (design_view c.args.design.now) c.args.thing c.in-Some.signal.now c.in-Some.ensures.value)

pub returns-in-None : goal.returns-in-None
returns-in-None c i = is_set-zero i ∙ sym (no_places (design_view c.args.design.now) c.args.thing i c.in-None.ensures.value)
