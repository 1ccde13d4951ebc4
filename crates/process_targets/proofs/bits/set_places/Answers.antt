use Rattle.std.proofs.Common.{◌∙◌, ◌<◌, get_or, refl, subst, sym}
use Rattle.std.proofs.lemmas.List.{length-set}
use Rattle.process_targets.specs.Placed.{no_bits}
use Rattle.process_targets.proofs.Placing.{named_at, place_more}
use Rattle.process_targets.proofs.bits.set_places.Goals as goal

pub bounds-places-row : goal.bounds-places-row
bounds-places-row c =
    let s = (get_or c.args.row.now c.loop-place.place no_bits).signal in
    subst (λ n. s < n) (sym c.loop-place.invariant.size) (c.requires.within s (named_at c.args.row.now c.loop-place.place s c.loop-place-test.true refl))

pub loop-place-preserved : goal.loop-place-preserved
loop-place-preserved c =
    let s = (get_or c.args.row.now c.loop-place.place no_bits).signal in
    let below = subst (λ n. s < n) (sym c.loop-place.invariant.size) (c.requires.within s (named_at c.args.row.now c.loop-place.place s c.loop-place-test.true refl)) in
    record {
      size = length-set c.loop-place.places s c.loop-place.place ∙ c.loop-place.invariant.size;
      placed = place_more c.args.row.now c.loop-place.places c.loop-place.place c.requires.once c.loop-place-test.true below c.loop-place.invariant.placed;
    }
