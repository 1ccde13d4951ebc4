use Rattle.std.proofs.Common.{◌≡◌, ◌∙◌, ◌<◌, ◌==◌, ◌||◌, length, get_or, slice_set, sym, ap, subst}
use Rattle.std.proofs.lemmas.List.{get_or_default}
use Rattle.process_targets.specs.Placed.{ArePlaced, IsPlaceOf, no_bits}
use Rattle.process_targets.specs.Targets.{has_bit, names, row_has}
use Rattle.process_targets.proofs.Placing.{put_placed}
use Rattle.process_targets.proofs.RowLemmas.{put_has, put_names, with_mask}
use Rattle.process_targets.proofs.bits.add_bits.Goals as goal

-- the bits that are there are of the signal
found : (c : goal.After-row-1) → (c.in-Some.place < length c.args.row.now.items) × ((get_or c.args.row.now.items c.in-Some.place c.index_mut.result.now).signal ≡ c.args.bits.signal)
found c =
    let place : IsPlaceOf c.as_slice.result.now c.args.bits.signal c.place_of.result = c.place_of.ensures in
    let there : IsPlaceOf c.args.row.now.items c.args.bits.signal c.place_of.result = subst (λ xs. IsPlaceOf xs c.args.bits.signal c.place_of.result) c.as_slice.ensures.value place in
    let at : (c.in-Some.place < length c.args.row.now.items) × ((get_or c.args.row.now.items c.in-Some.place no_bits).signal ≡ c.args.bits.signal) = subst (IsPlaceOf c.args.row.now.items c.args.bits.signal) c.in-Some.is there in
    (at.0, ap (λ b. b.signal) (get_or_default c.args.row.now.items c.in-Some.place c.index_mut.result.now no_bits at.0) ∙ at.1)

pub returns-in-Some-clause-placed : goal.returns-in-Some-clause-placed
returns-in-Some-clause-placed c =
    subst (λ b. ArePlaced (slice_set c.args.row.now.items c.in-Some.place (with_mask b c.args.bits.mask)) c.args.places.now) (sym c.index_mut.ensures.value) (put_placed c.args.row.now.items c.args.places.now c.in-Some.place c.args.bits.mask c.index_mut.result.now (found c).0 c.requires.placed)

pub returns-in-Some-clause-has : goal.returns-in-Some-clause-has
returns-in-Some-clause-has c x =
    subst (λ b. row_has (slice_set c.args.row.now.items c.in-Some.place (with_mask b c.args.bits.mask)) x ≡ (row_has c.args.row.now.items x || has_bit c.args.bits x)) (sym c.index_mut.ensures.value) (put_has c.args.row.now.items c.in-Some.place c.args.bits.signal c.args.bits.mask c.index_mut.result.now x (found c).0 (found c).1)

pub returns-in-Some-clause-named : goal.returns-in-Some-clause-named
returns-in-Some-clause-named c s =
    subst (λ b. names (slice_set c.args.row.now.items c.in-Some.place (with_mask b c.args.bits.mask)) s ≡ (names c.args.row.now.items s || c.args.bits.signal == s)) (sym c.index_mut.ensures.value) (put_names c.args.row.now.items c.in-Some.place c.args.bits.signal c.args.bits.mask s c.index_mut.result.now (found c).0 (found c).1)
