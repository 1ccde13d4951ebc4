use Rattle.std.proofs.Common.{ap, arith, get_or, subst, sym}
use Rattle.std.proofs.lemmas.List.{take_all}
use Rattle.std.proofs.lemmas.List.Elements.{All-get_or}
use Rattle.design_model.specs.View.{design_view}
use Rattle.process_targets.specs.Placed.{no_bits}
use Rattle.process_targets.specs.Rows.{IsInside}
use Rattle.process_targets.specs.Targets.{names, row_has}
use Rattle.step_values.specs.Vectors.{FitsSignals}
use Rattle.settled_targets.specs.Returned.{Returns}
use Rattle.settled_targets.specs.Saved.{AreSaved, IsSaved}
use Rattle.settled_targets.proofs.Returning.{none_returned, one_returned}
use Rattle.settled_targets.proofs.saved.SavedValues.put_back.Goals as goal

pub loop-place-init : goal.loop-place-init
loop-place-init c = none_returned c.args.codes.now c.args.is_kept c.args.is_made (λ d k. AreSaved d k c.args.targets.now c.args.self.now) c.args.store.now c.args.values.now

pub at-saved-requires : goal.at-saved-requires
at-saved-requires c = let room = c.requires.saved.1.room in omega (arith, room, c.loop-place-test.true)

pub put_back_bits-requires-clause-saved : goal.put_back_bits-requires-clause-saved
put_back_bits-requires-clause-saved c =
    let k = c.requires.saved.0 in
    let row = c.args.targets.now in
    let i = c.loop-place.place in
    let one : IsSaved (design_view c.args.store.now.design.now) k (get_or row i no_bits).signal c.at-saved.result = subst (IsSaved (design_view c.args.store.now.design.now) k (get_or row i no_bits).signal) (sym c.at-saved.ensures) (c.requires.saved.1.each i c.loop-place-test.true) in
    (k, subst (λ e. IsSaved e k (get_or row i no_bits).signal c.at-saved.result) (sym (ap (λ x. design_view x.now) c.loop-place.invariant.design)) one)

pub put_back_bits-requires-clause-known : goal.put_back_bits-requires-clause-known
put_back_bits-requires-clause-known c =
    let d = c.requires.known.0 in
    let h = c.requires.known.2 in
    let k = c.requires.saved.0 in
    let saved : AreSaved d k c.args.targets.now c.args.self.now = subst (λ e. AreSaved e k c.args.targets.now c.args.self.now) h.design c.requires.saved.1 in
    (d, _, c.loop-place.invariant.knows d k c.requires.known.1 saved h)

pub put_back_bits-requires-clause-fits : goal.put_back_bits-requires-clause-fits
put_back_bits-requires-clause-fits c =
    subst (λ e. FitsSignals e c.loop-place.values) (sym (ap (λ x. design_view x.now) c.loop-place.invariant.design)) (c.loop-place.invariant.fits (design_view c.args.store.now.design.now) c.requires.fits)

pub put_back_bits-requires-clause-inside : goal.put_back_bits-requires-clause-inside
put_back_bits-requires-clause-inside c =
    let d = design_view c.args.store.now.design.now in
    subst (λ e. IsInside e (get_or c.args.targets.now c.loop-place.place no_bits)) (sym (ap (λ x. design_view x.now) c.loop-place.invariant.design)) (All-get_or (IsInside d) c.args.targets.now c.loop-place.place no_bits c.loop-place-test.true c.requires.inside)

pub loop-place-preserved : goal.loop-place-preserved
loop-place-preserved c =
    let row = c.args.targets.now in
    let i = c.loop-place.place in
    one_returned c.args.codes.now row i no_bits c.args.is_kept c.args.is_made (λ d k. AreSaved d k row c.args.self.now) (λ d k. IsSaved d k (get_or row i no_bits).signal c.at-saved.result) c.loop-place-test.true c.requires.once
    (λ d k saved. subst (IsSaved d k (get_or row i no_bits).signal) (sym c.at-saved.ensures) (saved.each i c.loop-place-test.true))
    c.args.store.now c.loop-place.store c.put_back_bits.new.store c.args.values.now c.loop-place.values c.put_back_bits.new.values c.loop-place.invariant c.put_back_bits.ensures

pub returns : goal.returns
returns c = subst (λ row. Returns c.args.codes.now (names row) (row_has row) c.args.is_kept c.args.is_made (λ d k. AreSaved d k c.args.targets.now c.args.self.now) c.args.store.now c.loop-place.store c.args.values.now c.loop-place.values) (take_all c.loop-place.place c.args.targets.now c.loop-place-test.false) c.loop-place.invariant
