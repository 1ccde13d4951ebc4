use Rattle.std.proofs.Common.{◌∙◌, sym, subst}
use Rattle.four_state.proofs.Places.{is_set-zero}
use Rattle.process_targets.specs.Placed.{IsPlaceOf}
use Rattle.process_targets.proofs.Placing.{placed_has, unnamed_has}
use Rattle.process_targets.proofs.bits.mask_of.Goals as goal

pub returns-in-Some : goal.returns-in-Some
returns-in-Some c i =
    let at = subst (IsPlaceOf c.args.row.now c.args.signal) c.in-Some.is c.place_of.ensures in
    placed_has c.args.row.now c.args.places.now c.in-Some.place c.args.signal i c.requires.placed at.0 at.1

pub returns-in-None : goal.returns-in-None
returns-in-None c i =
    is_set-zero i ∙ sym (unnamed_has c.args.row.now c.args.signal i (subst (IsPlaceOf c.args.row.now c.args.signal) c.in-None.is c.place_of.ensures))
