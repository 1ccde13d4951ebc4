use Rattle.std.proofs.Common.{◌∙◌, sym}
use Rattle.early_sets.specs.WakeState.{state_of}
use Rattle.early_sets.proofs.Membership.{is_in_is}
use Rattle.still_check.proofs.Moves.{moved_or}
use Rattle.still_check.proofs.moved.moved.Goals as goal

pub returns : goal.returns
returns c = λ st at.
    let still = sym (is_in_is (state_of c.args.sets.now).moves c.args.signal c.may_move.result c.may_move.ensures) ∙ c.if-may_move.false in
    moved_or st c.args.store.now (state_of c.args.sets.now) c.args.codes.now c.args.values.now.last c.args.signal at still c.different.result (c.different.ensures st at.knows at.dumped)
