use Rattle.std.proofs.Common.{◌∙◌, ap}
use Rattle.known_state.specs.Partly.{whole_of}
use Rattle.term_replay.proofs.Standing.{whole_extended}
use Rattle.term_replay.proofs.fit.whole_fitted.Goals as goal

pub returns : goal.returns
returns c =
    let first = rw c.width.ensures.value at c.extend-own.ensures in
    c.whole.ensures ∙ ap whole_of (whole_extended c.args.head c.args.value.now c.extend-own.result c.extend.result first c.extend.ensures)
