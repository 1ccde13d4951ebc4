use Rattle.std.proofs.Common.{◌∙◌, ap, sym}
use Rattle.known_state.specs.Partly.{whole_of}
use Rattle.term_replay.proofs.Joining.{slow_appended, whole_appended}
use Rattle.term_replay.proofs.repeated.appended.Goals as goal

pub returns-then-is_whole-2-clause-bits : goal.returns-then-is_whole-2-clause-bits
returns-then-is_whole-2-clause-bits c =
    whole_appended c.args.high.now c.args.low.now c.whole.result c.value.result c.value-then-is_whole-2.result (c.value.ensures.whole (sym c.is_whole.ensures ∙ c.if-is_whole.true)) (c.value-then-is_whole-2.ensures.whole (sym c.is_whole-then-is_whole.ensures ∙ c.if-is_whole-2.true)) (c.whole.ensures ∙ ap whole_of c.append.ensures)

pub returns-clause-bits : goal.returns-clause-bits
returns-clause-bits c = slow_appended c.args.high.now c.args.low.now c.append-2.result c.append-2.ensures.sound c.append-2.ensures.tight
