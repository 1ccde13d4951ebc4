use Rattle.std.proofs.Common.{◌∙◌, sym, arith}
use Rattle.term_replay.proofs.Standing.{same_fits, same_flag, slow_fits, whole_fits}
use Rattle.term_replay.proofs.fit.fitted.Goals as goal

pub returns-then-is_signed-head : goal.returns-then-is_signed-head
returns-then-is_signed-head c = same_fits c.args.head c.args.value.now (omega arith) (sym c.is_signed.ensures ∙ same_flag c.is_signed.result c.args.head.signed c.if-is_signed-head.true)

pub returns-then-is_whole : goal.returns-then-is_whole
returns-then-is_whole c =
    whole_fits c.args.head c.value.result c.args.value.now c.whole_fitted.result (c.value.ensures.whole (sym c.is_whole.ensures ∙ c.if-is_whole.true)) c.whole_fitted.ensures

pub returns : goal.returns
returns c =
    let sound = rw c.width-2.ensures.value at c.extend-value.ensures.sound in
    let tight = rw c.width-2.ensures.value at c.extend-value.ensures.tight in
    slow_fits c.args.head c.args.value.now c.extend-value.result c.extend.result sound tight c.extend-value.ensures.blame c.extend.ensures.sound c.extend.ensures.tight c.extend.ensures.blame
