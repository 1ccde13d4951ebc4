use Rattle.std.proofs.Common.{arith, ◌∙◌}
use Rattle.bound_codes.proofs.Flags.{taken_more}
use Rattle.bound_codes.proofs.codes.signal_codes.Goals as goal

pub loop-signal-preserved : goal.loop-signal-preserved
loop-signal-preserved c =
    c.in_ok-push.ensures.items ∙ taken_more c.args.binding.now c.loop-signal.codes.items c.loop-signal.signal c.code_of.result c.loop-signal.invariant (omega (arith, c.loop-signal-test.true, c.requires)) c.code_of.ensures
