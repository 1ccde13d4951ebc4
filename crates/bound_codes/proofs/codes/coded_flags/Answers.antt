use Rattle.std.proofs.Common.{None}
use Rattle.std.proofs.lemmas.List.{get_or_default}
use Rattle.bound_codes.proofs.Flags.{flags_more, flags_of_all, no_flags}
use Rattle.bound_codes.proofs.codes.coded_flags.Goals as goal

pub loop-code-init : goal.loop-code-init
loop-code-init c = no_flags c.args.codes.now c.new-flags.result.items c.new-flags.ensures.items

pub loop-code-preserved : goal.loop-code-preserved
loop-code-preserved c =
    flags_more c.args.codes.now c.loop-code.flags.items c.set_code.new.flags.items c.loop-code.code-index _ c.loop-code.invariant c.loop-code-test.true (get_or_default c.args.codes.now c.loop-code.code-index _ None c.loop-code-test.true) c.in_ok-set_code.ensures

pub returns : goal.returns
returns c = flags_of_all c.args.codes.now c.loop-code.flags.items c.loop-code.code-index c.loop-code-test.false c.loop-code.invariant
