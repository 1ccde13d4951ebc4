use Rattle.std.proofs.Common.{arith}
use Rattle.std.proofs.lemmas.Grind.{common_steps}
use Rattle.elab_scope.proofs.ConnectionLemmas.{has_only}
use Rattle.elab_ports.proofs.given.set_of.Goals as goal

pub loop-name-preserved : goal.loop-name-preserved
loop-name-preserved c = rw c.in_ok-add.ensures.names (grind (arith, common_steps))

pub returns : goal.returns
returns c = grind (arith, common_steps, has_only)
