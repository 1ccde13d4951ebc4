use Rattle.std.proofs.Common.{◌&&◌, not}
use Rattle.elab_instances.proofs.used.Uses.new.Goals as goal

pub returns : goal.returns
returns c t x = c.in_ok-used_names.ensures t x && not (c.in_ok-loop_variables.ensures t x)
