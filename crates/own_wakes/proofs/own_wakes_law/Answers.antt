use Rattle.own_wakes.proofs.OwnWakes.{answered_wakes}
use Rattle.own_wakes.proofs.own_wakes_law.Goals as goal

pub returns : goal.returns
returns c ms top d tokens is = answered_wakes ms top d tokens is
