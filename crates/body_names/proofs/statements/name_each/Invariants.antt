use Rattle.std.proofs.Common.{drop}
use Rattle.body_names.proofs.Taking.{TakesOn}
use Rattle.body_names.proofs.statements.name_each.Given as goal

-- those so far, and the rest, are all
abbrev pub invariant-loop-thing : goal.invariant-loop-thing
invariant-loop-thing g l = g.N.Names.ready l.names × TakesOn g.N.Names.named l.fn.names l.fn.things l.names (drop l.thing-index l.things)
